-- A dead letter reads back as its message.
use Rattle.std.proofs.Common.{◌≡◌, ℕ, ◌<◌, ◌≤◌, ◌^◌, Bool, true, false, List, [], length, refl, ap, ◌∙◌, arith, Option, Some, None, Ok}
use Rattle.std.specs.Prelude.{nat_le, nat_lt, is_some}
use Rattle.std.specs.Str.{is_utf8}
use Rattle.std.proofs.lemmas.Str.{is_utf8-from_IsUtf8}
use Rattle.std.proofs.lemmas.Fmt.{length-decimal-le}
use Rattle.std.proofs.lemmas.Bool.{and_parts, leb-true, le-leb, le-ltb, both_ways}
use Rattle.serde_json.specs.Data.{Data, object}
use Rattle.serde_json.specs.Read.{read}
use Rattle.serde_json.specs.Find.{as_object}
use Rattle.serde_json.proofs.OnLiterals.{serde_json_on_literals}
use Rattle.esm_model.specs.declared.limits.TheConstants.{MAX_LINE, MAX_DATA}
use Rattle.esm_model.specs.declared.moment.TheConstants.{MAX_MOMENT}
use Rattle.esm_model.specs.declared.item.Message.{Message}
use Rattle.esm_model.specs.Numbers.{decimal}
use Rattle.esm_model.specs.ValidMessage.{is_message_id, is_message_body, is_message_group, IsValidMessage}
use Rattle.esm_model.specs.declared.item.Item.TheVariants as item
use Rattle.esm_model.specs.declared.item.LineKind.TheVariants as kinds
use Rattle.esm_record.specs.Line.{message_of}
use Rattle.esm_model.specs.Items.{queue_kind}
use Rattle.esm_record.specs.Input.{is_blank, read_after}
use Rattle.esm_redrive_model.specs.DeadLetter.{dead_letter}
use Rattle.esm_redrive.specs.DeadFile.{message_read}
use Rattle.esm_redrive.specs.ReadsBack.{IsUtf8Message, ReadsBack}
use Rattle.esm_redrive.proofs.DeadLines.{alone}
use Rattle.esm_redrive.proofs.OneLine.{letter_clear}
use Rattle.esm_redrive.proofs.Letters.{letter_text, letter_is, letter_members, letter_read, letter_utf8, group_length, letter_short}

-- the fields of the object are those of the message

fields_are : (fifo : Bool) (id body : List ℕ) (sent : ℕ) (group : Option (List ℕ)) → IsValidMessage (queue_kind fifo) (record { id = id; group = group; body = body; sent = sent })
    → message_of fifo (object (letter_members id body sent group)) ≡ Ok (record { id = id; group = group; body = body; sent = sent })
unfolding serde_json_on_literals
fields_are true id body sent None valid = absurd (both_ways false refl valid.group)
fields_are true id body sent (Some group) valid =
    let in_time : nat_le sent MAX_MOMENT ≡ true = le-leb sent MAX_MOMENT valid.sent in
    let named : is_message_group group ≡ true = valid.group in
    rw (valid.id, valid.body, in_time, named) refl
fields_are false id body sent None valid =
    let in_time : nat_le sent MAX_MOMENT ≡ true = le-leb sent MAX_MOMENT valid.sent in
    rw (valid.id, valid.body, in_time) refl
fields_are false id body sent (Some group) valid = absurd (both_ways false refl valid.group)

-- a line of such an object
line_reads : (fifo : Bool) (line : List ℕ) (d : Data) (m : Message) → nat_lt MAX_LINE (length line) ≡ false → is_blank line ≡ false → is_utf8 line ≡ true → read line ≡ Some d → is_some (as_object d) ≡ true → message_of fifo d ≡ Ok m
    → read_after (kinds.Queue fifo) [] line ≡ Ok (Some (item.Queue m))
line_reads fifo line d m short some utf8 reads is fields = rw (short, some, utf8, reads, is, fields) refl

-- the line is not too long

group_low : (fifo : Bool) (m : Message) (group : Option (List ℕ)) → m.group ≡ group → IsValidMessage (queue_kind fifo) m → group_length group ≤ 128
group_low fifo m None is valid = omega arith
group_low true m (Some group) is valid =
    let named : is_message_group group ≡ true = rw is at valid.group in
    let sized = and_parts _ _ named in
    let bounds = and_parts _ _ sized.0 in
    leb-true (length group) 128 bounds.1
group_low false m (Some group) is valid = absurd (both_ways false refl (rw is at valid.group))

id_low : (id : List ℕ) → is_message_id id ≡ true → length id ≤ 100
id_low id is = let sized = and_parts _ _ is in let bounds = and_parts _ _ sized.0 in leb-true (length id) 100 bounds.1

body_low : (body : List ℕ) → is_message_body body ≡ true → length body ≤ MAX_DATA
body_low body is = let sized = and_parts _ _ is in let bounds = and_parts _ _ sized.0 in leb-true (length body) MAX_DATA bounds.1

not_long : (fifo : Bool) (m : Message) → IsValidMessage (queue_kind fifo) m → nat_lt MAX_LINE (length (letter_text m.id m.body m.sent m.group)) ≡ false
not_long fifo m valid =
    let i : length m.id ≤ 100 = id_low m.id valid.id in
    let b : length m.body ≤ MAX_DATA = body_low m.body valid.body in
    let g : group_length m.group ≤ 128 = group_low fifo m m.group refl valid in
    let sent = valid.sent in
    let digits : length (decimal m.sent) ≤ 15 = length-decimal-le 15 m.sent (omega arith) (omega (arith, sent)) (omega (arith, sent)) in
    let whole = letter_short m.id m.body m.sent m.group digits in
    le-ltb MAX_LINE (length (letter_text m.id m.body m.sent m.group)) (omega (arith, i, b, g, whole))

pub reads_back : (m : Message) → IsUtf8Message m → ReadsBack m (dead_letter m)
reads_back m utf8 fifo valid =
    let sent = valid.sent in
    let low : m.sent < 2 ^ 64 = omega (arith, sent) in
    let text = letter_text m.id m.body m.sent m.group in
    let read = ap (λ (line : List ℕ). read_after (kinds.Queue fifo) [] line) (letter_is m)
    ∙ line_reads fifo text (object (letter_members m.id m.body m.sent m.group)) m (not_long fifo m valid) refl (is_utf8-from_IsUtf8 text (letter_utf8 m low utf8)) (letter_read m.id m.body m.sent m.group low) refl (fields_are fifo m.id m.body m.sent m.group valid) in
    let one_line = letter_clear m low in
    record { read = read; one_line = one_line; found = alone fifo (dead_letter m) one_line ∙ ap message_read read }
