-- The line of a message that is moved is a text, no longer than a line may be.
use Rattle.std.proofs.Common.{◌≡◌, ℕ, zero, suc, ◌≤◌, Bool, cond, List, [], ◌∷◌, length, refl, sym, ap, ◌∙◌, subst, inl, inr, Option, Some, None, Result, Ok, Err}
use Rattle.std.specs.Prelude.{nat_lt, slice_get, option_map}
use Rattle.std.specs.Option.{ok_or}
use Rattle.std.specs.Str.{IsUtf8, is_utf8}
use Rattle.std.proofs.lemmas.Str.{IsUtf8-from_is_utf8}
use Rattle.std.specs.List.{All, cons_option}
use Rattle.std.proofs.lemmas.Bool.{cases_Bool, ltb-false}
use Rattle.std.proofs.lemmas.Option.{none-some, same_Some, slice_get-map}
use Rattle.std.proofs.lemmas.List.Elements.{All-head, All-tail}
use Rattle.esm_model.specs.declared.limits.TheConstants.{MAX_LINE}
use Rattle.esm_model.specs.declared.config.Kind.{Kind}
use Rattle.esm_model.specs.declared.item.Item.{Item}
use Rattle.esm_model.specs.declared.item.Item.TheVariants as items
use Rattle.esm_model.specs.declared.item.LineKind.{LineKind}
use Rattle.esm_model.specs.declared.item.LineKind.TheVariants as kinds
use Rattle.esm_model.specs.declared.item.Message.{Message}
use Rattle.esm_model.specs.Items.{queue_kind}
use Rattle.esm_model.specs.ValidMessage.{IsValidMessage}
use Rattle.esm_record.specs.declared.error.LineError.{LineError}
use Rattle.esm_record.specs.declared.error.LineError.TheVariants.{LineTooLong, NotJson}
use Rattle.serde_json.specs.Read.{read as json}
use Rattle.esm_record.specs.Line.{◌>>=◌, only_object, message_of}
use Rattle.esm_record.specs.Input.{is_blank, item_of, some_item, as_new, has_stood, read_after}
use Rattle.esm_queue_model.specs.declared.stored.Stored.{Stored}
use Rattle.esm_queue_model.specs.Queue.{QueueState, stored_at}
use Rattle.esm_queue_core.specs.Kept.{messages_stored}
use Rattle.esm_book.specs.Decided.{written_of, IsLineWithin}
use Rattle.esm_redrive.specs.ReadsBack.{ReadsBack}
use Rattle.esm_redrive_core.specs.declared.owed.Gift.{Gift}
use Rattle.esm_redrive_core.specs.Kept.{gift_line}

read_short : (kind : LineKind) (line : List ℕ) (item : Option Item) → read_after kind [] line ≡ Ok item → length line ≤ MAX_LINE
read_short kind line item read =
    elim (cases_Bool (nat_lt MAX_LINE (length line))) [
      | inl long ↦
          (let rest : Result (Option Item) LineError = cond (is_blank line) (Ok None) (item_of kind [] line) in
          let clash : Err LineTooLong ≡ Ok item = sym (ap (λ (b : Bool). cond b (Err LineTooLong) rest) long) ∙ read in
          absurd (cc))
      | inr short ↦ ltb-false MAX_LINE (length line) short
    ]

read_utf8 : (fifo : Bool) (line : List ℕ) (item : Item) → read_after (kinds.Queue fifo) [] line ≡ Ok (Some item) → IsUtf8 line
read_utf8 fifo line item read =
    let rest : Bool → Result (Option Item) LineError = λ b. some_item items.Queue ((ok_or (only_object (cond b (json line) None)) NotJson >>= message_of fifo) >>= λ m. as_new (has_stood m.id []) m) in
    elim (cases_Bool (nat_lt MAX_LINE (length line))) [
      | inl long ↦
          (let clash : Err LineTooLong ≡ Ok (Some item) = sym (ap (λ (b : Bool). cond b (Err LineTooLong) (cond (is_blank line) (Ok None) (rest (is_utf8 line)))) long) ∙ read in
          absurd (cc))
      | inr short ↦
          (let fits : cond (is_blank line) (Ok None) (rest (is_utf8 line)) ≡ Ok (Some item) = sym (ap (λ (b : Bool). cond b (Err LineTooLong) (cond (is_blank line) (Ok None) (rest (is_utf8 line)))) short) ∙ read in
          elim (cases_Bool (is_blank line)) [
            | inl blank ↦
                (let clash : Ok None ≡ Ok (Some item) = sym (ap (λ (b : Bool). cond b (Ok None) (rest (is_utf8 line))) blank) ∙ fits in
                absurd (cc))
            | inr full ↦
                (let says : rest (is_utf8 line) ≡ Ok (Some item) = sym (ap (λ (b : Bool). cond b (Ok None) (rest (is_utf8 line))) full) ∙ fits in
                elim (cases_Bool (is_utf8 line)) [
                  | inl is ↦ IsUtf8-from_is_utf8 line is
                  | inr bad ↦ (let clash : Err NotJson ≡ Ok (Some item) = sym (ap rest bad) ∙ says in absurd (cc))
                ])
          ])
    ]

valid_at : (kind : Kind) (messages : List Message) (i : ℕ) (m : Message) → All (IsValidMessage kind) messages → slice_get messages i ≡ Some m → IsValidMessage kind m
valid_at kind [] i m valid at = absurd (none-some m at)
valid_at kind (x ∷ xs) zero m valid at = subst (IsValidMessage kind) (same_Some x m at) (All-head (IsValidMessage kind) x xs valid)
valid_at kind (x ∷ xs) (suc i) m valid at = valid_at kind xs i m (All-tail (IsValidMessage kind) x xs valid) at

-- the message at the place
pub message_there : (q : QueueState) (i : ℕ) (m : Message) → Some m ≡ option_map (λ (x : Stored). x.message) (stored_at q i) → slice_get (messages_stored q) i ≡ Some m
message_there q i m told = slice_get-map (λ (x : Stored). x.message) q.messages i ∙ sym told

pub stored_valid : (kind : Kind) (q : QueueState) (i : ℕ) (m : Message) → All (IsValidMessage kind) (messages_stored q) → slice_get (messages_stored q) i ≡ Some m → IsValidMessage kind m
stored_valid kind q i m valid at = valid_at kind (messages_stored q) i m valid at

pub letter_short : (fifo : Bool) (m : Message) (line : List ℕ) → IsValidMessage (queue_kind fifo) m → ReadsBack m line → length line ≤ MAX_LINE
letter_short fifo m line valid reads = read_short (kinds.Queue fifo) line (Some (items.Queue m)) (reads fifo valid).read

pub letter_utf8 : (fifo : Bool) (m : Message) (line : List ℕ) → IsValidMessage (queue_kind fifo) m → ReadsBack m line → IsUtf8 line
letter_utf8 fifo m line valid reads = read_utf8 fifo line (items.Queue m) (reads fifo valid).read

-- one line that is short
pub within_short : (g : Gift) (line : List ℕ) → gift_line g ≡ Some line → length line ≤ MAX_LINE → IsLineWithin (written_of gift_line (g ∷ [])) MAX_LINE
within_short g line is short = subst (λ (o : Option (List ℕ)). IsLineWithin (cons_option o []) MAX_LINE) (sym is) (short, refl)
