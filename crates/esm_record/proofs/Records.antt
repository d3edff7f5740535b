-- What the fields say of the members that are found, and of the object.
use Rattle.std.proofs.Common.{◌≡◌, ℕ, Bool, true, false, cond, List, Option, Some, None, Result, Err, refl, sym, ap, ◌∙◌}
use Rattle.std.specs.Prelude.{option_and_then}
use Rattle.std.specs.Option.{ok_or}
use Rattle.serde_json.specs.Data.{Data, object, Members}
use Rattle.serde_json.specs.Find.{get_member, as_str}
use Rattle.esm_record.specs.declared.error.Field.{Field}
use Rattle.esm_record.specs.declared.error.Field.TheVariants as field
use Rattle.esm_record.specs.declared.error.LineError.{LineError}
use Rattle.esm_record.specs.declared.error.LineError.TheVariants.{NotJson, BadField}
use Rattle.esm_record.specs.declared.error.Refusal.{Refusal}
use Rattle.esm_record.specs.declared.error.Refusal.TheVariants as refusal
use Rattle.esm_record.specs.declared.object.Leaf.{Leaf}
use Rattle.esm_record.specs.declared.object.Found.{Found}
use Rattle.esm_record.specs.Gives.{Fails}
use Rattle.esm_record.specs.Line.{◌>>=◌, name_of, of_text, judged, moment, moment_within, shard_number, sequence_number, partition_key, payload, message_id, message_body, message_group, some_group, only_object, object_of, record_of, group_of, message_of, line_of}
use Rattle.esm_record.specs.Leaf.{text_in, whole_in, whole_of, IsFound, AreFound, leaf_at, field_in, of_text_in, moment_in, record_in, group_in, message_in}

abbrev pick : {A : Type 0} → A → Option A → A
pick d None = d
pick d (Some a) = a

text_says : {A : Type 0} (name : Field) (reading : List ℕ → Option A) (m : Option Data) (l : Option Leaf) → IsFound m l → field_in name (of_text_in reading) l ≡ judged name (of_text reading) m
text_says name reading None None is = refl
text_says name reading None (Some l) is = absurd (let e = is.text in cc)
text_says name reading (Some d) None is = absurd (let e = is.text in cc)
text_says name reading (Some d) (Some l) is =
    let same : as_str d ≡ text_in l = ap (pick (as_str d)) is.text in
    ap (λ (t : Option (List ℕ)). ok_or (option_and_then reading t) (BadField name)) (sym same)

moment_says : (name : Field) (m : Option Data) (l : Option Leaf) → IsFound m l → field_in name moment_in l ≡ judged name moment m
moment_says name None None is = refl
moment_says name None (Some l) is = absurd (let e = is.text in cc)
moment_says name (Some d) None is = absurd (let e = is.text in cc)
moment_says name (Some d) (Some l) is =
    let same : whole_of d ≡ whole_in l = ap (pick (whole_of d)) is.whole in
    ap (λ (n : Option ℕ). ok_or (moment_within n) (BadField name)) (sym same)

pub record_says : (ms : Members) (found : Found) → AreFound ms found → record_in found ≡ record_of (object ms)
record_says ms found are =
    let shard = text_says field.ShardId shard_number (get_member (name_of field.ShardId) ms) (leaf_at field.ShardId found) (are field.ShardId) in
    let seq = text_says field.SequenceNumber sequence_number (get_member (name_of field.SequenceNumber) ms) (leaf_at field.SequenceNumber found) (are field.SequenceNumber) in
    let key = text_says field.PartitionKey partition_key (get_member (name_of field.PartitionKey) ms) (leaf_at field.PartitionKey found) (are field.PartitionKey) in
    let data_says = text_says field.Data payload (get_member (name_of field.Data) ms) (leaf_at field.Data found) (are field.Data) in
    let arrival = moment_says field.ApproximateArrivalTimestamp (get_member (name_of field.ApproximateArrivalTimestamp) ms) (leaf_at field.ApproximateArrivalTimestamp found) (are field.ApproximateArrivalTimestamp) in
    rw (shard, seq, key, data_says, arrival) refl

group_says : (fifo : Bool) (ms : Members) (found : Found) → AreFound ms found → group_in fifo found ≡ group_of fifo (object ms)
group_says true ms found are = ap some_group (text_says field.MessageGroupId message_group (get_member (name_of field.MessageGroupId) ms) (leaf_at field.MessageGroupId found) (are field.MessageGroupId))
group_says false ms found are = refl

pub message_says : (fifo : Bool) (ms : Members) (found : Found) → AreFound ms found → message_in fifo found ≡ message_of fifo (object ms)
message_says fifo ms found are =
    let id = text_says field.MessageId message_id (get_member (name_of field.MessageId) ms) (leaf_at field.MessageId found) (are field.MessageId) in
    let body = text_says field.Body message_body (get_member (name_of field.Body) ms) (leaf_at field.Body found) (are field.Body) in
    let sent = moment_says field.SentTimestamp (get_member (name_of field.SentTimestamp) ms) (leaf_at field.SentTimestamp found) (are field.SentTimestamp) in
    let group = group_says fifo ms found are in
    rw (id, body, sent, group) refl

-- ---- a line

pub object_is : (u : Bool) (r : Option Data) (ms : Members) → u ≡ true → r ≡ Some (object ms) → only_object (cond u r None) ≡ Some (object ms)
object_is u r ms is_text is = rw (is_text, is) refl

pub no_object_is : (u : Bool) (r : Option Data) → u ≡ true → only_object r ≡ None → ok_or (only_object (cond u r None)) NotJson ≡ Err NotJson
no_object_is u r is_text none = rw (is_text, none) refl

pub no_text_is : (u : Bool) (r : Option Data) → (u ≡ true → ⊥) → ok_or (only_object (cond u r None)) NotJson ≡ Err NotJson
no_text_is true r not_text = absurd (not_text refl)
no_text_is false r not_text = refl

pub line_says : {A : Type 0} (fields : Data → Result A LineError) (said : Result A LineError) (line : List ℕ) (ms : Members) → object_of line ≡ Some (object ms) → said ≡ fields (object ms) → said ≡ line_of fields line
line_says fields said line ms is says = says ∙ sym (ap (λ (o : Option Data). ok_or o NotJson >>= fields) is)

pub line_fails : {A : Type 0} (fields : Data → Result A LineError) (line : List ℕ) (e : Refusal) → Fails e (ok_or (object_of line) NotJson) → Fails e (line_of fields line)
line_fails fields line refusal.OutOfMemory fails = tt
line_fails fields line (refusal.Line why) fails = ap (λ (o : Result Data LineError). o >>= fields) fails
