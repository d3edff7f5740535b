-- The items of an input are valid.
use Rattle.std.proofs.Common.{◌≡◌, ℕ, ◌^◌, ◌<◌, ◌≤◌, Bool, true, false, cond, leb, ltb, List, [], ◌∷◌, ◌++◌, length, drop, Option, Some, None, Result, Ok, Err, refl, sym, ap, ◌∙◌, subst, take_all, length-drop, arith}
use Rattle.std.specs.Prelude.{is_some, fold, option_and_then}
use Rattle.std.specs.List.{list_all, AllByRecursion, All}
use Rattle.std.specs.Char.{is_ascii_digit}
use Rattle.std.specs.Option.{ok_or}
use Rattle.std.specs.Result.{result_ok}
use Rattle.std.specs.Ordering.{is_lt}
use Rattle.base64.specs.Engines.{standard}
use Rattle.base64.specs.GeneralPurpose.{decode_of}
use Rattle.esm_model.specs.Sequence.{is_sequence, sequence_order}
use Rattle.std.specs.Str.Parse.{AllDigits, digits_value}
use Rattle.std.proofs.lemmas.Int.Digits.{digits_value-lt}
use Rattle.std.proofs.lemmas.Bool.Decides.{nat_tests}
use Rattle.std.proofs.lemmas.List.Elements.{All-from_recursion}
use Rattle.serde_json.specs.Data.{Data}
use Rattle.serde_json.specs.Find.{get, as_str, as_number, as_u64}
use Rattle.esm_model.specs.declared.moment.TheConstants.{MAX_MOMENT}
use Rattle.esm_model.specs.declared.limits.TheConstants.{MAX_DATA}
use Rattle.esm_model.specs.Valid.{IsValidRecord, is_between, char_count}
use Rattle.esm_model.specs.ValidMessage.{is_message_id, is_message_body, is_message_group, is_group_of, IsValidMessage}
use Rattle.esm_model.specs.declared.config.Kind.TheVariants.{Standard, Fifo}
use Rattle.esm_model.specs.Records.{Record}
use Rattle.esm_model.specs.declared.item.Message.{Message}
use Rattle.esm_record.specs.declared.error.Field.{Field}
use Rattle.esm_record.specs.declared.error.Field.TheVariants as field
use Rattle.esm_record.specs.declared.error.LineError.{LineError}
use Rattle.esm_record.specs.declared.error.LineError.TheVariants.{NotJson, BadField, Backwards, LineTooLong}
use Rattle.esm_model.specs.declared.item.LineKind.{LineKind}
use Rattle.esm_model.specs.declared.item.LineKind.TheVariants as kinds
use Rattle.esm_model.specs.declared.item.Item.{Item}
use Rattle.esm_model.specs.declared.item.Item.TheVariants.{Stream, Queue}
use Rattle.esm_record.specs.Line.{◌>>=◌, only_if, is_shard_id, shard_number, sequence_number, partition_key, payload_within, payload, moment_within, moment, of_text, judged, name_of, field_of, object_of, record_of, message_id, message_body, message_group, some_group, group_of, message_of, line_of}
use Rattle.esm_model.specs.Items.{queue_kind, IsValidItem}
use Rattle.esm_record.specs.Input.{is_blank, in_order, next_record, as_new, next_message, has_stood, some_item, item_of, read_after, last_number, Input, nothing_read, after_line, add_line, read_lines, lines_of, ended, begun, too_long, input_so_far, input_of}
use Rattle.esm_record.proofs.Digits.{all_digits}

bind_ok : {A B : Type 0} (x : Result A LineError) (f : A → Result B LineError) (y : B) → (x >>= f) ≡ Ok y → (a : A) × (x ≡ Ok a) × (f a ≡ Ok y)
bind_ok (Ok a) f y e = (a, refl, e)
bind_ok (Err why) f y e = absurd cc

ok_or_some : {A : Type 0} (o : Option A) (why : LineError) (v : A) → ok_or o why ≡ Ok v → o ≡ Some v
ok_or_some None why v e = absurd cc
ok_or_some (Some x) why v e = let same : x ≡ v = cc in ap Some same

judged_some : {A : Type 0} (name : Field) (reading : Data → Option A) (found : Option Data) (v : A) → judged name reading found ≡ Ok v → (value : Data) × (reading value ≡ Some v)
judged_some name reading None v e = absurd cc
judged_some name reading (Some value) v e = (value, ok_or_some (reading value) (BadField name) v e)

then_some : {A : Type 0} (o : Option (List ℕ)) (reading : List ℕ → Option A) (v : A) → option_and_then reading o ≡ Some v → (text : List ℕ) × (reading text ≡ Some v)
then_some None reading v e = absurd cc
then_some (Some text) reading v e = (text, e)

if_some : {A : Type 0} (b : Bool) (x v : A) → only_if b x ≡ Some v → (b ≡ true) × (x ≡ v)
if_some true x v e = (refl, cc)
if_some false x v e = absurd cc

text_field : {A : Type 0} (name : Field) (reading : List ℕ → Option A) (line : Data) (v : A) → field_of name (of_text reading) line ≡ Ok v → (text : List ℕ) × (reading text ≡ Some v)
text_field name reading line v e =
    let (value, is) = judged_some name (of_text reading) (get (name_of name) line) v e in
    then_some (as_str value) reading v is

twelve : (digits : List ℕ) → list_all is_ascii_digit digits ≡ true → length digits ≡ 12 → digits_value 10 digits ≤ 999999999999
twelve digits all long =
    let P : List ℕ → Type 0 = λ ds. AllDigits 10 ds in
    let are : AllDigits 10 digits = subst P (take_all (length digits) digits (omega arith)) (all_digits digits (length digits) all) in
    let below : digits_value 10 digits < 10 ^ 12 = let Q : ℕ → Type 0 = λ n. digits_value 10 digits < 10 ^ n in subst Q long (digits_value-lt 10 digits are) in
    omega arith

id_parts : (text : List ℕ) → is_shard_id text ≡ true → (length text ≡ 20) × (list_all is_ascii_digit (drop 8 text) ≡ true)
id_parts text h = (grind (arith, nat_tests), grind (arith, nat_tests))

shard_valid : (text : List ℕ) (shard : ℕ) → shard_number text ≡ Some shard → shard ≤ 999999999999
shard_valid text shard e =
    let (is, same) = if_some (is_shard_id text) (digits_value 10 (drop 8 text)) shard e in
    let parts = id_parts text is in
    let most = twelve (drop 8 text) parts.1 (omega (arith, length-drop 8 text, parts.0)) in
    omega (arith, most, same)

passes : (test : List ℕ → Bool) (text v : List ℕ) → only_if (test text) text ≡ Some v → test v ≡ true
passes test text v e = let (is, same) = if_some (test text) text v e in ap test (sym same) ∙ is

payload_valid : (found : Option (List ℕ)) (v : List ℕ) → payload_within found ≡ Some v → length v ≤ 1048576
payload_valid None v e = absurd cc
payload_valid (Some bytes) v e =
    let test = passes (λ b. leb (length b) MAX_DATA) bytes v e in
    grind (arith, nat_tests)

moment_valid : (found : Option ℕ) (v : ℕ) → moment_within found ≡ Some v → v ≤ 253402300799999
moment_valid None v e = absurd cc
moment_valid (Some n) v e =
    let both = if_some (leb n MAX_MOMENT) n v e in
    let test : leb v MAX_MOMENT ≡ true = ap (λ (m : ℕ). leb m MAX_MOMENT) (sym both.1) ∙ both.0 in
    grind (arith, nat_tests)

ok_is : (x y : Record) → (let made : Result Record LineError = Ok x in made ≡ Ok y) → x ≡ y
ok_is x y e = cc

record_valid : (line : Data) (r : Record) → record_of line ≡ Ok r → IsValidRecord r
record_valid line r e =
    let a = bind_ok (field_of field.ShardId (of_text shard_number) line) (λ shard. field_of field.SequenceNumber (of_text sequence_number) line >>= λ seq. field_of field.PartitionKey (of_text partition_key) line >>= λ key. field_of field.Data (of_text payload) line >>= λ bytes. field_of field.ApproximateArrivalTimestamp moment line >>= λ arrival. Ok (record { shard = shard; seq = seq; key = key; payload = bytes; arrival = arrival })) r e in
    let b = bind_ok (field_of field.SequenceNumber (of_text sequence_number) line) (λ seq. field_of field.PartitionKey (of_text partition_key) line >>= λ key. field_of field.Data (of_text payload) line >>= λ bytes. field_of field.ApproximateArrivalTimestamp moment line >>= λ arrival. Ok (record { shard = a.0; seq = seq; key = key; payload = bytes; arrival = arrival })) r a.2 in
    let c = bind_ok (field_of field.PartitionKey (of_text partition_key) line) (λ key. field_of field.Data (of_text payload) line >>= λ bytes. field_of field.ApproximateArrivalTimestamp moment line >>= λ arrival. Ok (record { shard = a.0; seq = b.0; key = key; payload = bytes; arrival = arrival })) r b.2 in
    let d = bind_ok (field_of field.Data (of_text payload) line) (λ bytes. field_of field.ApproximateArrivalTimestamp moment line >>= λ arrival. Ok (record { shard = a.0; seq = b.0; key = c.0; payload = bytes; arrival = arrival })) r c.2 in
    let f = bind_ok (field_of field.ApproximateArrivalTimestamp moment line) (λ arrival. Ok (record { shard = a.0; seq = b.0; key = c.0; payload = d.0; arrival = arrival })) r d.2 in
    let shard = text_field field.ShardId shard_number line a.0 a.1 in
    let seq = text_field field.SequenceNumber sequence_number line b.0 b.1 in
    let key = text_field field.PartitionKey partition_key line c.0 c.1 in
    let bytes = text_field field.Data payload line d.0 d.1 in
    let arrival = judged_some field.ApproximateArrivalTimestamp moment (get (name_of field.ApproximateArrivalTimestamp) line) f.0 f.1 in
    let made : Record = record { shard = a.0; seq = b.0; key = c.0; payload = d.0; arrival = f.0 } in
    let valid : IsValidRecord made = record {
      shard = shard_valid shard.0 a.0 shard.1;
      seq = passes is_sequence seq.0 b.0 seq.1;
      key = passes (λ text. is_between 1 256 (char_count text)) key.0 c.0 key.1;
      payload = payload_valid (result_ok (decode_of standard bytes.0)) d.0 bytes.1;
      arrival = moment_valid (option_and_then as_u64 (as_number arrival.0)) f.0 arrival.1;
    } in
    let same : made ≡ r = ok_is made r f.2 in
    let P : Record → Type 0 = λ x. IsValidRecord x in
    subst P same valid

text_valid : (test : List ℕ → Bool) (name : Field) (line : Data) (v : List ℕ) → field_of name (of_text (λ text. only_if (test text) text)) line ≡ Ok v → test v ≡ true
text_valid test name line v e = let text = text_field name (λ text. only_if (test text) text) line v e in passes test text.0 v text.1

message_is : (x y : Message) → (let made : Result Message LineError = Ok x in made ≡ Ok y) → x ≡ y
message_is x y e = cc

some_group_is : (said : Result (List ℕ) LineError) (v : Option (List ℕ)) → some_group said ≡ Ok v → (text : List ℕ) × (said ≡ Ok text) × (v ≡ Some text)
some_group_is (Ok text) v e = (text, refl, cc)
some_group_is (Err why) v e = absurd cc

group_valid : (fifo : Bool) (line : Data) (v : Option (List ℕ)) → group_of fifo line ≡ Ok v → is_group_of (queue_kind fifo) v ≡ true
group_valid true line v e =
    let said = some_group_is (field_of field.MessageGroupId (of_text message_group) line) v e in
    ap (is_group_of Fifo) said.2 ∙ text_valid is_message_group field.MessageGroupId line said.0 said.1
group_valid false line v e = let none : v ≡ None = cc in ap (is_group_of Standard) none

message_valid : (fifo : Bool) (line : Data) (m : Message) → message_of fifo line ≡ Ok m → IsValidMessage (queue_kind fifo) m
message_valid fifo line m e =
    let a = bind_ok (field_of field.MessageId (of_text message_id) line) (λ id. field_of field.Body (of_text message_body) line >>= λ body. field_of field.SentTimestamp moment line >>= λ sent. group_of fifo line >>= λ group. Ok (record { id = id; group = group; body = body; sent = sent })) m e in
    let b = bind_ok (field_of field.Body (of_text message_body) line) (λ body. field_of field.SentTimestamp moment line >>= λ sent. group_of fifo line >>= λ group. Ok (record { id = a.0; group = group; body = body; sent = sent })) m a.2 in
    let c = bind_ok (field_of field.SentTimestamp moment line) (λ sent. group_of fifo line >>= λ group. Ok (record { id = a.0; group = group; body = b.0; sent = sent })) m b.2 in
    let d = bind_ok (group_of fifo line) (λ group. Ok (record { id = a.0; group = group; body = b.0; sent = c.0 })) m c.2 in
    let sent = judged_some field.SentTimestamp moment (get (name_of field.SentTimestamp) line) c.0 c.1 in
    let made : Message = record { id = a.0; group = d.0; body = b.0; sent = c.0 } in
    let valid : IsValidMessage (queue_kind fifo) made = record {
      id = text_valid is_message_id field.MessageId line a.0 a.1;
      body = text_valid is_message_body field.Body line b.0 b.1;
      sent = moment_valid (option_and_then as_u64 (as_number sent.0)) c.0 sent.1;
      group = group_valid fifo line d.0 d.1;
    } in
    let P : Message → Type 0 = λ x. IsValidMessage (queue_kind fifo) x in
    subst P (message_is made m d.2) valid

ordered : (b : Bool) (r s : Record) (why : LineError) → cond b (Ok r) (Err why) ≡ Ok s → r ≡ s
ordered true r s why e = cc
ordered false r s why e = absurd cc

in_order_same : (last : Option (List ℕ)) (r s : Record) → in_order last r ≡ Ok s → r ≡ s
in_order_same None r s e = cc
in_order_same (Some kept) r s e = ordered (is_lt (sequence_order kept r.seq)) r s (Backwards kept r.seq) e

next_valid : (last : ℕ → Option (List ℕ)) (line : List ℕ) (r : Record) → next_record last line ≡ Ok r → IsValidRecord r
next_valid last line r e =
    let a = bind_ok (line_of record_of line) (λ x. in_order (last x.shard) x) r e in
    let b = bind_ok (ok_or (object_of line) NotJson) record_of a.0 a.1 in
    let P : Record → Type 0 = λ x. IsValidRecord x in
    subst P (in_order_same (last a.0.shard) a.0 r a.2) (record_valid b.0 a.0 b.2)

as_new_same : (stood : Bool) (m n : Message) → as_new stood m ≡ Ok n → m ≡ n
as_new_same true m n e = absurd cc
as_new_same false m n e = cc

next_message_valid : (stood : List ℕ → Bool) (fifo : Bool) (line : List ℕ) (m : Message) → next_message stood fifo line ≡ Ok m → IsValidMessage (queue_kind fifo) m
next_message_valid stood fifo line m e =
    let a = bind_ok (line_of (message_of fifo) line) (λ x. as_new (stood x.id) x) m e in
    let b = bind_ok (ok_or (object_of line) NotJson) (message_of fifo) a.0 a.1 in
    let P : Message → Type 0 = λ x. IsValidMessage (queue_kind fifo) x in
    subst P (as_new_same (stood a.0.id) a.0 m a.2) (message_valid fifo b.0 a.0 b.2)

some_valid : {A : Type 0} (make : A → Item) (kind : LineKind) (reading : Result A LineError) (item : Item) → ((x : A) → reading ≡ Ok x → IsValidItem kind (make x)) → some_item make reading ≡ Ok (Some item) → IsValidItem kind item
some_valid make kind (Err why) item valid e = absurd cc
some_valid make kind (Ok x) item valid e =
    let same : make x ≡ item = cc in
    let P : Item → Type 0 = λ i. IsValidItem kind i in
    subst P same (valid x refl)

two_tests : (a b : Bool) (why : LineError) (x : Result (Option Item) LineError) (item : Item) → cond a (Err why) (cond b (Ok None) x) ≡ Ok (Some item) → x ≡ Ok (Some item)
two_tests true b why x item e = absurd cc
two_tests false true why x item e = absurd cc
two_tests false false why x item e = e

item_valid : (kind : LineKind) (items : List Item) (line : List ℕ) (item : Item) → item_of kind items line ≡ Ok (Some item) → IsValidItem kind item
item_valid kinds.Stream items line item e =
    let last : ℕ → Option (List ℕ) = λ shard. last_number shard items in
    some_valid Stream kinds.Stream (next_record last line) item (next_valid last line) e
item_valid (kinds.Queue fifo) items line item e =
    let stood : List ℕ → Bool = λ id. has_stood id items in
    some_valid Queue (kinds.Queue fifo) (next_message stood fifo line) item (next_message_valid stood fifo line) e

said_valid : (kind : LineKind) (items : List Item) (line : List ℕ) (item : Item) → read_after kind items line ≡ Ok (Some item) → IsValidItem kind item
said_valid kind items line item e =
    item_valid kind items line item (two_tests (ltb 8388608 (length line)) (is_blank line) LineTooLong (item_of kind items line) item e)

abbrev AllValid : LineKind → List Item → Type 0
AllValid kind items = AllByRecursion (IsValidItem kind) items

push_valid : (kind : LineKind) (items : List Item) (item : Item) → AllValid kind items → IsValidItem kind item → AllValid kind (items ++ item ∷ [])
push_valid kind [] item all valid = (valid, tt)
push_valid kind (x ∷ xs) item all valid = (all.0, push_valid kind xs item all.1 valid)

after_valid : (kind : LineKind) (input : Input) (said : Result (Option Item) LineError) → ((item : Item) → said ≡ Ok (Some item) → IsValidItem kind item) → AllValid kind input.items → AllValid kind (after_line input said).items
after_valid kind input (Ok None) valid all = all
after_valid kind input (Ok (Some item)) valid all = push_valid kind input.items item all (valid item refl)
after_valid kind input (Err why) valid all = all

either_valid : (kind : LineKind) (b : Bool) (x y : Input) → AllValid kind x.items → AllValid kind y.items → AllValid kind (cond b x y).items
either_valid kind true x y p q = p
either_valid kind false x y p q = q

lines_valid : (kind : LineKind) (input : Input) (ls : List (List ℕ)) → AllValid kind input.items → AllValid kind (fold (add_line kind) input ls).items
lines_valid kind input [] all = all
lines_valid kind input (line ∷ ls) all =
    lines_valid kind (add_line kind input line) ls (either_valid kind (is_some input.bad) input (after_line input (read_after kind input.items line)) all (after_valid kind input (read_after kind input.items line) (said_valid kind input.items line) all))

rest_valid : (kind : LineKind) (front items : List Item) → AllValid kind (front ++ items) → AllValid kind items
rest_valid kind [] items all = all
rest_valid kind (x ∷ front) items all = rest_valid kind front items all.1

-- what a call gives of the items of these lines
pub given_valid : (kind : LineKind) (ls : List (List ℕ)) (before given : List Item) → before ++ given ≡ (read_lines kind ls).items → All (IsValidItem kind) given
given_valid kind ls before given e =
    let P : List Item → Type 0 = λ items. AllValid kind items in
    All-from_recursion (IsValidItem kind) given (rest_valid kind before given (subst P (sym e) (lines_valid kind nothing_read ls tt)))

pub so_far_valid : (kind : LineKind) (bytes : List ℕ) (before given : List Item) → (input_so_far kind bytes).items ≡ before ++ given → All (IsValidItem kind) given
unfolding input_so_far
so_far_valid kind bytes before given e = given_valid kind (ended (lines_of bytes) ++ too_long (begun (lines_of bytes))) before given (sym e)

pub whole_valid : (kind : LineKind) (bytes : List ℕ) (before given : List Item) → (input_of kind bytes).items ≡ before ++ given → All (IsValidItem kind) given
unfolding input_of
whole_valid kind bytes before given e = given_valid kind (lines_of bytes) before given (sym e)
