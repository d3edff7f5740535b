-- What the fields of a change are that a line tells.
use Rattle.std.proofs.Common.{◌≡◌, ℕ, ◌<◌, ◌≤◌, ◌^◌, arith, [], ◌∷◌, length-drop, Bool, true, false, ◌&&◌, ◌==◌, nat_le, refl, ap, subst, List, length, drop, Option, Some, None, option_and_then, option_map, codes, Result, Ok, Err}
use Rattle.std.specs.Char.{is_ascii_digit}
use Rattle.std.specs.List.{list_all, starts_with}
use Rattle.std.specs.Option.{ok_or}
use Rattle.std.specs.Prelude.{nat_eq}
use Rattle.std.specs.Str.Parse.{AllDigits, digits_value}
use Rattle.std.proofs.lemmas.Int.Digits.{digits_value-lt}
use Rattle.std.proofs.lemmas.Bool.{and_parts}
use Rattle.std.proofs.lemmas.Bool.Decides.{nat_tests}
use Rattle.serde_json.specs.Data.{Data}
use Rattle.serde_json.specs.Find.{as_number, as_str, as_u64, get}
use Rattle.esm_model.specs.Sequence.{is_sequence}
use Rattle.esm_record.specs.Line.{is_shard_id, moment, moment_within, of_text, only_if, sequence_number, shard_number}
use Rattle.esm_record.proofs.Digits.{a_digit, first_digit}
use Rattle.esm_ddb.specs.Change.{◌>>=◌, Change, StreamRecord, change_of, event_id, event_name, field_of, image_of, judged, keys_of, size_of, stream_record, view_type}
use Rattle.esm_ddb.specs.declared.error.DdbError.{DdbError}
use Rattle.esm_ddb.specs.declared.error.DdbError.TheVariants.{BadField}
use Rattle.esm_ddb.specs.declared.error.DdbField.{DdbField}
use Rattle.esm_ddb.specs.declared.error.DdbField.TheVariants as field

pub record IsTold (c : Change) : Type 0 where
  pub shard : c.shard < 1000000000000
  pub arrival : c.arrival ≤ 253402300799999
  pub seq : is_sequence c.item.seq ≡ true

pub inner : {X : Type 0} (a b : X) → Some a ≡ Some b → a ≡ b
inner a b h = cc

pub then_some : {A B : Type 0} (o : Option A) (f : A → Option B) (y : B) → option_and_then f o ≡ Some y → (x : A) × (o ≡ Some x) × (f x ≡ Some y)
then_some None f y h = absurd (cc)
then_some (Some x) f y h = (x, refl, h)

pub only_some : {A : Type 0} (b : Bool) (x y : A) → only_if b x ≡ Some y → (b ≡ true) × (x ≡ y)
only_some true x y h = (refl, inner x y h)
only_some false x y h = absurd (cc)

abbrev good : {A : Type 0} → A → Result A DdbError
good x = Ok x

pub ok_inner : {A : Type 0} (a b : A) → good a ≡ good b → a ≡ b
ok_inner a b h = cc

abbrev the_record : Data → Option Data → Option Data → List ℕ → ℕ → List ℕ → StreamRecord
the_record k n o q z v = record { keys = k; new_image = n; old_image = o; seq = q; size = z; view = v }

abbrev the_change : ℕ → ℕ → List ℕ → List ℕ → StreamRecord → Change
the_change s a i n r = record { shard = s; arrival = a; id = i; name = n; item = r }

pub then_ok : {A B : Type 0} (r : Result A DdbError) (f : A → Result B DdbError) (y : B) → (r >>= f) ≡ Ok y → (x : A) × (r ≡ Ok x) × (f x ≡ Ok y)
then_ok (Err e) f y h = absurd (cc)
then_ok (Ok x) f y h = (x, refl, h)

pub ok_some : {A : Type 0} (o : Option A) (e : DdbError) (y : A) → ok_or o e ≡ Ok y → o ≡ Some y
ok_some None e y h = absurd (cc)
ok_some (Some x) e y h = ap (λ z. Some z) (ok_inner x y h)

field_ok : {A : Type 0} (f : DdbField) (reading : Data → Option A) (o : Option Data) (y : A) → judged f reading o ≡ Ok y → (d : Data) × (reading d ≡ Some y)
field_ok f reading None y h = absurd (cc)
field_ok f reading (Some d) y h = (d, ok_some (reading d) (BadField f) y h)

-- values

moment_bound : (o : Option ℕ) (n : ℕ) → moment_within o ≡ Some n → n ≤ 253402300799999
moment_bound None n h = absurd (cc)
moment_bound (Some m) n h =
    let p = only_some (nat_le m 253402300799999) m n h in
    let fits : nat_le m 253402300799999 ≡ true = p.0 in
    let same : m ≡ n = p.1 in
    grind (arith, nat_tests)

seq_valid : (d : Data) (text : List ℕ) → of_text sequence_number d ≡ Some text → is_sequence text ≡ true
seq_valid d text h =
    let t = then_some (as_str d) sequence_number text h in
    let p = only_some (is_sequence t.0) t.0 text t.2 in
    subst (λ (x : List ℕ). is_sequence x ≡ true) p.1 p.0

all_below : (ds : List ℕ) → list_all is_ascii_digit ds ≡ true → AllDigits 10 ds
all_below [] h = tt
all_below (d ∷ ds) h =
    let both = first_digit d ds h in
    let digit = a_digit d both.0 in
    (omega arith, all_below ds both.1)

digits_bound : (ds : List ℕ) → length ds ≡ 12 → list_all is_ascii_digit ds ≡ true → digits_value 10 ds < 1000000000000
digits_bound ds size digits = subst (λ (k : ℕ). digits_value 10 ds < 10 ^ k) size (digits_value-lt 10 ds (all_below ds digits))

twenty : (text : List ℕ) → (length text == 20) ≡ true → length (drop 8 text) ≡ 12
twenty text h = let size : length text ≡ 20 = grind (arith, nat_tests) in omega (arith, length-drop 8 text)

shard_bound : (d : Data) (n : ℕ) → of_text shard_number d ≡ Some n → n < 1000000000000
shard_bound d n h =
    let t = then_some (as_str d) shard_number n h in
    let text = t.0 in
    let p = only_some (is_shard_id text) (digits_value 10 (drop 8 text)) n t.2 in
    let front = and_parts ((length text == 20) && starts_with nat_eq text (codes "shardId-")) (list_all is_ascii_digit (drop 8 text)) p.0 in
    let size = and_parts (length text == 20) (starts_with nat_eq text (codes "shardId-")) front.0 in
    subst (λ (k : ℕ). k < 1000000000000) p.1 (digits_bound (drop 8 text) (twenty text size.0) front.1)

-- ---- the whole

seq_in : (keys : Option Data) (new_image old_image : Option (Option Data)) (seq : Option (List ℕ)) (size : Option ℕ) (view : Option (List ℕ)) (r : StreamRecord)
    → option_and_then (λ k.
    option_and_then (λ n.
    option_and_then (λ o.
    option_and_then (λ q.
    option_and_then (λ z.
    option_map (λ v. the_record k n o q z v) view) size) seq) old_image) new_image) keys ≡ Some r
    → seq ≡ Some r.seq
seq_in None new_image old_image seq size view r h = absurd (cc)
seq_in (Some k) None old_image seq size view r h = absurd (cc)
seq_in (Some k) (Some n) None seq size view r h = absurd (cc)
seq_in (Some k) (Some n) (Some o) None size view r h = absurd (cc)
seq_in (Some k) (Some n) (Some o) (Some q) None view r h = absurd (cc)
seq_in (Some k) (Some n) (Some o) (Some q) (Some z) None r h = absurd (cc)
seq_in (Some k) (Some n) (Some o) (Some q) (Some z) (Some v) r h = ap (λ (x : StreamRecord). Some x.seq) (inner (the_record k n o q z v) r h)

record_seq : (d : Data) (r : StreamRecord) → stream_record d ≡ Some r → is_sequence r.seq ≡ true
record_seq d r h =
    let seq = seq_in (option_and_then keys_of (get (codes "Keys") d)) (image_of (get (codes "NewImage") d)) (image_of (get (codes "OldImage") d))
    (option_and_then (of_text sequence_number) (get (codes "SequenceNumber") d)) (option_and_then size_of (get (codes "SizeBytes") d))
    (option_and_then (of_text view_type) (get (codes "StreamViewType") d)) r h in
    let k = then_some (get (codes "SequenceNumber") d) (of_text sequence_number) r.seq seq in
    seq_valid k.0 r.seq k.2

fields_in : (shard arrival : Result ℕ DdbError) (id name : Result (List ℕ) DdbError) (item : Result StreamRecord DdbError) (c : Change)
    → (shard >>= (λ s. arrival >>= (λ a. id >>= (λ i. name >>= (λ n. item >>= (λ r. good (the_change s a i n r))))))) ≡ Ok c
    → (shard ≡ Ok c.shard) × (arrival ≡ Ok c.arrival) × (item ≡ Ok c.item)
fields_in (Err e) arrival id name item c h = absurd (cc)
fields_in (Ok s) (Err e) id name item c h = absurd (cc)
fields_in (Ok s) (Ok a) (Err e) name item c h = absurd (cc)
fields_in (Ok s) (Ok a) (Ok i) (Err e) item c h = absurd (cc)
fields_in (Ok s) (Ok a) (Ok i) (Ok n) (Err e) c h = absurd (cc)
fields_in (Ok s) (Ok a) (Ok i) (Ok n) (Ok r) c h =
    let same = ok_inner (the_change s a i n r) c h in
    (ap (λ (x : Change). good x.shard) same, ap (λ (x : Change). good x.arrival) same, ap (λ (x : Change). good x.item) same)

pub change_told : (d : Data) (c : Change) → change_of d ≡ Ok c → IsTold c
change_told d c h =
    let all = fields_in (field_of field.ShardId (of_text shard_number) d) (field_of field.ApproximateArrivalTimestamp moment d)
    (field_of field.EventId (of_text event_id) d) (field_of field.EventName (of_text event_name) d) (field_of field.Dynamodb stream_record d) c h in
    let at_shard = field_ok field.ShardId (of_text shard_number) (get (codes "shardId") d) c.shard all.0 in
    let at_arrival = field_ok field.ApproximateArrivalTimestamp moment (get (codes "approximateArrivalTimestamp") d) c.arrival all.1 in
    let at_item = field_ok field.Dynamodb stream_record (get (codes "dynamodb") d) c.item all.2 in
    record {
      shard = shard_bound at_shard.0 c.shard at_shard.1;
      arrival = moment_bound (option_and_then as_u64 (as_number at_arrival.0)) c.arrival at_arrival.1;
      seq = record_seq at_item.0 c.item at_item.1;
    }
