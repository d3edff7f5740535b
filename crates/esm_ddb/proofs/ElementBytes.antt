-- The element of a change that a line tells is bytes.
use Rattle.std.proofs.Common.{◌≡◌, ℕ, ◌/◌, ◌<◌, ◌≤◌, ◌^◌, arith, Bool, true, nat_le, refl, ap, subst, List, [], ◌∷◌, ◌++◌, codes, Option, Some, None, option_and_then, option_map, Result, Ok, Err, Ordering, Less, Equal, Greater}
use Rattle.std.specs.Char.{is_ascii_digit}
use Rattle.std.specs.Cmp.Lexicographic.{slice_cmp}
use Rattle.std.specs.Fmt.{decimal}
use Rattle.std.specs.List.{list_all}
use Rattle.std.specs.Option.{ok_or}
use Rattle.std.specs.Ordering.{match_ordering, nat_cmp}
use Rattle.std.proofs.lemmas.Bool.{and_parts}
use Rattle.std.proofs.lemmas.Bool.Decides.{nat_tests}
use Rattle.std.proofs.lemmas.List.Folds.{list_all-append}
use Rattle.serde_json.specs.Data.{Data, null, boolean, number, string, array, object, Members, no_members, member}
use Rattle.serde_json.specs.Find.{as_number, as_object, as_str, as_u64, get, get_member}
use Rattle.esm_model.specs.Json.{read_json}
use Rattle.esm_model.specs.JsonText.{quoted}
use Rattle.esm_record.specs.Line.{of_text, only_if, only_object, sequence_number}
use Rattle.esm_ddb.specs.Attribute.{are_keys, is_item}
use Rattle.esm_ddb.specs.Change.{◌>>=◌, Change, StreamRecord, change_of, event_id, event_name, field_of, image_of, item_of, judged, keys_of, size_of, size_within, stream_record, view_type}
use Rattle.esm_ddb.specs.Element.{element, event_part, image_part, images_part, place_part}
use Rattle.esm_ddb.specs.ItemText.{value_text}
use Rattle.esm_ddb.specs.ReadsBack.{IsOfBytes, change_in, is_byte}
use Rattle.esm_ddb.specs.declared.error.DdbError.{DdbError}
use Rattle.esm_ddb.specs.declared.error.DdbError.TheVariants.{BadField, NotJson}
use Rattle.esm_ddb.specs.declared.error.DdbField.{DdbField}
use Rattle.esm_ddb.specs.declared.error.DdbField.TheVariants as field
use Rattle.esm_ddb.specs.declared.source.Source.{Source}
use Rattle.esm_ddb.proofs.ReadBack.{decimal_digits}
use Rattle.esm_ddb.proofs.TextBytes.{AreBytes, DataBytes, DataMemberBytes, OnSome, append, quoted_bytes, read_bytes, value_bytes}
use Rattle.esm_ddb.proofs.Told.{inner, ok_inner, ok_some, only_some, then_ok, then_some}

-- ---- looking into a value

by_order : {A : Type 0} (P : A → Type 0) (o : Ordering) (x y z : A) → P x → P y → P z → P (match_ordering o x y z)
by_order P Less x y z h k l = h
by_order P Equal x y z h k l = k
by_order P Greater x y z h k l = l

member_bytes : (k : List ℕ) (ms : Members) → DataMemberBytes ms → OnSome DataBytes (get_member k ms)
member_bytes k no_members h = tt
member_bytes k (member l d ms) h =
    by_order (OnSome DataBytes) (slice_cmp nat_cmp k l) (get_member k ms) (Some d) (get_member k ms) (member_bytes k ms h.2) h.1 (member_bytes k ms h.2)

field_bytes : (k : List ℕ) (d : Data) → DataBytes d → OnSome DataBytes (get k d)
field_bytes k null h = tt
field_bytes k (boolean b) h = tt
field_bytes k (number n) h = tt
field_bytes k (string s) h = tt
field_bytes k (array ds) h = tt
field_bytes k (object ms) h = member_bytes k ms h

text_in : (d : Data) → DataBytes d → OnSome AreBytes (as_str d)
text_in null h = tt
text_in (boolean b) h = tt
text_in (number n) h = tt
text_in (string s) h = h
text_in (array ds) h = tt
text_in (object ms) h = tt

there : {A : Type 0} (P : A → Type 0) (o : Option A) (x : A) → OnSome P o → o ≡ Some x → P x
there P o x h e = subst (OnSome P) e h

text_so : (test : List ℕ → Bool) (d : Data) (y : List ℕ) → DataBytes d → of_text (λ text. only_if (test text) text) d ≡ Some y → AreBytes y
text_so test d y b h =
    let t = then_some (as_str d) (λ text. only_if (test text) text) y h in
    let p = only_some (test t.0) t.0 y t.2 in
    subst AreBytes p.1 (there AreBytes (as_str d) t.0 (text_in d b) t.1)

keys_so : (d k : Data) → keys_of d ≡ Some k → d ≡ k
keys_so d k h = let t = then_some (as_object d) (λ ms. only_if (are_keys ms) d) k h in (only_some (are_keys t.0) d k t.2).1

item_so : (d k : Data) → item_of d ≡ Some k → d ≡ k
item_so d k h = let t = then_some (as_object d) (λ ms. only_if (is_item ms) d) k h in (only_some (is_item t.0) d k t.2).1

image_in : (d : Data) (o : Option Data) (y : Option Data) → DataBytes d → ((k : Data) → o ≡ Some k → d ≡ k) → option_map Some o ≡ Some y → OnSome DataBytes y
image_in d None y b same h = absurd (cc)
image_in d (Some k) y b same h = subst (OnSome DataBytes) (inner (Some k) y h) (subst DataBytes (same k refl) b)

image_so : (o : Option Data) (y : Option Data) → OnSome DataBytes o → image_of o ≡ Some y → OnSome DataBytes y
image_so None y b h = subst (OnSome DataBytes) (inner None y h) tt
image_so (Some d) y b h = image_in d (item_of d) y b (λ k e. item_so d k e) h

size_bound : (o : Option ℕ) (n : ℕ) → size_within o ≡ Some n → n < 2 ^ 64
size_bound None n h = absurd (cc)
size_bound (Some m) n h =
    let p = only_some (nat_le m (2 ^ 53)) m n h in
    let fits : nat_le m (2 ^ 53) ≡ true = p.0 in
    let below : m ≤ 2 ^ 53 = grind (arith, nat_tests) in
    let same : m ≡ n = p.1 in
    omega arith

-- ---- a change

pub record AreRecordBytes (r : StreamRecord) : Type 0 where
  pub keys : DataBytes r.keys
  pub new_image : OnSome DataBytes r.new_image
  pub old_image : OnSome DataBytes r.old_image
  pub seq : AreBytes r.seq
  pub size : r.size < 2 ^ 64
  pub view : AreBytes r.view

pub record AreChangeBytes (c : Change) : Type 0 where
  pub id : AreBytes c.id
  pub name : AreBytes c.name
  pub item : AreRecordBytes c.item

abbrev the_record : Data → Option Data → Option Data → List ℕ → ℕ → List ℕ → StreamRecord
the_record k n o q z v = record { keys = k; new_image = n; old_image = o; seq = q; size = z; view = v }

abbrev the_change : ℕ → ℕ → List ℕ → List ℕ → StreamRecord → Change
the_change s a i n r = record { shard = s; arrival = a; id = i; name = n; item = r }

parts_in : (keys : Option Data) (new_image old_image : Option (Option Data)) (seq : Option (List ℕ)) (size : Option ℕ) (view : Option (List ℕ)) (r : StreamRecord)
    → option_and_then (λ k.
    option_and_then (λ n.
    option_and_then (λ o.
    option_and_then (λ q.
    option_and_then (λ z.
    option_map (λ v. the_record k n o q z v) view) size) seq) old_image) new_image) keys ≡ Some r
    → (keys ≡ Some r.keys) × (new_image ≡ Some r.new_image) × (old_image ≡ Some r.old_image) × (seq ≡ Some r.seq) × (size ≡ Some r.size) × (view ≡ Some r.view)
parts_in None new_image old_image seq size view r h = absurd (cc)
parts_in (Some k) None old_image seq size view r h = absurd (cc)
parts_in (Some k) (Some n) None seq size view r h = absurd (cc)
parts_in (Some k) (Some n) (Some o) None size view r h = absurd (cc)
parts_in (Some k) (Some n) (Some o) (Some q) None view r h = absurd (cc)
parts_in (Some k) (Some n) (Some o) (Some q) (Some z) None r h = absurd (cc)
parts_in (Some k) (Some n) (Some o) (Some q) (Some z) (Some v) r h =
    let same : the_record k n o q z v ≡ r = inner (the_record k n o q z v) r h in (
      ap (λ (x : StreamRecord). Some x.keys) same,
      ap (λ (x : StreamRecord). Some x.new_image) same,
      ap (λ (x : StreamRecord). Some x.old_image) same,
      ap (λ (x : StreamRecord). Some x.seq) same,
      ap (λ (x : StreamRecord). Some x.size) same,
      ap (λ (x : StreamRecord). Some x.view) same,
    )

named : {A : Type 0} (P : A → Type 0) (o : Option Data) (reading : Data → Option A) (x : A) → OnSome DataBytes o → ((d : Data) → DataBytes d → reading d ≡ Some x → P x)
    → option_and_then reading o ≡ Some x → P x
named P o reading x b so h = let t = then_some o reading x h in so t.0 (there DataBytes o t.0 b t.1) t.2

record_bytes : (d : Data) (r : StreamRecord) → DataBytes d → stream_record d ≡ Some r → AreRecordBytes r
record_bytes d r b h =
    let keys = get (codes "Keys") d in
    let seq = get (codes "SequenceNumber") d in
    let size = get (codes "SizeBytes") d in
    let view = get (codes "StreamViewType") d in
    let all = parts_in (option_and_then keys_of keys) (image_of (get (codes "NewImage") d)) (image_of (get (codes "OldImage") d))
    (option_and_then (of_text sequence_number) seq) (option_and_then size_of size) (option_and_then (of_text view_type) view) r h in
    let sized = then_some size size_of r.size all.4 in
    record {
      keys = named DataBytes keys keys_of r.keys (field_bytes (codes "Keys") d b) (λ x bx e. subst DataBytes (keys_so x r.keys e) bx) all.0;
      new_image = image_so (get (codes "NewImage") d) r.new_image (field_bytes (codes "NewImage") d b) all.1;
      old_image = image_so (get (codes "OldImage") d) r.old_image (field_bytes (codes "OldImage") d b) all.2;
      seq = named AreBytes seq (of_text sequence_number) r.seq (field_bytes (codes "SequenceNumber") d b) (λ x bx e. text_so Rattle.esm_model.specs.Sequence.is_sequence x r.seq bx e) all.3;
      size = size_bound (option_and_then as_u64 (as_number sized.0)) r.size sized.2;
      view = named AreBytes view (of_text view_type) r.view (field_bytes (codes "StreamViewType") d b) (λ x bx e. text_so Rattle.esm_ddb.specs.Change.is_view_type x r.view bx e) all.5;
    }

fields_in : (shard arrival : Result ℕ DdbError) (id name : Result (List ℕ) DdbError) (item : Result StreamRecord DdbError) (c : Change)
    → (shard >>= (λ s. arrival >>= (λ a. id >>= (λ i. name >>= (λ n. item >>= (λ r. Ok (the_change s a i n r))))))) ≡ Ok c
    → (id ≡ Ok c.id) × (name ≡ Ok c.name) × (item ≡ Ok c.item)
fields_in (Err e) arrival id name item c h = absurd (cc)
fields_in (Ok s) (Err e) id name item c h = absurd (cc)
fields_in (Ok s) (Ok a) (Err e) name item c h = absurd (cc)
fields_in (Ok s) (Ok a) (Ok i) (Err e) item c h = absurd (cc)
fields_in (Ok s) (Ok a) (Ok i) (Ok n) (Err e) c h = absurd (cc)
fields_in (Ok s) (Ok a) (Ok i) (Ok n) (Ok r) c h =
    let same = ok_inner (the_change s a i n r) c h in
    (ap (λ (x : Change). Ok x.id) same, ap (λ (x : Change). Ok x.name) same, ap (λ (x : Change). Ok x.item) same)

field_so : {A : Type 0} (f : DdbField) (reading : Data → Option A) (o : Option Data) (y : A) → OnSome DataBytes o → judged f reading o ≡ Ok y → (d : Data) × DataBytes d × (reading d ≡ Some y)
field_so f reading None y b h = absurd (cc)
field_so f reading (Some d) y b h = (d, b, ok_some (reading d) (BadField f) y h)

change_bytes : (d : Data) (c : Change) → DataBytes d → change_of d ≡ Ok c → AreChangeBytes c
change_bytes d c b h =
    let all = fields_in (field_of field.ShardId (of_text Rattle.esm_record.specs.Line.shard_number) d) (field_of field.ApproximateArrivalTimestamp Rattle.esm_record.specs.Line.moment d)
    (field_of field.EventId (of_text event_id) d) (field_of field.EventName (of_text event_name) d) (field_of field.Dynamodb stream_record d) c h in
    let at_id = field_so field.EventId (of_text event_id) (get (codes "eventID") d) c.id (field_bytes (codes "eventID") d b) all.0 in
    let at_name = field_so field.EventName (of_text event_name) (get (codes "eventName") d) c.name (field_bytes (codes "eventName") d b) all.1 in
    let at_item = field_so field.Dynamodb stream_record (get (codes "dynamodb") d) c.item (field_bytes (codes "dynamodb") d b) all.2 in
    record {
      id = text_so (λ text. Rattle.esm_model.specs.Valid.is_word Rattle.esm_ddb.specs.Change.is_visible 1 100 text) at_id.0 c.id at_id.1 at_id.2;
      name = text_so Rattle.esm_ddb.specs.Change.is_event_name at_name.0 c.name at_name.1 at_name.2;
      item = record_bytes at_item.0 c.item at_item.1 at_item.2;
    }

-- ---- its element

digit_byte : (x : ℕ) → is_ascii_digit x ≡ true → is_byte x ≡ true
digit_byte x h = grind (arith, nat_tests)

digits_bytes : (ds : List ℕ) → list_all is_ascii_digit ds ≡ true → AreBytes ds
digits_bytes [] h = refl
digits_bytes (x ∷ xs) h =
    let p = and_parts (is_ascii_digit x) (list_all is_ascii_digit xs) h in
    rw (digit_byte x p.0, digits_bytes xs p.1) refl

decimal_bytes : (n : ℕ) → n < 2 ^ 64 → AreBytes (decimal n)
decimal_bytes n h = digits_bytes (decimal n) (decimal_digits n h)

event_all : (id name region : List ℕ) → AreBytes id → AreBytes name → AreBytes region
    → AreBytes (codes "{\"eventID\":" ++ id ++ codes ",\"eventName\":" ++ name ++ codes ",\"eventVersion\":\"1.1\",\"eventSource\":\"aws:dynamodb\",\"awsRegion\":" ++ region)
event_all id name region hi hn hr = simp (list_all-append, hi, hn, hr)

image_bytes : (name : List ℕ) (o : Option Data) → AreBytes name → OnSome DataBytes o → AreBytes (image_part name o)
image_bytes name None hn h = refl
image_bytes name (Some d) hn h = append name (value_text d) hn (value_bytes d h)

images_all : (keys new old : List ℕ) → AreBytes keys → AreBytes new → AreBytes old → AreBytes (codes ",\"Keys\":" ++ keys ++ new ++ old)
images_all keys new old hk hn ho = simp (list_all-append, hk, hn, ho)

place_all : (seq size view : List ℕ) → AreBytes seq → AreBytes size → AreBytes view
    → AreBytes (codes ",\"SequenceNumber\":" ++ seq ++ codes ",\"SizeBytes\":" ++ size ++ codes ",\"StreamViewType\":" ++ view)
place_all seq size view hq hs hv = simp (list_all-append, hq, hs, hv)

whole_all : (event moment images place arn : List ℕ) → AreBytes event → AreBytes moment → AreBytes images → AreBytes place → AreBytes arn
    → AreBytes (event ++ codes ",\"dynamodb\":{\"ApproximateCreationDateTime\":" ++ moment ++ images ++ place ++ codes "},\"eventSourceARN\":" ++ arn ++ codes "}")
whole_all event moment images place arn he hm hi hp ha = simp (list_all-append, he, hm, hi, hp, ha)

element_all : (s : Source) (c : Change) → IsOfBytes s → AreChangeBytes c → c.arrival ≤ 253402300799999 → AreBytes (element s c)
unfolding element
element_all s c of b within =
    let r = c.item in
    whole_all (event_part s c) (decimal (c.arrival / 1000)) (images_part r) (place_part r) (quoted s.arn)
    (event_all (quoted c.id) (quoted c.name) (quoted s.region) (quoted_bytes c.id b.id) (quoted_bytes c.name b.name) (quoted_bytes s.region of.region))
    (decimal_bytes (c.arrival / 1000) (omega arith))
    (images_all (value_text r.keys) (image_part (codes ",\"NewImage\":") r.new_image) (image_part (codes ",\"OldImage\":") r.old_image) (value_bytes r.keys b.item.keys)
    (image_bytes (codes ",\"NewImage\":") r.new_image refl b.item.new_image) (image_bytes (codes ",\"OldImage\":") r.old_image refl b.item.old_image))
    (place_all (quoted r.seq) (decimal r.size) (quoted r.view) (quoted_bytes r.seq b.item.seq) (decimal_bytes r.size b.item.size) (quoted_bytes r.view b.item.view))
    (quoted_bytes s.arn of.arn)

-- ---- of a line

object_in : (o : Option Data) (d : Data) → ok_or (only_object o) NotJson ≡ Ok d → o ≡ Some d
object_in None d h = absurd (cc)
object_in (Some v) d h =
    let some = ok_some (only_if (Rattle.std.specs.Prelude.is_some (as_object v)) v) NotJson d h in
    ap (λ (x : Data). Some x) (only_some (Rattle.std.specs.Prelude.is_some (as_object v)) v d some).1

pub record IsToldBy (line : List ℕ) (c : Change) : Type 0 where
  pub value : Data
  pub read : read_json line ≡ Some value
  pub told : change_of value ≡ Ok c

pub told_by : (line : List ℕ) (c : Change) → change_in line ≡ Ok c → IsToldBy line c
told_by line c h =
    let t = then_ok (ok_or (only_object (read_json line)) NotJson) change_of c h in
    record { value = t.0; read = object_in (read_json line) t.0 t.1; told = t.2 }

pub element_bytes : (s : Source) (line : List ℕ) (c : Change) → IsOfBytes s → IsToldBy line c → c.arrival ≤ 253402300799999 → AreBytes (element s c)
element_bytes s line c of t within = element_all s c of (change_bytes t.value c (read_bytes line t.value t.read) t.told) within
