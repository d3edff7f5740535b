-- A line in the form that is recognised tells its change.
use Rattle.std.proofs.Common.{◌≡◌, ◌∙◌, ℕ, ◌^◌, ◌<◌, ◌≤◌, lit≤, arith, true, false, refl, sym, ap, List, ◌++◌, append_assoc, codes, Option, Some, None, option_map, option_and_then}
use Rattle.std.specs.Prelude.{nat_le, Ok}
use Rattle.std.specs.Fmt.{decimal}
use Rattle.std.specs.List.{flat_map}
use Rattle.std.specs.Option.{ok_or}
use Rattle.std.proofs.lemmas.Bool.Decides.{nat_tests}
use Rattle.json.specs.Print.{escape, escape_byte}
use Rattle.json.specs.Tree as tree
use Rattle.serde_json.specs.Data.{Data, Members, member, no_members, number, object, put, string, unsigned}
use Rattle.serde_json.specs.Find.{get}
use Rattle.serde_json.specs.Read.{of_json, of_members, read}
use Rattle.serde_json.specs.Written as written
use Rattle.serde_json.specs.Written.{compact_text, members_outline, outline}
use Rattle.esm_config.proofs.ReadBack.{IsSound, get_last, put_all, reads_object, sound_string, sound_whole}
use Rattle.serde_json.proofs.Numbers.{number_of-decimal}
use Rattle.json.proofs.Printed.Decimals.{IsNumber-decimal}
use Rattle.esm_model.specs.JsonText.{escaped_byte, quoted}
use Rattle.esm_record.specs.Line.{moment, of_text, sequence_number, shard_number}
use Rattle.esm_ddb.specs.Change.{◌>>=◌, Change, StreamRecord, change_of, event_id, event_name, field_of, image_of, judged, keys_of, size_of, stream_record, view_type}
use Rattle.esm_ddb.specs.Element.{image_part}
use Rattle.esm_ddb.specs.ItemText.{value_text}
use Rattle.esm_ddb.specs.OwnLine.{IsOwnChange, IsOwnImage, IsOwnItem, IsOwnPlace, item_text, line_text, placed}
use Rattle.esm_ddb.specs.Turned.{turned_change, turned_value}
use Rattle.esm_ddb.specs.declared.error.DdbError.TheVariants.{BadField}
use Rattle.esm_ddb.specs.declared.error.DdbField.TheVariants as field
use Rattle.esm_ddb.specs.declared.source.Source.{Source}
use Rattle.esm_ddb.proofs.OwnItems.{escape_kept, only_true}
use Rattle.esm_ddb.proofs.RecordText.{own_kept}

-- ---- the member `dynamodb`

abbrev with_image : List ℕ → Option Data → Members → Members
with_image name None ms = ms
with_image name (Some d) ms = member name d ms

abbrev place_members : (seq : List ℕ) (size : ℕ) (view : List ℕ) → Members
place_members seq size view =
    member (codes "SequenceNumber") (string seq) (member (codes "SizeBytes") (number (unsigned size)) (member (codes "StreamViewType") (string view) no_members))

abbrev members_in : (keys : Data) (new old : Option Data) (seq : List ℕ) (size : ℕ) (view : List ℕ) → Members
members_in keys new old seq size view =
    member (codes "Keys") keys (with_image (codes "NewImage") new (with_image (codes "OldImage") old (place_members seq size view)))

abbrev item_members : StreamRecord → Members
item_members r = members_in r.keys r.new_image r.old_image r.seq r.size r.view

-- its text

-- the quotation mark that ends a text goes with what follows it
place_joined : (a q s b z c v e : List ℕ)
    → a ++ ((q ++ (s ++ q)) ++ (b ++ (z ++ (c ++ ((q ++ (v ++ q)) ++ e))))) ≡ (a ++ ((q ++ s) ++ q) ++ b ++ z ++ c ++ ((q ++ v) ++ q)) ++ e
place_joined a q s b z c v e = simp append_assoc

place_compact : (seq : List ℕ) (size : ℕ) (view : List ℕ) → escape seq ≡ seq → escape view ≡ view → flat_map escaped_byte seq ≡ seq → flat_map escaped_byte view ≡ view
    → written.members_text true (place_members seq size view) ≡ placed seq size view ++ codes "}"
unfolding escape_byte
place_compact seq size view eq ev oq ov =
    rw (eq, ev, oq, ov)
    (place_joined (codes ",\"SequenceNumber\":") (codes "\"") seq (codes ",\"SizeBytes\":") (decimal size) (codes ",\"StreamViewType\":") view (codes "}"))

new_compact : (o : Option Data) (ms : Members) → IsOwnImage o → written.members_text true (with_image (codes "NewImage") o ms) ≡ image_part (codes ",\"NewImage\":") o ++ written.members_text true ms
unfolding escape_byte
new_compact None ms own = refl
new_compact (Some d) ms own = ap (λ l. codes ",\"NewImage\":" ++ (l ++ written.members_text true ms)) own.written

old_compact : (o : Option Data) (ms : Members) → IsOwnImage o → written.members_text true (with_image (codes "OldImage") o ms) ≡ image_part (codes ",\"OldImage\":") o ++ written.members_text true ms
unfolding escape_byte
old_compact None ms own = refl
old_compact (Some d) ms own = ap (λ l. codes ",\"OldImage\":" ++ (l ++ written.members_text true ms)) own.written

keys_compact : (d : Data) (ms : Members) → written.members_text false (member (codes "Keys") d ms) ≡ codes "\"Keys\":" ++ (compact_text d ++ written.members_text true ms)
unfolding escape_byte
keys_compact d ms = refl

item_joined : (a k n o p e : List ℕ) → a ++ (k ++ (n ++ (o ++ (p ++ e)))) ≡ (a ++ (k ++ (n ++ (o ++ p)))) ++ e
item_joined a k n o p e = simp append_assoc

item_compact : (r : StreamRecord) → IsOwnItem r.keys → IsOwnImage r.new_image → IsOwnImage r.old_image → IsOwnPlace r → written.members_text false (item_members r) ≡ item_text r ++ codes "}"
item_compact r keys new old place =
    let tail = place_members r.seq r.size r.view in
    let older = with_image (codes "OldImage") r.old_image tail in
    let newer = with_image (codes "NewImage") r.new_image older in
    let at_place = place_compact r.seq r.size r.view (escape_kept r.seq place.seq) (escape_kept r.view place.view) (own_kept r.seq place.seq) (own_kept r.view place.view) in
    let at_old = old_compact r.old_image tail old ∙ ap (λ l. image_part (codes ",\"OldImage\":") r.old_image ++ l) at_place in
    let at_new = new_compact r.new_image older new ∙ ap (λ l. image_part (codes ",\"NewImage\":") r.new_image ++ l) at_old in
    keys_compact r.keys newer
    ∙ ap (λ l. codes "\"Keys\":" ++ (l ++ written.members_text true newer)) keys.written
    ∙ ap (λ l. codes "\"Keys\":" ++ (value_text r.keys ++ l)) at_new
    ∙ item_joined (codes "\"Keys\":") (value_text r.keys) (image_part (codes ",\"NewImage\":") r.new_image) (image_part (codes ",\"OldImage\":") r.old_image) (placed r.seq r.size r.view) (codes "}")

-- it reads back

abbrev AllRead : Members → Type 0
AllRead no_members = Unit {0}
AllRead (member k d ms) = (of_json (outline d) ≡ Some d) × AllRead ms

reads_all : (ms found : Members) → AllRead ms → of_members (members_outline ms) found ≡ Some (put_all ms found)
reads_all no_members found h = refl
reads_all (member k d ms) found h = ap (λ o. option_and_then (λ x. of_members (members_outline ms) (put k x found)) o) h.0 ∙ reads_all ms (put k d found) h.1

image_reads : (name : List ℕ) (o : Option Data) (ms : Members) → IsOwnImage o → AllRead ms → AllRead (with_image name o ms)
image_reads name None ms own h = h
image_reads name (Some d) ms own h = (own.reads, h)

image_numbers : (name : List ℕ) (o : Option Data) (ms : Members) → IsOwnImage o → tree.MembersHaveNumbers (members_outline ms) → tree.MembersHaveNumbers (members_outline (with_image name o ms))
image_numbers name None ms own h = h
image_numbers name (Some d) ms own h = (own.numbers, h)

image_shallow : (name : List ℕ) (o : Option Data) (ms : Members) → IsOwnImage o → tree.members_depth (members_outline ms) ≤ 2 → tree.members_depth (members_outline (with_image name o ms)) ≤ 2
image_shallow name None ms own h = h
image_shallow name (Some d) ms own h = let low = own.shallow in omega arith

in_place : (keys : Data) (new old : Option Data) (seq : List ℕ) (size : ℕ) (view : List ℕ) → put_all (members_in keys new old seq size view) no_members ≡ members_in keys new old seq size view
in_place keys None None seq size view = refl
in_place keys None (Some o) seq size view = refl
in_place keys (Some n) None seq size view = refl
in_place keys (Some n) (Some o) seq size view = refl

number_reads : (n : ℕ) → n < 2 ^ 64 → of_json (outline (number (unsigned n))) ≡ Some (number (unsigned n))
number_reads n h = ap (λ o. option_map number o) (number_of-decimal n h)

sound_item : (r : StreamRecord) → IsOwnItem r.keys → IsOwnImage r.new_image → IsOwnImage r.old_image → IsOwnPlace r → IsSound (object (item_members r))
sound_item r keys new old place =
    let within : r.size ≤ 2 ^ 53 = place.size in
    let fits : r.size < 2 ^ 64 = omega (arith, within) in
    let tail = place_members r.seq r.size r.view in
    let older = with_image (codes "OldImage") r.old_image tail in
    let newer = with_image (codes "NewImage") r.new_image older in
    let all : AllRead (item_members r) =
    (keys.reads, image_reads (codes "NewImage") r.new_image older new (image_reads (codes "OldImage") r.old_image tail old (refl, (number_reads r.size fits, (refl, tt))))) in
    let low = keys.shallow in
    let lower = image_shallow (codes "NewImage") r.new_image older new (image_shallow (codes "OldImage") r.old_image tail old (lit≤ tt)) in
    record {
      numbers = (keys.numbers, image_numbers (codes "NewImage") r.new_image older new (image_numbers (codes "OldImage") r.old_image tail old (tt, (IsNumber-decimal r.size fits, (tt, tt)))));
      reads = ap (λ o. option_map object o) (reads_all (item_members r) no_members all ∙ ap Some (in_place r.keys r.new_image r.old_image r.seq r.size r.view));
      shallow = omega (arith, low, lower);
    }

-- and tells what the table's stream says

stream_by : (d keys : Data) (new old : Option Data) (seq : List ℕ) (size : ℕ) (view : List ℕ)
    → option_and_then keys_of (get (codes "Keys") d) ≡ Some keys → image_of (get (codes "NewImage") d) ≡ Some new → image_of (get (codes "OldImage") d) ≡ Some old
    → option_and_then (of_text sequence_number) (get (codes "SequenceNumber") d) ≡ Some seq → option_and_then size_of (get (codes "SizeBytes") d) ≡ Some size
    → option_and_then (of_text view_type) (get (codes "StreamViewType") d) ≡ Some view
    → stream_record d ≡ Some (record { keys = keys; new_image = new; old_image = old; seq = seq; size = size; view = view })
stream_by d keys new old seq size view a b c e f g = rw (a, b, c, e, f, g) refl

size_fits : (n : ℕ) → n ≤ 2 ^ 53 → size_of (number (unsigned n)) ≡ Some n
size_fits n h = only_true (nat_le n (2 ^ 53)) n (grind (arith, nat_tests))

image_is : (d : Data) → IsOwnItem d → image_of (Some d) ≡ Some (Some d)
image_is d own = ap (option_map Some) own.item

stream_is : (keys : Data) (new old : Option Data) (seq : List ℕ) (size : ℕ) (view : List ℕ) → IsOwnItem keys → IsOwnImage new → IsOwnImage old → sequence_number seq ≡ Some seq → size ≤ 2 ^ 53
    → view_type view ≡ Some view
    → stream_record (object (members_in keys new old seq size view)) ≡ Some (record { keys = keys; new_image = new; old_image = old; seq = seq; size = size; view = view })
stream_is keys None None seq size view k n o s z v = stream_by (object (members_in keys None None seq size view)) keys None None seq size view k.keys refl refl s (size_fits size z) v
stream_is keys None (Some old) seq size view k n o s z v = stream_by (object (members_in keys None (Some old) seq size view)) keys None (Some old) seq size view k.keys refl (image_is old o) s (size_fits size z) v
stream_is keys (Some new) None seq size view k n o s z v = stream_by (object (members_in keys (Some new) None seq size view)) keys (Some new) None seq size view k.keys (image_is new n) refl s (size_fits size z) v
stream_is keys (Some new) (Some old) seq size view k n o s z v = stream_by (object (members_in keys (Some new) (Some old) seq size view)) keys (Some new) (Some old) seq size view k.keys (image_is new n) (image_is old o) s (size_fits size z) v

-- ---- the line

abbrev line_members : (shard : List ℕ) (arrival : ℕ) (id name : List ℕ) → Data → Members
line_members shard arrival id name item =
    member (codes "shardId") (string shard)
    (member (codes "approximateArrivalTimestamp") (number (unsigned arrival))
    (member (codes "eventID") (string id)
    (member (codes "eventName") (string name)
    (member (codes "dynamodb") item no_members))))

line_joined : (a q s x m g e i f n d t z : List ℕ)
    → a ++ ((q ++ (s ++ q)) ++ (x ++ (m ++ ((g ++ e) ++ ((q ++ (i ++ q)) ++ (f ++ ((q ++ (n ++ q)) ++ (d ++ ((t ++ z) ++ z)))))))))
    ≡ (a ++ q) ++ (s ++ ((q ++ x) ++ (m ++ (g ++ ((e ++ (((q ++ i) ++ q) ++ (f ++ ((q ++ n) ++ q)))) ++ (d ++ (t ++ (z ++ z))))))))
line_joined a q s x m g e i f n d t z = simp append_assoc

line_by : (shard : List ℕ) (arrival : ℕ) (id name : List ℕ) (ms : Members) (item : List ℕ) → escape shard ≡ shard → escape id ≡ id → escape name ≡ name
    → flat_map escaped_byte id ≡ id → flat_map escaped_byte name ≡ name → written.members_text false ms ≡ item ++ codes "}"
    → compact_text (object (line_members shard arrival id name (object ms)))
    ≡ codes "{\"shardId\":\"" ++ (shard ++ (codes "\",\"approximateArrivalTimestamp\":" ++ (decimal arrival ++ (codes ","
    ++ ((codes "\"eventID\":" ++ (quoted id ++ (codes ",\"eventName\":" ++ quoted name))) ++ (codes ",\"dynamodb\":{" ++ (item ++ codes "}}")))))))
unfolding escape_byte
line_by shard arrival id name ms item es ei en oi on is =
    rw (es, ei, en, oi, on, is)
    (line_joined (codes "{\"shardId\":") (codes "\"") shard (codes ",\"approximateArrivalTimestamp\":") (decimal arrival) (codes ",") (codes "\"eventID\":") id (codes ",\"eventName\":") name
    (codes ",\"dynamodb\":{") item (codes "}"))

line_compact : (shard : List ℕ) (c : Change) → IsOwnChange shard c → compact_text (object (line_members shard c.arrival c.id c.name (object (item_members c.item)))) ≡ line_text shard c
line_compact shard c own =
    line_by shard c.arrival c.id c.name (item_members c.item) (item_text c.item) (escape_kept shard own.shard_kept) (escape_kept c.id own.id) (escape_kept c.name own.name) (own_kept c.id own.id) (own_kept c.name own.name)
    (item_compact c.item own.keys own.new_image own.old_image own.place)

line_reads : (shard : List ℕ) (c : Change) → IsOwnChange shard c → read (line_text shard c) ≡ Some (object (put_all (line_members shard c.arrival c.id c.name (object (item_members c.item))) no_members))
line_reads shard c own =
    let within : c.arrival ≤ 253402300799999 = own.arrival in
    let fits : c.arrival < 2 ^ 64 = omega (arith, within) in
    let item = sound_item c.item own.keys own.new_image own.old_image own.place in
    ap read (sym (line_compact shard c own))
    ∙ reads_object (line_members shard c.arrival c.id c.name (object (item_members c.item))) (sound_string _, (sound_whole c.arrival fits, (sound_string _, (sound_string _, (item, tt)))))

-- ---- its fields

arrival_fits : (n : ℕ) → n ≤ 253402300799999 → moment (number (unsigned n)) ≡ Some n
arrival_fits n h = only_true (nat_le n 253402300799999) n (grind (arith, nat_tests))

shard_field : (shard : List ℕ) (arrival : ℕ) (id name : List ℕ) (item : Data) (n : ℕ) → shard_number shard ≡ Some n
    → field_of field.ShardId (of_text shard_number) (object (put_all (line_members shard arrival id name item) no_members)) ≡ Ok n
shard_field shard arrival id name item n h =
    ap (judged field.ShardId (of_text shard_number)) (get_last (codes "shardId") (line_members shard arrival id name item) no_members) ∙ ap (λ o. ok_or o (BadField field.ShardId)) h

arrival_field : (shard : List ℕ) (arrival : ℕ) (id name : List ℕ) (item : Data) → arrival ≤ 253402300799999
    → field_of field.ApproximateArrivalTimestamp moment (object (put_all (line_members shard arrival id name item) no_members)) ≡ Ok arrival
arrival_field shard arrival id name item h =
    ap (judged field.ApproximateArrivalTimestamp moment) (get_last (codes "approximateArrivalTimestamp") (line_members shard arrival id name item) no_members)
    ∙ ap (λ o. ok_or o (BadField field.ApproximateArrivalTimestamp)) (arrival_fits arrival h)

id_field : (shard : List ℕ) (arrival : ℕ) (id name : List ℕ) (item : Data) → event_id id ≡ Some id
    → field_of field.EventId (of_text event_id) (object (put_all (line_members shard arrival id name item) no_members)) ≡ Ok id
id_field shard arrival id name item h =
    ap (judged field.EventId (of_text event_id)) (get_last (codes "eventID") (line_members shard arrival id name item) no_members) ∙ ap (λ o. ok_or o (BadField field.EventId)) h

name_field : (shard : List ℕ) (arrival : ℕ) (id name : List ℕ) (item : Data) → event_name name ≡ Some name
    → field_of field.EventName (of_text event_name) (object (put_all (line_members shard arrival id name item) no_members)) ≡ Ok name
name_field shard arrival id name item h =
    ap (judged field.EventName (of_text event_name)) (get_last (codes "eventName") (line_members shard arrival id name item) no_members) ∙ ap (λ o. ok_or o (BadField field.EventName)) h

item_field : (shard : List ℕ) (arrival : ℕ) (id name : List ℕ) (item : Data) (r : StreamRecord) → stream_record item ≡ Some r
    → field_of field.Dynamodb stream_record (object (put_all (line_members shard arrival id name item) no_members)) ≡ Ok r
item_field shard arrival id name item r h =
    ap (judged field.Dynamodb stream_record) (get_last (codes "dynamodb") (line_members shard arrival id name item) no_members) ∙ ap (λ o. ok_or o (BadField field.Dynamodb)) h

change_by : (d : Data) (shard arrival : ℕ) (id name : List ℕ) (item : StreamRecord) → field_of field.ShardId (of_text shard_number) d ≡ Ok shard
    → field_of field.ApproximateArrivalTimestamp moment d ≡ Ok arrival → field_of field.EventId (of_text event_id) d ≡ Ok id → field_of field.EventName (of_text event_name) d ≡ Ok name
    → field_of field.Dynamodb stream_record d ≡ Ok item → change_of d ≡ Ok (record { shard = shard; arrival = arrival; id = id; name = name; item = item })
change_by d shard arrival id name item a b c e f = rw (a, b, c, e, f) refl

line_change : (shard : List ℕ) (c : Change) → IsOwnChange shard c → change_of (object (put_all (line_members shard c.arrival c.id c.name (object (item_members c.item))) no_members)) ≡ Ok c
line_change shard c own =
    let r = c.item in
    let item = object (item_members r) in
    let place = own.place in
    let told = stream_is r.keys r.new_image r.old_image r.seq r.size r.view own.keys own.new_image own.old_image place.seq_reads place.size place.view_reads in
    change_by (object (put_all (line_members shard c.arrival c.id c.name item) no_members)) c.shard c.arrival c.id c.name r
    (shard_field shard c.arrival c.id c.name item c.shard own.shard_reads)
    (arrival_field shard c.arrival c.id c.name item own.arrival)
    (id_field shard c.arrival c.id c.name item own.id_reads)
    (name_field shard c.arrival c.id c.name item own.name_reads)
    (item_field shard c.arrival c.id c.name item r told)

pub line_tells : (shard : List ℕ) (c : Change) → IsOwnChange shard c → (s : Source) → turned_value s (read (line_text shard c)) ≡ turned_change s c
line_tells shard c own s = ap (turned_value s) (line_reads shard c own) ∙ ap (λ r. r >>= turned_change s) (line_change shard c own)
