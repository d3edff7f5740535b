-- What is copied of a line in the form that is recognised, piece by piece.
use Rattle.std.proofs.Common.{◌≡◌, ◌∙◌, ℕ, ◌-◌, ◌/◌, ◌≤◌, arith, true, false, refl, sym, ap, List, ◌∷◌, ◌++◌, append_assoc, codes, length, length-append, take, Some}
use Rattle.std.specs.Prelude.{nat_lt, Ok}
use Rattle.std.specs.Fmt.{decimal}
use Rattle.std.specs.List.{flat_map}
use Rattle.std.proofs.lemmas.Bool.Decides.{nat_tests}
use Rattle.std.proofs.lemmas.List.{take_at}
use Rattle.md5.specs.Md5.{md5}
use Rattle.esm_model.specs.JsonText.{escaped_byte, quoted}
use Rattle.esm_model.specs.QueueEvent.{hexadecimal}
use Rattle.esm_model.specs.Sequence.{is_sequence}
use Rattle.esm_model.specs.Valid.{is_word}
use Rattle.serde_json.specs.Read.{read}
use Rattle.esm_record.specs.Line.{shard_number}
use Rattle.esm_ddb.specs.Change.{Change, StreamRecord, is_event_name, is_view_type, is_visible}
use Rattle.esm_ddb.specs.Element.{element, image_part}
use Rattle.esm_ddb.specs.ItemText.{value_text}
use Rattle.esm_ddb.specs.OwnLine.{IsOwnChange, IsTold, PassesArrival, PassesEvent, PassesImage, PassesImages, PassesItem, PassesPlace, PassesShard, PassesText, event_text, item_text, line_text, own_element, placed}
use Rattle.esm_ddb.specs.Turned.{content_part, place_part, record_line, turned_change, turned_record, turned_value}
use Rattle.esm_ddb.specs.declared.own_line.OwnLine.{OwnLine}
use Rattle.esm_ddb.specs.declared.source.Source.{Source}
use Rattle.esm_ddb.proofs.OwnItems.{only_true}
use Rattle.esm_ddb.proofs.OwnLines.{line_tells}
use Rattle.esm_ddb.proofs.RecordText.{own_kept}

pub front_is : (text front end : List ℕ) → text ≡ front ++ end → take (length text - length end) text ≡ front
front_is text front end is =
    let long : length text - length end ≡ length front = omega (arith, ap length is, length-append front end) in
    ap (λ l. take (length text - length end) l) is ∙ take_at front end (length text - length end) (sym long)

pub shard_passed : (text id shard rest : List ℕ) (number : ℕ) → text ≡ codes "{\"shardId\":\"" ++ id → PassesText id shard rest → shard_number shard ≡ Some number → PassesShard text number rest
shard_passed text id shard rest number a p reads = record {
  id = shard;
  is = a ∙ ap (λ l. codes "{\"shardId\":\"" ++ l) p.is;
  kept = p.kept;
  reads = reads;
}

pub arrival_passed : (text digits behind rest : List ℕ) (arrival : ℕ) → text ≡ codes ",\"approximateArrivalTimestamp\":" ++ digits → digits ≡ decimal arrival ++ behind → behind ≡ codes "," ++ rest
    → arrival ≤ 253402300799999 → PassesArrival text arrival rest
arrival_passed text digits behind rest arrival a b c within = record {
  is = a ∙ ap (λ l. codes ",\"approximateArrivalTimestamp\":" ++ l) (b ∙ ap (λ l. decimal arrival ++ l) c);
  within = within;
}

event_joined : (a q i b n rest : List ℕ) → (a ++ q) ++ (i ++ ((q ++ (b ++ q)) ++ (n ++ (q ++ rest)))) ≡ (a ++ (((q ++ i) ++ q) ++ (b ++ ((q ++ n) ++ q)))) ++ rest
event_joined a q i b n rest = simp append_assoc

event_is : (id name rest : List ℕ) → flat_map escaped_byte id ≡ id → flat_map escaped_byte name ≡ name
    → codes "\"eventID\":\"" ++ (id ++ 34 ∷ (codes ",\"eventName\":\"" ++ (name ++ 34 ∷ rest))) ≡ (codes "\"eventID\":" ++ (quoted id ++ (codes ",\"eventName\":" ++ quoted name))) ++ rest
event_is id name rest ei en = rw (ei, en) (event_joined (codes "\"eventID\":") (codes "\"") id (codes ",\"eventName\":") name rest)

pub event_passed : (text begun id behind_id named name rest event : List ℕ) → text ≡ codes "\"eventID\":\"" ++ begun → PassesText begun id behind_id → behind_id ≡ codes ",\"eventName\":\"" ++ named
    → PassesText named name rest → is_word is_visible 1 100 id ≡ true → is_event_name name ≡ true → ((front : List ℕ) → text ≡ front ++ rest → event ≡ front) → PassesEvent text event rest
event_passed text begun id behind_id named name rest event a i b n id_is name_is front =
    let own : List ℕ = codes "\"eventID\":" ++ (quoted id ++ (codes ",\"eventName\":" ++ quoted name)) in
    let is : text ≡ own ++ rest =
    a ∙ ap (λ l. codes "\"eventID\":\"" ++ l) (i.is ∙ ap (λ l. id ++ 34 ∷ l) (b ∙ ap (λ l. codes ",\"eventName\":\"" ++ l) n.is)) ∙ event_is id name rest (own_kept id i.kept) (own_kept name n.kept) in
    let event_is : event ≡ own = front own is in
    record {
      id = id;
      name = name;
      is = is ∙ ap (λ l. l ++ rest) (sym event_is);
      event_is = event_is;
      id_kept = i.kept;
      id_reads = only_true (is_word is_visible 1 100 id) id id_is;
      name_kept = n.kept;
      name_reads = only_true (is_event_name name) name name_is;
    }

pub images_passed : (text begun behind_keys behind_new rest keys : List ℕ) → text ≡ codes "\"Keys\":" ++ begun → PassesItem begun behind_keys → PassesImage (codes ",\"NewImage\":") behind_keys behind_new
    → PassesImage (codes ",\"OldImage\":") behind_new rest → ((front : List ℕ) → begun ≡ front ++ behind_keys → keys ≡ front) → PassesImages text keys rest
images_passed text begun behind_keys behind_new rest keys a k n o front = record {
  value = k.value;
  new_image = n.image;
  old_image = o.image;
  value_own = k.own;
  new_own = n.own;
  old_own = o.own;
  is = a ∙ ap (λ l. codes "\"Keys\":" ++ l) (k.is ∙ ap (λ l. value_text k.value ++ l) (n.is ∙ ap (λ l. image_part (codes ",\"NewImage\":") n.image ++ l) o.is));
  keys_is = front (value_text k.value) k.is;
}

place_joined : (a q s b z c v rest : List ℕ)
    → (a ++ q) ++ (s ++ ((q ++ b) ++ (z ++ ((c ++ q) ++ (v ++ (q ++ rest)))))) ≡ (a ++ ((q ++ s) ++ q) ++ b ++ z ++ c ++ ((q ++ v) ++ q)) ++ rest
place_joined a q s b z c v rest = simp append_assoc

place_is : (seq digits view rest : List ℕ) → flat_map escaped_byte seq ≡ seq → flat_map escaped_byte view ≡ view
    → codes ",\"SequenceNumber\":\"" ++ (seq ++ 34 ∷ (codes ",\"SizeBytes\":" ++ (digits ++ (codes ",\"StreamViewType\":\"" ++ (view ++ 34 ∷ rest)))))
    ≡ (codes ",\"SequenceNumber\":" ++ quoted seq ++ codes ",\"SizeBytes\":" ++ digits ++ codes ",\"StreamViewType\":" ++ quoted view) ++ rest
place_is seq digits view rest es ev =
    rw (es, ev) (place_joined (codes ",\"SequenceNumber\":") (codes "\"") seq (codes ",\"SizeBytes\":") digits (codes ",\"StreamViewType\":") view rest)

pub place_passed : (text begun seq behind_seq sized behind_size viewed view rest : List ℕ) (size : ℕ) → text ≡ codes ",\"SequenceNumber\":\"" ++ begun → PassesText begun seq behind_seq
    → behind_seq ≡ codes ",\"SizeBytes\":" ++ sized → sized ≡ decimal size ++ behind_size → behind_size ≡ codes ",\"StreamViewType\":\"" ++ viewed → PassesText viewed view rest
    → is_sequence seq ≡ true → size ≤ 9007199254740992 → is_view_type view ≡ true → PassesPlace text seq rest
place_passed text begun seq behind_seq sized behind_size viewed view rest size a s b z c v seq_is within view_is = record {
  size = size;
  view = view;
  is = a
      ∙ ap (λ l. codes ",\"SequenceNumber\":\"" ++ l) (s.is ∙ ap (λ l. seq ++ 34 ∷ l) (b ∙ ap (λ l. codes ",\"SizeBytes\":" ++ l) (z ∙ ap (λ l. decimal size ++ l) (c ∙ ap (λ l. codes ",\"StreamViewType\":\"" ++ l) v.is))))
      ∙ place_is seq (decimal size) view rest (own_kept seq s.kept) (own_kept view v.kept);
  seq_kept = s.kept;
  seq_reads = only_true (is_sequence seq) seq seq_is;
  within = within;
  view_kept = v.kept;
  view_reads = only_true (is_view_type view) view view_is;
}

-- ---- the whole line

members_joined : (a k n o p e : List ℕ) → a ++ (k ++ (n ++ (o ++ (p ++ e)))) ≡ (a ++ (k ++ (n ++ (o ++ p)))) ++ e
members_joined a k n o p e = simp append_assoc

pub told : (text behind_shard behind_arrival behind_event members behind_images end event keys seq item : List ℕ) (shard arrival : ℕ) (o : OwnLine)
    → o.shard ≡ shard → o.arrival ≡ arrival → o.event.now ≡ event → o.keys.now ≡ keys → o.seq.now ≡ seq → o.item.now ≡ item
    → PassesShard text shard behind_shard → PassesArrival behind_shard arrival behind_arrival → PassesEvent behind_arrival event behind_event
    → behind_event ≡ codes ",\"dynamodb\":{" ++ members → PassesImages members keys behind_images → PassesPlace behind_images seq end → end ≡ codes "}}"
    → ((front : List ℕ) → members ≡ front ++ end → item ≡ front) → IsTold text o
told text behind_shard behind_arrival behind_event members behind_images end event keys seq item shard arrival o os oa oe ok oq oi s a e d i p ended front =
    let r : StreamRecord = record { keys = i.value; new_image = i.new_image; old_image = i.old_image; seq = seq; size = p.size; view = p.view } in
    let c : Change = record { shard = shard; arrival = arrival; id = e.id; name = e.name; item = r } in
    let new = image_part (codes ",\"NewImage\":") i.new_image in
    let old = image_part (codes ",\"OldImage\":") i.old_image in
    let members_is : members ≡ item_text r ++ end =
    i.is ∙ ap (λ l. codes "\"Keys\":" ++ (value_text i.value ++ (new ++ (old ++ l)))) p.is ∙ members_joined (codes "\"Keys\":") (value_text i.value) new old (placed seq p.size p.view) end in
    let text_is : text ≡ line_text s.id c =
    s.is
    ∙ ap (λ l. codes "{\"shardId\":\"" ++ (s.id ++ 34 ∷ l)) (a.is ∙ ap (λ l. codes ",\"approximateArrivalTimestamp\":" ++ (decimal arrival ++ (codes "," ++ l)))
    (e.is ∙ ap (λ l. l ++ behind_event) e.event_is ∙ ap (λ l. event_text c ++ l) (d ∙ ap (λ l. codes ",\"dynamodb\":{" ++ l) (members_is ∙ ap (λ l. item_text r ++ l) ended)))) in
    let own : IsOwnChange s.id c = record {
      shard_kept = s.kept;
      shard_reads = s.reads;
      arrival = a.within;
      id = e.id_kept;
      id_reads = e.id_reads;
      name = e.name_kept;
      name_reads = e.name_reads;
      keys = i.value_own;
      new_image = i.new_own;
      old_image = i.old_own;
      place = record { seq = p.seq_kept; seq_reads = p.seq_reads; size = p.within; view = p.view_kept; view_reads = p.view_reads };
    } in
    record {
      change = c;
      told = λ source. ap (λ (l : List ℕ). turned_value source (read l)) text_is ∙ line_tells s.id c own source;
      shard = os;
      arrival = oa;
      event = oe ∙ e.event_is;
      keys = ok ∙ i.keys_is;
      seq = oq;
      item = oi ∙ front (item_text r) members_is;
    }

-- ---- what it becomes

element_joined : (x a i b n c r d m g k v w o p e y z : List ℕ)
    → ((x ++ (a ++ (i ++ (b ++ n)))) ++ c ++ r) ++ (d ++ m ++ g ++ (k ++ (v ++ (w ++ (o ++ p)))) ++ e ++ y ++ z)
    ≡ ((x ++ a) ++ i ++ b ++ n ++ c ++ r) ++ d ++ m ++ ((g ++ k) ++ v ++ w ++ o) ++ p ++ e ++ y ++ z
element_joined x a i b n c r d m g k v w o p e y z = simp append_assoc

element_is : (s : Source) (c : Change) → own_element (event_text c) (c.arrival / 1000) (item_text c.item) s ≡ element s c
unfolding element
element_is s c =
    let r = c.item in
    element_joined (codes "{") (codes "\"eventID\":") (quoted c.id) (codes ",\"eventName\":") (quoted c.name) (codes ",\"eventVersion\":\"1.1\",\"eventSource\":\"aws:dynamodb\",\"awsRegion\":") (quoted s.region)
    (codes ",\"dynamodb\":{\"ApproximateCreationDateTime\":") (decimal (c.arrival / 1000)) (codes ",") (codes "\"Keys\":") (value_text r.keys) (image_part (codes ",\"NewImage\":") r.new_image)
    (image_part (codes ",\"OldImage\":") r.old_image) (placed r.seq r.size r.view) (codes "},\"eventSourceARN\":") (quoted s.arn) (codes "}")

element_of : (text payload : List ℕ) (o : OwnLine) (s : Source) (t : IsTold text o) → payload ≡ own_element o.event.now (o.arrival / 1000) o.item.now s → payload ≡ element s t.change
element_of text payload o s t is =
    is
    ∙ ap (λ l. own_element l (o.arrival / 1000) o.item.now s) t.event
    ∙ ap (λ n. own_element (event_text t.change) (n / 1000) o.item.now s) t.arrival
    ∙ ap (λ l. own_element (event_text t.change) (t.change.arrival / 1000) l s) t.item
    ∙ element_is s t.change

line_of : (shard arrival other_shard other_arrival : ℕ) (seq keys payload other_seq other_keys other_payload : List ℕ) → shard ≡ other_shard → arrival ≡ other_arrival → seq ≡ other_seq → keys ≡ other_keys
    → payload ≡ other_payload
    → place_part shard seq ++ content_part (hexadecimal (md5 keys)) payload arrival ≡ place_part other_shard other_seq ++ content_part (hexadecimal (md5 other_keys)) other_payload other_arrival
line_of shard arrival other_shard other_arrival seq keys payload other_seq other_keys other_payload a b c d e = rw (a, b, c, d, e) refl

line_is : (text line payload : List ℕ) (o : OwnLine) (s : Source) (t : IsTold text o) → payload ≡ element s t.change
    → line ≡ place_part o.shard o.seq.now ++ content_part (hexadecimal (md5 o.keys.now)) payload o.arrival → line ≡ record_line (turned_record s t.change)
unfolding record_line
line_is text line payload o s t payload_is is =
    is ∙ line_of o.shard o.arrival t.change.shard t.change.arrival o.seq.now o.keys.now payload t.change.item.seq (value_text t.change.item.keys) (element s t.change) t.shard t.arrival t.seq t.keys payload_is

short_by : (s : Source) (c : Change) → length (element s c) ≤ 1048576 → turned_change s c ≡ Ok (record_line (turned_record s c))
short_by s c short =
    let few : nat_lt 1048576 (length (element s c)) ≡ false = grind (arith, nat_tests) in
    rw few refl

pub becomes : (text payload line : List ℕ) (o : OwnLine) (s : Source) → IsTold text o → payload ≡ own_element o.event.now (o.arrival / 1000) o.item.now s → length payload ≤ 1048576
    → line ≡ place_part o.shard o.seq.now ++ content_part (hexadecimal (md5 o.keys.now)) payload o.arrival → turned_value s (read text) ≡ Ok line
becomes text payload line o s t payload_is short is =
    let same = element_of text payload o s t payload_is in
    let few : length (element s t.change) ≤ 1048576 = omega (arith, ap length same, short) in
    t.told s ∙ short_by s t.change few ∙ ap Ok (sym (line_is text line payload o s t same is))
