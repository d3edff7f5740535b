-- A run's event becomes the event of its elements.
use Rattle.std.proofs.Common.{◌≡◌, ◌∙◌, ℕ, ◌+◌, ◌-◌, ◌/◌, ◌%◌, ◌≤◌, lit≤, arith, Bool, true, refl, sym, ap, ap₂, subst, List, [], ◌∷◌, ◌++◌, append_assoc, codes, length, length-append, map, Option, Some, None, ◌⊎◌, inl, inr}
use Rattle.std.specs.Char.{is_ascii_digit}
use Rattle.std.specs.List.{All, flat_map, join_by, list_all}
use Rattle.std.specs.Result.{result_ok}
use Rattle.std.proofs.lemmas.Bool.{and_parts}
use Rattle.std.proofs.lemmas.Bool.Decides.{nat_tests}
use Rattle.std.proofs.lemmas.List.Elements.{All-cons, All-head, All-nil, All-tail}
use Rattle.std.proofs.lemmas.List.Folds.{list_all-append}
use Rattle.base64.specs.Engines.{standard}
use Rattle.base64.specs.GeneralPurpose.{IsBytes, decode_of}
use Rattle.base64.proofs.EngineFacts.{decode_of-encode_of}
use Rattle.esm_event.proofs.LengthLemmas.{base64_length}
use Rattle.json.specs.Json.{Json, no_members, object, value}
use Rattle.json.specs.Lex.{tokens}
use Rattle.json.specs.Print.{print, print_from}
use Rattle.json.specs.Tree.{json_tokens}
use Rattle.json.proofs.Printed.Tokens.{tokens-print}
use Rattle.json.proofs.Printed.Trees.{ArePrintable-json_tokens, value-json_tokens}
use Rattle.esm_model.specs.Dates.{clock_text, date_in_year, day_text, days_of_months, month_of, new_year, second_text, year_of}
use Rattle.esm_model.specs.EventText.{base64_text, event_text, identity_part, record_text, seconds_text, shard_id, source_part, state_text, window_part}
use Rattle.esm_model.specs.JsonText.{quoted, truth_text}
use Rattle.esm_model.specs.Moment.{moment_after}
use Rattle.esm_model.specs.Numbers.{last_digits, padded_decimal}
use Rattle.esm_model.specs.declared.event.WindowCall.{WindowCall}
use Rattle.esm_model.specs.Valid.{IsKinesisSource, IsSource, IsStreamConfig, IsTableSource, is_label_byte, is_region_byte, is_stream_byte, is_word}
use Rattle.esm_model.specs.declared.config.Config.{Config}
use Rattle.esm_model.specs.declared.config.Kind.{Kind}
use Rattle.esm_model.specs.Records.{Record}
use Rattle.esm_ddb.specs.ItemText.{value_text}
use Rattle.esm_ddb.specs.Event.{ddb_event}
use Rattle.esm_ddb.specs.OwnForm.{AreUnescaped, IsOwn, Own, head_text, is_unescaped, other_payloads, other_texts}
use Rattle.esm_ddb.specs.LineByLine.{IsOfChange}
use Rattle.esm_ddb.specs.ReadsBack.{IsOfBytes, is_byte}
use Rattle.esm_ddb.specs.RunEvent.{HasFirstState, HasItsElements, HasSourceOfBytes, IsNoLonger, elements_event}
use Rattle.esm_ddb.specs.Translating.{source_of}
use Rattle.esm_ddb.specs.declared.source.Source.{Source}
use Rattle.esm_ddb.proofs.ElementBytes.{element_bytes, told_by}
use Rattle.esm_ddb.proofs.Moments.{seconds_moment}
use Rattle.esm_ddb.proofs.OwnEvents.{becomes_elements, data_of, own_text, text_of}
use Rattle.esm_ddb.proofs.ReadBack.{digits_all, digits_unescaped, base64_unescaped, are_bytes, plain_utf8, shard_unescaped, seq_digits, key_hex}
use Rattle.esm_ddb.proofs.RecordText.{record_is, texts_of}
use Rattle.esm_ddb.proofs.Told.{IsTold, change_told}
use Rattle.esm_ddb.proofs.WindowEvents.{becomes_windowed}
use Rattle.esm_ddb.proofs.WindowTexts.{IsPlainWindow, Window, close_part, end_text, open_part, window_text}

-- ---- characters of a configuration and of a record

pub record IsPlainConfig (c : Config) : Type 0 where
  pub account : list_all is_unescaped c.account ≡ true
  pub region : list_all is_unescaped c.region ≡ true
  pub arn : list_all is_unescaped c.source_arn ≡ true

region_one : (b : ℕ) → is_region_byte b ≡ true → is_unescaped b ≡ true
region_one b h = grind (arith, nat_tests)

stream_one : (b : ℕ) → is_stream_byte b ≡ true → is_unescaped b ≡ true
stream_one b h = grind (arith, nat_tests)

label_one : (b : ℕ) → is_label_byte b ≡ true → is_unescaped b ≡ true
label_one b h = grind (arith, nat_tests)

all_so : (p : ℕ → Bool) → ((b : ℕ) → p b ≡ true → is_unescaped b ≡ true) → (bs : List ℕ) → list_all p bs ≡ true → list_all is_unescaped bs ≡ true
all_so p one [] h = refl
all_so p one (b ∷ bs) h =
    let q = and_parts (p b) (list_all p bs) h in
    rw (one b q.0, all_so p one bs q.1) refl

word_so : (p : ℕ → Bool) (low high : ℕ) (bs : List ℕ) → is_word p low high bs ≡ true → list_all p bs ≡ true
word_so p low high bs h = (and_parts _ (list_all p bs) h).1

stream_plain : (region account name : List ℕ) → list_all is_unescaped region ≡ true → list_all is_unescaped account ≡ true → list_all is_unescaped name ≡ true
    → list_all is_unescaped (codes "arn:aws:" ++ codes "kinesis" ++ codes ":" ++ region ++ codes ":" ++ account ++ codes ":" ++ (codes "stream/" ++ name)) ≡ true
stream_plain region account name hr ha hn = simp (list_all-append, hr, ha, hn)

table_plain : (region account name label : List ℕ) → list_all is_unescaped region ≡ true → list_all is_unescaped account ≡ true → list_all is_unescaped name ≡ true → list_all is_unescaped label ≡ true
    → list_all is_unescaped (codes "arn:aws:" ++ codes "dynamodb" ++ codes ":" ++ region ++ codes ":" ++ account ++ codes ":" ++ (codes "table/" ++ name ++ codes "/stream/" ++ label)) ≡ true
table_plain region account name label hr ha hn hl = simp (list_all-append, hr, ha, hn, hl)

arn_plain : (region account arn : List ℕ) → list_all is_unescaped region ≡ true → list_all is_unescaped account ≡ true → IsKinesisSource region account arn ⊎ IsTableSource region account arn
    → list_all is_unescaped arn ≡ true
arn_plain region account arn hr ha (inl (name, named, is)) =
    subst (λ l. list_all is_unescaped l ≡ true) (sym is) (stream_plain region account name hr ha (all_so is_stream_byte stream_one name (word_so is_stream_byte 1 128 name named)))
arn_plain region account arn hr ha (inr (name, label, named, labelled, is)) =
    subst (λ l. list_all is_unescaped l ≡ true) (sym is)
    (table_plain region account name label hr ha (all_so is_stream_byte stream_one name (word_so is_stream_byte 3 255 name named)) (all_so is_label_byte label_one label (word_so is_label_byte 1 64 label labelled)))

plain_config : (c : Config) → IsStreamConfig c → IsPlainConfig c
plain_config c stream =
    let region = all_so is_region_byte region_one c.region (word_so is_region_byte 1 32 c.region stream.valid.region) in
    let account = digits_unescaped c.account (word_so is_ascii_digit 12 12 c.account stream.valid.account) in
    let source = subst (λ (k : Kind). IsSource k c.region c.account c.source_arn) stream.kind stream.valid.source in
    record { account = account; region = region; arn = arn_plain c.region c.account c.source_arn region account source }

-- what is known of the change
told_of : (s : Source) (r : Record) (of : IsOfChange s r) → IsTold of.change
told_of s r of = let by = told_by of.line of.change of.told in change_told by.value of.change by.told

arrival_within : (s : Source) (r : Record) → IsOfChange s r → r.arrival ≤ 253402300799999
arrival_within s r of =
    let told = told_of s r of in
    let same : r.arrival ≡ of.change.arrival = ap (λ (x : Record). x.arrival) of.is in
    omega (arith, same, told.arrival)

data_bytes : (s : Source) (r : Record) → IsOfBytes s → IsOfChange s r → list_all is_byte r.payload ≡ true
data_bytes s r bytes of =
    let told = told_of s r of in
    ap (λ (x : Record). list_all is_byte x.payload) of.is ∙ element_bytes s of.line of.change bytes (told_by of.line of.change of.told) told.arrival

record_plain : (c : Config) (s : Source) (r : Record) → IsPlainConfig c → IsOfBytes s → IsOfChange s r → AreUnescaped (texts_of c r)
record_plain c s r plain bytes of =
    let told = told_of s r of in
    let arrival = arrival_within s r of in
    let seq : list_all is_unescaped r.seq ≡ true = ap (λ (x : Record). list_all is_unescaped x.seq) of.is ∙ digits_unescaped of.change.item.seq (seq_digits of.change.item.seq told.seq) in
    let key : list_all is_unescaped r.key ≡ true = ap (λ (x : Record). list_all is_unescaped x.key) of.is ∙ (key_hex (value_text of.change.item.keys)).unescaped in
    record {
      key = key;
      seq = seq;
      bytes = base64_unescaped r.payload (data_bytes s r bytes of);
      id = list_all-append is_unescaped (shard_id r.shard ++ codes ":") r.seq ∙ rw (list_all-append is_unescaped (shard_id r.shard) (codes ":"), shard_unescaped r.shard, seq) refl;
      role = list_all-append is_unescaped (codes "arn:aws:iam::" ++ c.account) (codes ":role/esm") ∙ rw (list_all-append is_unescaped (codes "arn:aws:iam::") c.account, plain.account) refl;
      region = plain.region;
      arn = plain.arn;
      moment = seconds_moment r.arrival arrival;
    }

payload_in : (m : List ℕ) → IsBytes m → result_ok (decode_of standard (base64_text m)) ≡ Some m
unfolding base64_text
payload_in m bytes = ap result_ok (decode_of-encode_of standard m refl bytes)

-- ---- the event

abbrev own_of : Config → Record → Own
own_of c r = record { texts = texts_of c r; payload = r.payload }

own : (c : Config) (s : Source) → IsPlainConfig c → IsOfBytes s → (r : Record) → IsOfChange s r → IsOwn (own_of c r)
own c s plain bytes r of = record { plain = record_plain c s r plain bytes of; data_is = payload_in r.payload (are_bytes r.payload (data_bytes s r bytes of)) }

all_own : (c : Config) (s : Source) → IsPlainConfig c → IsOfBytes s → (rs : List Record) → All (IsOfChange s) rs → All IsOwn (map (own_of c) rs)
all_own c s plain bytes [] all = All-nil IsOwn
all_own c s plain bytes (r ∷ rs) all =
    All-cons IsOwn (own_of c r) (map (own_of c) rs) (own c s plain bytes r (All-head (IsOfChange s) r rs all)) (all_own c s plain bytes rs (All-tail (IsOfChange s) r rs all))

others_are : (c : Config) (s : Source) → IsPlainConfig c → IsOfBytes s → (rs : List Record) → All (IsOfChange s) rs → flat_map (λ r. codes "," ++ record_text c r) rs ≡ other_texts (map (own_of c) rs)
others_are c s plain bytes [] all = refl
others_are c s plain bytes (r ∷ rs) all =
    let first = record_is c r (record_plain c s r plain bytes (All-head (IsOfChange s) r rs all)).key in
    ap₂ (λ (a b : List ℕ). (codes "," ++ a) ++ b) first (others_are c s plain bytes rs (All-tail (IsOfChange s) r rs all))

list_is : (c : Config) (s : Source) → IsPlainConfig c → IsOfBytes s → (rs : List Record) → All (IsOfChange s) rs → join_by (record_text c) (codes ",") rs ≡ join_by text_of (codes ",") (map (own_of c) rs)
list_is c s plain bytes [] all = refl
list_is c s plain bytes (r ∷ rs) all =
    let first = record_is c r (record_plain c s r plain bytes (All-head (IsOfChange s) r rs all)).key in
    ap₂ (λ (a b : List ℕ). a ++ b) first (others_are c s plain bytes rs (All-tail (IsOfChange s) r rs all))

text_is : (c : Config) (s : Source) → IsPlainConfig c → IsOfBytes s → (rs : List Record) → All (IsOfChange s) rs → event_text c rs None ≡ own_text (map (own_of c) rs)
unfolding event_text
text_is c s plain bytes rs all = ap (λ l. head_text ++ l ++ codes "]" ++ [] ++ codes "}") (list_is c s plain bytes rs all) ∙ regrouped head_text (join_by text_of (codes ",") (map (own_of c) rs))
  where
    regrouped : (a b : List ℕ) → a ++ b ++ codes "]" ++ [] ++ codes "}" ≡ a ++ (b ++ codes "]}")
    regrouped a b = simp append_assoc

other_elements : (c : Config) (rs : List Record) → other_payloads (map (own_of c) rs) ≡ flat_map (λ (r : Record). codes "," ++ r.payload) rs
other_elements c [] = refl
other_elements c (r ∷ rs) = ap (λ l. (codes "," ++ r.payload) ++ l) (other_elements c rs)

joined_data : (c : Config) (rs : List Record) → join_by data_of (codes ",") (map (own_of c) rs) ≡ join_by (λ (r : Record). r.payload) (codes ",") rs
joined_data c [] = refl
joined_data c (r ∷ rs) = ap (λ l. r.payload ++ l) (other_elements c rs)

byte_one : (b : ℕ) → is_unescaped b ≡ true → is_byte b ≡ true
byte_one b h = grind (arith, nat_tests)

unescaped_bytes : (bs : List ℕ) → list_all is_unescaped bs ≡ true → list_all is_byte bs ≡ true
unescaped_bytes [] h = refl
unescaped_bytes (b ∷ bs) h =
    let q = and_parts (is_unescaped b) (list_all is_unescaped bs) h in
    rw (byte_one b q.0, unescaped_bytes bs q.1) refl

source_bytes : (c : Config) → IsPlainConfig c → IsOfBytes (source_of c)
source_bytes c plain = record { region = unescaped_bytes c.region plain.region; arn = unescaped_bytes c.source_arn plain.arn }

pub source_of_bytes : HasSourceOfBytes
source_of_bytes c stream = source_bytes c (plain_config c stream)

-- ---- its window

padded : (width n : ℕ) → list_all is_unescaped (padded_decimal width n) ≡ true
padded width n = digits_unescaped (last_digits 10 width n) (digits_all width n)

dashed : (a b d : List ℕ) → list_all is_unescaped a ≡ true → list_all is_unescaped b ≡ true → list_all is_unescaped d ≡ true → list_all is_unescaped (a ++ codes "-" ++ b ++ codes "-" ++ d) ≡ true
dashed a b d ha hb hd = simp (list_all-append, ha, hb, hd)

timed : (a b d : List ℕ) → list_all is_unescaped a ≡ true → list_all is_unescaped b ≡ true → list_all is_unescaped d ≡ true → list_all is_unescaped (a ++ codes ":" ++ b ++ codes ":" ++ d) ≡ true
timed a b d ha hb hd = simp (list_all-append, ha, hb, hd)

dated : (d t : List ℕ) → list_all is_unescaped d ≡ true → list_all is_unescaped t ≡ true → list_all is_unescaped ((d ++ codes "T" ++ t) ++ codes "Z") ≡ true
dated d t hd ht = simp (list_all-append, hd, ht)

date_plain : (y days : ℕ) → list_all is_unescaped (date_in_year y days) ≡ true
date_plain y days =
    let month = month_of y days in
    let day = days - days_of_months y (month - 1) + 1 in
    dashed (padded_decimal 4 y) (padded_decimal 2 month) (padded_decimal 2 day) (padded 4 y) (padded 2 month) (padded 2 day)

day_plain : (day : ℕ) → list_all is_unescaped (day_text day) ≡ true
unfolding day_text
day_plain day = date_plain (year_of day) (day - new_year (year_of day))

clock_plain : (s : ℕ) → list_all is_unescaped (clock_text s) ≡ true
clock_plain s = timed (padded_decimal 2 (s / 3600 % 24)) (padded_decimal 2 (s / 60 % 60)) (padded_decimal 2 (s % 60)) (padded 2 (s / 3600 % 24)) (padded 2 (s / 60 % 60)) (padded 2 (s % 60))

second_plain : (ms : ℕ) → list_all is_unescaped (second_text ms) ≡ true
unfolding second_text
second_plain ms = dated (day_text (ms / 86400000)) (clock_text (ms / 1000)) (day_plain (ms / 86400000)) (clock_plain (ms / 1000))

abbrev window_of : Config → WindowCall → Window
window_of c w = record {
  start = second_text w.state.window;
  end = second_text (moment_after w.state.window c.tumbling_ms);
  shard = shard_id w.shard;
  arn = c.source_arn;
  closing = w.closing;
}

window_plain : (c : Config) (w : WindowCall) → IsPlainConfig c → IsPlainWindow (window_of c w)
window_plain c w plain = record {
  start = second_plain w.state.window;
  end = second_plain (moment_after w.state.window c.tumbling_ms);
  shard = shard_unescaped w.shard;
  arn = plain.arn;
}

regrouped_window : (a s b e d t f h g n i x k z : List ℕ)
    → ((a ++ s ++ b ++ e ++ (d ++ 58 ∷ []) ++ t) ++ (f ++ h ++ g ++ n ++ i ++ x ++ k)) ++ z
    ≡ (a ++ s ++ b ++ e ++ d) ++ 58 ∷ (t ++ (f ++ h ++ g ++ n ++ i ++ x ++ (k ++ z)))
regrouped_window a s b e d t f h g n i x k z = simp append_assoc

-- what stands behind `Records`
window_is : (c : Config) (w : WindowCall) → window_part c (Some w) ++ codes "}" ≡ open_part (window_of c w) ++ 58 ∷ (state_text w.state.text ++ close_part (window_of c w))
window_is c w =
    regrouped_window (codes ",\"window\":{\"start\":\"") (second_text w.state.window) (codes "\",\"end\":\"") (second_text (moment_after w.state.window c.tumbling_ms)) (codes "\"},\"state\"")
    (state_text w.state.text) (codes ",\"shardId\":\"") (shard_id w.shard) (codes "\",\"eventSourceARN\":\"") c.source_arn (codes "\",\"isFinalInvokeForWindow\":") (truth_text w.closing)
    (codes ",\"isWindowTerminatedEarly\":false") (codes "}")

in_parts : (h l m w z : List ℕ) → h ++ l ++ m ++ w ++ z ≡ h ++ (l ++ (m ++ (w ++ z)))
in_parts h l m w z = simp append_assoc

windowed_is : (c : Config) (s : Source) → IsPlainConfig c → IsOfBytes s → (rs : List Record) (w : WindowCall) → All (IsOfChange s) rs
    → event_text c rs (Some w) ≡ window_text (map (own_of c) rs) (window_of c w) (state_text w.state.text)
unfolding event_text
windowed_is c s plain bytes rs w all =
    ap (λ l. head_text ++ l ++ codes "]" ++ window_part c (Some w) ++ codes "}") (list_is c s plain bytes rs all)
    ∙ in_parts head_text (join_by text_of (codes ",") (map (own_of c) rs)) (codes "]") (window_part c (Some w)) (codes "}")
    ∙ ap (λ l. head_text ++ (join_by text_of (codes ",") (map (own_of c) rs) ++ 93 ∷ l)) (window_is c w)

windowed_elements : (c : Config) (rs : List Record) (w : WindowCall)
    → head_text ++ (join_by data_of (codes ",") (map (own_of c) rs) ++ end_text (window_of c w) (state_text w.state.text)) ≡ elements_event c rs (Some w)
windowed_elements c rs w =
    ap (λ l. head_text ++ (l ++ end_text (window_of c w) (state_text w.state.text))) (joined_data c rs)
    ∙ ap (λ l. head_text ++ (join_by (λ (r : Record). r.payload) (codes ",") rs ++ 93 ∷ l)) (sym (window_is c w))
    ∙ sym (in_parts head_text (join_by (λ (r : Record). r.payload) (codes ",") rs) (codes "]") (window_part c (Some w)) (codes "}"))

pub has_elements : HasItsElements
has_elements c rs None stream all state =
    let plain = plain_config c stream in
    let s = source_of c in
    let bytes = source_bytes c plain in
    ap ddb_event (text_is c s plain bytes rs all) ∙ becomes_elements (map (own_of c) rs) (all_own c s plain bytes rs all) ∙ ap (λ l. head_text ++ (l ++ codes "]}")) (joined_data c rs)
    ∙ sym (in_parts head_text (join_by (λ (r : Record). r.payload) (codes ",") rs) (codes "]") (window_part c None) (codes "}"))
has_elements c rs (Some w) stream all state =
    let plain = plain_config c stream in
    let s = source_of c in
    let bytes = source_bytes c plain in
    ap ddb_event (windowed_is c s plain bytes rs w all)
    ∙ becomes_windowed (map (own_of c) rs) (window_of c w) (state_text w.state.text) (all_own c s plain bytes rs all) (window_plain c w plain) state
    ∙ windowed_elements c rs w

-- ---- the first state

empty_printed : print (json_tokens (object no_members)) ≡ codes "{}"
unfolding print_from
empty_printed = refl

pub first_state : HasFirstState
first_state =
    let j : Json = object no_members in
    let are : tokens (codes "{}") ≡ json_tokens j ++ [] = ap tokens (sym empty_printed) ∙ tokens-print (json_tokens j) (ArePrintable-json_tokens j tt) in
    record {
      utf8 = plain_utf8 (codes "{}") refl;
      members = no_members;
      reads = ap (value 126) are ∙ value-json_tokens j 126 [] (lit≤ tt);
      in_range = refl;
    }

-- ---- its length

base64_longer : (m : List ℕ) → length m ≤ length (base64_text m)
base64_longer m = omega (arith, base64_length m)

inner : (a k b s d m e t f i u : List ℕ) → length m ≤ length ((a ++ k ++ b ++ s ++ d ++ m ++ e ++ t ++ f) ++ i ++ u)
inner a k b s d m e t f i u = simp length-append (omega arith)

both_within : (a b d : ℕ) → a ≤ b → b ≤ d → a ≤ d
both_within a b d h k = omega arith

record_longer : (c : Config) (r : Record) → length r.payload ≤ length (record_text c r)
unfolding record_text
record_longer c r =
    both_within (length r.payload) (length (base64_text r.payload)) (length (record_text c r)) (base64_longer r.payload)
    (inner (codes "{\"kinesis\":{\"kinesisSchemaVersion\":\"1.0\",\"partitionKey\":") (quoted r.key) (codes ",\"sequenceNumber\":\"") r.seq (codes "\",\"data\":\"") (base64_text r.payload)
    (codes "\",\"approximateArrivalTimestamp\":") (seconds_text r.arrival) (codes "}") (identity_part r) (source_part c))

others_longer : (c : Config) (rs : List Record) → length (flat_map (λ (r : Record). codes "," ++ r.payload) rs) ≤ length (flat_map (λ r. codes "," ++ record_text c r) rs)
others_longer c [] = lit≤ tt
others_longer c (r ∷ rs) =
    let one = record_longer c r in
    let more = others_longer c rs in
    omega (
      arith,
      length-append (codes "," ++ r.payload) (flat_map (λ (x : Record). codes "," ++ x.payload) rs),
      length-append (codes "," ++ record_text c r) (flat_map (λ x. codes "," ++ record_text c x) rs),
      length-append (codes ",") r.payload,
      length-append (codes ",") (record_text c r),
    )

list_longer : (c : Config) (rs : List Record) → length (join_by (λ (r : Record). r.payload) (codes ",") rs) ≤ length (join_by (record_text c) (codes ",") rs)
list_longer c [] = lit≤ tt
list_longer c (r ∷ rs) =
    let one = record_longer c r in
    let more = others_longer c rs in
    omega (
      arith,
      length-append r.payload (flat_map (λ (x : Record). codes "," ++ x.payload) rs),
      length-append (record_text c r) (flat_map (λ x. codes "," ++ record_text c x) rs),
    )

around : (h a b d w z : List ℕ) → length a ≤ length b → length (h ++ a ++ d ++ w ++ z) ≤ length (h ++ b ++ d ++ w ++ z)
around h a b d w z within = simp length-append (omega arith)

event_parts : (c : Config) (rs : List Record) (w : Option WindowCall)
    → event_text c rs w ≡ head_text ++ join_by (record_text c) (codes ",") rs ++ codes "]" ++ window_part c w ++ codes "}"
unfolding event_text
event_parts c rs w = refl

pub no_longer : IsNoLonger
no_longer c rs w stream all state =
    let within = around head_text (join_by (λ (r : Record). r.payload) (codes ",") rs) (join_by (record_text c) (codes ",") rs) (codes "]") (window_part c w) (codes "}") (list_longer c rs) in
    subst (λ (n : ℕ). n ≤ length (event_text c rs w)) (sym (ap length (has_elements c rs w stream all state)))
    (subst (λ (l : List ℕ). length (elements_event c rs w) ≤ length l) (sym (event_parts c rs w)) within)
