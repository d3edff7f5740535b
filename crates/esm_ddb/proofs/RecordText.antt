-- The text of a record in a stream's event is the print of an object, and one element of the event.
use Rattle.std.proofs.Common.{◌≡◌, ◌∙◌, ℕ, ◌+◌, ◌-◌, lit<, arith, Bool, true, false, cond, ◌==◌, nat_lt, refl, sym, ap, List, [], ◌∷◌, ◌++◌, append_assoc, codes, length, length-append, get_or, Some, None}
use Rattle.std.specs.List.{flat_map, list_all}
use Rattle.std.specs.Result.{result_ok}
use Rattle.std.proofs.lemmas.Bool.{and_parts}
use Rattle.std.proofs.lemmas.Bool.Decides.{nat_tests}
use Rattle.std.proofs.lemmas.List.{get_or_at}
use Rattle.std.proofs.lemmas.List.Folds.{list_all-append}
use Rattle.base64.specs.Engines.{standard}
use Rattle.base64.specs.GeneralPurpose.{decode_of}
use Rattle.json.specs.Lex.{Class, operator, space, other, class, Mode, between, in_word, in_string}
use Rattle.json.specs.Word.{is_operator, is_space}
use Rattle.json.specs.Json.{Json, number, string, object, no_members, member}
use Rattle.json.specs.Print.{escape_byte, print, print_from}
use Rattle.json.specs.Tree.{json_tokens}
use Rattle.esm_model.specs.EventText.{base64_text, record_text, seconds_text, shard_id}
use Rattle.esm_model.specs.JsonText.{escape_letter, escaped_byte, escaped_with, quoted}
use Rattle.esm_model.specs.State.{size}
use Rattle.esm_model.specs.declared.config.Config.{Config}
use Rattle.esm_model.specs.Records.{Record}
use Rattle.esm_window.specs.Layout.{next, mode_at}
use Rattle.esm_ddb.specs.Event.{payload_of}
use Rattle.esm_ddb.specs.Lexemes.{places_from}
use Rattle.esm_ddb.specs.OwnForm.{AreUnescaped, Texts, is_kept, is_number_byte, is_plain, is_unescaped, part_a, part_b, part_c, part_d, part_e, part_f, part_g, part_h, whole_text}
use Rattle.esm_ddb.proofs.Laid.{mode_append, places_append, printed_count}
use Rattle.esm_ddb.proofs.Moments.{moment_bytes, moment_number}
use Rattle.esm_ddb.proofs.ReadBack.{escape_unescaped, plain_unescaped}
use Rattle.esm_ddb.proofs.Replaced.{IsElement}

-- ---- texts whose characters need no escape

-- they stand in the event as they are
own_one : (x : ℕ) → is_kept x ≡ true → escaped_byte x ≡ x ∷ []
unfolding escaped_byte
own_one x h =
    let a : (x == 34) ≡ false = grind (arith, nat_tests) in
    let b : (x == 92) ≡ false = grind (arith, nat_tests) in
    let c : (x == 8) ≡ false = grind (arith, nat_tests) in
    let d : (x == 12) ≡ false = grind (arith, nat_tests) in
    let e : (x == 10) ≡ false = grind (arith, nat_tests) in
    let f : (x == 13) ≡ false = grind (arith, nat_tests) in
    let g : (x == 9) ≡ false = grind (arith, nat_tests) in
    let i : nat_lt x 32 ≡ false = grind (arith, nat_tests) in
    let none : escape_letter x ≡ None = rw (a, b, c, d, e, f, g) refl in
    let plain : escaped_with None x ≡ x ∷ [] = rw i refl in
    ap (λ o. escaped_with o x) none ∙ plain

pub own_kept : (s : List ℕ) → list_all is_kept s ≡ true → flat_map escaped_byte s ≡ s
own_kept [] h = refl
own_kept (x ∷ xs) h =
    let p = and_parts (is_kept x) (list_all is_kept xs) h in
    rw (own_one x p.0, own_kept xs p.1) refl

-- a text is written by its bytes between quotation marks
pub quoted_kept : (old one two new text : List ℕ) → list_all is_kept text ≡ true → one ≡ old ++ codes "\"" → two ≡ one ++ text → new ≡ two ++ codes "\"" → new ≡ old ++ quoted text
quoted_kept old one two new text kept a b c =
    let q : List ℕ = codes "\"" in
    c ∙ ap (λ (l : List ℕ). l ++ q) (b ∙ ap (λ (l : List ℕ). l ++ text) a) ∙ regrouped old q text ∙ ap (λ (l : List ℕ). old ++ (q ++ l ++ q)) (sym (own_kept text kept))
  where
    regrouped : (a q t : List ℕ) → ((a ++ q) ++ t) ++ q ≡ a ++ ((q ++ t) ++ q)
    regrouped a q t = simp append_assoc

kept_one : (x : ℕ) → is_unescaped x ≡ true → is_kept x ≡ true
kept_one x h = grind (arith, nat_tests)

all_kept : (s : List ℕ) → list_all is_unescaped s ≡ true → list_all is_kept s ≡ true
all_kept [] h = refl
all_kept (x ∷ xs) h =
    let p = and_parts (is_unescaped x) (list_all is_unescaped xs) h in
    rw (kept_one x p.0, all_kept xs p.1) refl

-- within a string they leave the lexer there
string_one : (x : ℕ) → is_unescaped x ≡ true → next in_string (class x) ≡ in_string
string_one x h =
    let a : (x == 34) ≡ false = grind (arith, nat_tests) in
    let b : (x == 92) ≡ false = grind (arith, nat_tests) in
    rw (a, b) (kept (is_operator x) (is_space x))
  where
    kept : (o s : Bool) → next in_string (cond o operator (cond s space other)) ≡ in_string
    kept true s = refl
    kept false true = refl
    kept false false = refl

string_kept : (s : List ℕ) → list_all is_unescaped s ≡ true → mode_at in_string s ≡ in_string
string_kept [] h = refl
string_kept (x ∷ xs) h =
    let p = and_parts (is_unescaped x) (list_all is_unescaped xs) h in
    ap (λ m. mode_at m xs) (string_one x p.0) ∙ string_kept xs p.1

-- ---- the moment, a number

number_one : (x : ℕ) → is_number_byte x ≡ true → class x ≡ other
number_one x h =
    let a : (x == 34) ≡ false = grind (arith, nat_tests) in
    let b : (x == 92) ≡ false = grind (arith, nat_tests) in
    let c : (x == 123) ≡ false = grind (arith, nat_tests) in
    let d : (x == 125) ≡ false = grind (arith, nat_tests) in
    let e : (x == 91) ≡ false = grind (arith, nat_tests) in
    let f : (x == 93) ≡ false = grind (arith, nat_tests) in
    let g : (x == 58) ≡ false = grind (arith, nat_tests) in
    let i : (x == 44) ≡ false = grind (arith, nat_tests) in
    let j : (x == 32) ≡ false = grind (arith, nat_tests) in
    let k : (x == 9) ≡ false = grind (arith, nat_tests) in
    let l : (x == 10) ≡ false = grind (arith, nat_tests) in
    let m : (x == 13) ≡ false = grind (arith, nat_tests) in
    rw (a, b, c, d, e, f, g, i, j, k, l, m) refl

word_kept : (s : List ℕ) → list_all is_number_byte s ≡ true → mode_at in_word s ≡ in_word
word_kept [] h = refl
word_kept (x ∷ xs) h =
    let p = and_parts (is_number_byte x) (list_all is_number_byte xs) h in
    ap (λ (k : Class). mode_at (next in_word k) xs) (number_one x p.0) ∙ word_kept xs p.1

-- a brace follows it
number_kept : (s rest : List ℕ) → list_all is_number_byte s ≡ true → mode_at between (s ++ 125 ∷ rest) ≡ mode_at between rest
number_kept [] rest h = refl
number_kept (x ∷ xs) rest h =
    let p = and_parts (is_number_byte x) (list_all is_number_byte xs) h in
    ap (λ (k : Class). mode_at (next between k) (xs ++ 125 ∷ rest)) (number_one x p.0) ∙ mode_append in_word xs (125 ∷ rest) ∙ ap (λ m. mode_at m (125 ∷ rest)) (word_kept xs p.1)

-- ---- the object

abbrev kinesis_json : Texts → Json
kinesis_json t =
    object (member (codes "kinesisSchemaVersion") (string (codes "1.0")) (member (codes "partitionKey") (string t.key) (member (codes "sequenceNumber") (string t.seq)
    (member (codes "data") (string t.bytes) (member (codes "approximateArrivalTimestamp") (number t.moment) no_members)))))

abbrev pub texts_json : Texts → Json
texts_json t =
    object (member (codes "kinesis") (kinesis_json t) (member (codes "eventSource") (string (codes "aws:kinesis")) (member (codes "eventVersion") (string (codes "1.0"))
    (member (codes "eventID") (string t.id) (member (codes "eventName") (string (codes "aws:kinesis:record")) (member (codes "invokeIdentityArn") (string t.role)
    (member (codes "awsRegion") (string t.region) (member (codes "eventSourceARN") (string t.arn) no_members))))))))

-- the quotation mark that ends a text goes with what follows it
joined : (a k x b q c d e t f i g r h n j u z : List ℕ)
    → a ++ ((k ++ x) ++ (b ++ ((q ++ x) ++ (c ++ ((d ++ x) ++ (e ++ (t ++ (f ++ ((i ++ x) ++ (g ++ ((r ++ x) ++ (h ++ ((n ++ x) ++ (j ++ ((u ++ x) ++ z)))))))))))))))
    ≡ a ++ k ++ (x ++ b) ++ q ++ (x ++ c) ++ d ++ (x ++ e) ++ (t ++ f) ++ i ++ (x ++ g) ++ r ++ (x ++ h) ++ n ++ (x ++ j) ++ u ++ x ++ z
joined a k x b q c d e t f i g r h n j u z = simp append_assoc

pub printed : (t : Texts) → AreUnescaped t → print (json_tokens (texts_json t)) ≡ whole_text t
unfolding print_from escape_byte
printed t h =
    rw (
      escape_unescaped t.key h.key,
      escape_unescaped t.seq h.seq,
      escape_unescaped t.bytes h.bytes,
      escape_unescaped t.id h.id,
      escape_unescaped t.role h.role,
      escape_unescaped t.region h.region,
      escape_unescaped t.arn h.arn,
    )
    (joined part_a t.key (codes "\"") (codes ",\"sequenceNumber\":\"") t.seq (codes ",\"data\":\"") t.bytes (codes ",\"approximateArrivalTimestamp\":") t.moment
    (codes "},\"eventSource\":\"aws:kinesis\",\"eventVersion\":\"1.0\",\"eventID\":\"") t.id (codes ",\"eventName\":\"aws:kinesis:record\",\"invokeIdentityArn\":\"") t.role
    (codes ",\"awsRegion\":\"") t.region (codes ",\"eventSourceARN\":\"") t.arn (codes "}"))

-- ---- its characters

number_plain_one : (x : ℕ) → is_number_byte x ≡ true → is_plain x ≡ true
number_plain_one x h = grind (arith, nat_tests)

number_plain : (s : List ℕ) → list_all is_number_byte s ≡ true → list_all is_plain s ≡ true
number_plain [] h = refl
number_plain (x ∷ xs) h =
    let p = and_parts (is_number_byte x) (list_all is_number_byte xs) h in
    rw (number_plain_one x p.0, number_plain xs p.1) refl

plain_parts : (k q d m i r n u : List ℕ) → list_all is_plain k ≡ true → list_all is_plain q ≡ true → list_all is_plain d ≡ true → list_all is_plain m ≡ true → list_all is_plain i ≡ true
    → list_all is_plain r ≡ true → list_all is_plain n ≡ true → list_all is_plain u ≡ true
    → list_all is_plain (part_a ++ k ++ part_b ++ q ++ part_c ++ d ++ part_d ++ (m ++ 125 ∷ part_e) ++ i ++ part_f ++ r ++ part_g ++ n ++ part_h ++ u ++ codes "\"" ++ codes "}") ≡ true
plain_parts k q d m i r n u hk hq hd hm hi hr hn hu = simp (list_all-append, hk, hq, hd, hm, hi, hr, hn, hu)

pub whole_plain : (t : Texts) → AreUnescaped t → list_all is_plain (whole_text t) ≡ true
whole_plain t h =
    plain_parts t.key t.seq t.bytes t.moment t.id t.role t.region t.arn
    (plain_unescaped t.key h.key) (plain_unescaped t.seq h.seq) (plain_unescaped t.bytes h.bytes) (number_plain t.moment (moment_bytes t.moment h.moment))
    (plain_unescaped t.id h.id) (plain_unescaped t.role h.role) (plain_unescaped t.region h.region) (plain_unescaped t.arn h.arn)

-- ---- its lexemes

then_at : (front more : List ℕ) (m n : Mode) → mode_at between front ≡ m → mode_at m more ≡ n → mode_at between (front ++ more) ≡ n
then_at front more m n before after = mode_append between front more ∙ ap (λ k. mode_at k more) before ∙ after

abbrev before_brace : Texts → List ℕ
before_brace t = part_a ++ t.key ++ part_b ++ t.seq ++ part_c ++ t.bytes ++ part_d ++ (t.moment ++ 125 ∷ part_e) ++ t.id ++ part_f ++ t.role ++ part_g ++ t.region ++ part_h ++ t.arn ++ codes "\""

mode_before : (t : Texts) → AreUnescaped t → mode_at between (before_brace t) ≡ between
mode_before t h =
    let s0 : mode_at between (part_a ++ t.key) ≡ in_string = then_at part_a t.key in_string in_string refl (string_kept t.key h.key) in
    let s1 = then_at (part_a ++ t.key) part_b in_string in_string s0 refl in
    let s2 = then_at (part_a ++ t.key ++ part_b) t.seq in_string in_string s1 (string_kept t.seq h.seq) in
    let s3 = then_at (part_a ++ t.key ++ part_b ++ t.seq) part_c in_string in_string s2 refl in
    let s4 = then_at (part_a ++ t.key ++ part_b ++ t.seq ++ part_c) t.bytes in_string in_string s3 (string_kept t.bytes h.bytes) in
    let s5 = then_at (part_a ++ t.key ++ part_b ++ t.seq ++ part_c ++ t.bytes) part_d in_string between s4 refl in
    let f5 : List ℕ = part_a ++ t.key ++ part_b ++ t.seq ++ part_c ++ t.bytes ++ part_d in
    let s6 = then_at f5 (t.moment ++ 125 ∷ part_e) between in_string s5 (number_kept t.moment part_e (moment_bytes t.moment h.moment)) in
    let f6 : List ℕ = f5 ++ (t.moment ++ 125 ∷ part_e) in
    let s7 = then_at f6 t.id in_string in_string s6 (string_kept t.id h.id) in
    let s8 = then_at (f6 ++ t.id) part_f in_string in_string s7 refl in
    let s9 = then_at (f6 ++ t.id ++ part_f) t.role in_string in_string s8 (string_kept t.role h.role) in
    let s10 = then_at (f6 ++ t.id ++ part_f ++ t.role) part_g in_string in_string s9 refl in
    let s11 = then_at (f6 ++ t.id ++ part_f ++ t.role ++ part_g) t.region in_string in_string s10 (string_kept t.region h.region) in
    let s12 = then_at (f6 ++ t.id ++ part_f ++ t.role ++ part_g ++ t.region) part_h in_string in_string s11 refl in
    let s13 = then_at (f6 ++ t.id ++ part_f ++ t.role ++ part_g ++ t.region ++ part_h) t.arn in_string in_string s12 (string_kept t.arn h.arn) in
    then_at (f6 ++ t.id ++ part_f ++ t.role ++ part_g ++ t.region ++ part_h ++ t.arn) (codes "\"") in_string between s13 refl

last_place : (front : List ℕ) (p n : ℕ) → mode_at between front ≡ between → length (places_from between p (front ++ 125 ∷ [])) ≡ n
    → get_or (places_from between p (front ++ 125 ∷ [])) (n - 1) 0 + 1 ≡ p + length (front ++ 125 ∷ [])
unfolding places_from
last_place front p n mode count =
    let own = places_from between p front in
    let split : places_from between p (front ++ 125 ∷ []) ≡ own ++ (p + length front) ∷ [] =
    places_append between p front (125 ∷ []) ∙ ap (λ m. own ++ places_from m (p + length front) (125 ∷ [])) mode in
    let long : length (own ++ (p + length front) ∷ []) ≡ length own + 1 = length-append own ((p + length front) ∷ []) in
    let index : length own ≡ n - 1 = omega (arith, ap length split, long, count) in
    let found : get_or (places_from between p (front ++ 125 ∷ [])) (n - 1) 0 ≡ p + length front =
    ap (λ l. get_or l (n - 1) 0) split ∙ get_or_at own (p + length front) [] 0 (n - 1) index in
    omega (arith, found, length-append front (125 ∷ []))

first_place : (rest : List ℕ) (p : ℕ) → get_or (places_from between p (123 ∷ rest)) 0 0 ≡ p
unfolding places_from
first_place rest p = refl

data_in : (t : Texts) (payload : List ℕ) → result_ok (decode_of standard t.bytes) ≡ Some payload → payload_of (texts_json t) ≡ Some payload
data_in t payload h = h

pub texts_element : (t : Texts) (payload : List ℕ) → AreUnescaped t → result_ok (decode_of standard t.bytes) ≡ Some payload → IsElement (whole_text t) (texts_json t) payload
texts_element t payload h reads =
    let counted : (p : ℕ) → length (places_from between p (whole_text t)) ≡ size (texts_json t) =
    λ p. ap (λ l. length (places_from between p l)) (sym (printed t h)) ∙ printed_count (texts_json t) p ((tt, (tt, (tt, (tt, (moment_number t.moment h.moment, tt))))), (tt, (tt, (tt, (tt, (tt, (tt, (tt, tt)))))))) in
    let mode = mode_before t h in
    record {
      some = lit< tt;
      count = counted;
      first = λ p. first_place _ p;
      last = λ p. last_place (before_brace t) p (size (texts_json t)) mode (counted p);
      mode = then_at (before_brace t) (codes "}") between between mode refl;
      data_is = data_in t payload reads;
    }

-- ---- the record's

abbrev pub texts_of : Config → Record → Texts
texts_of c r = record {
  key = r.key;
  seq = r.seq;
  bytes = base64_text r.payload;
  moment = seconds_text r.arrival;
  id = shard_id r.shard ++ codes ":" ++ r.seq;
  role = codes "arn:aws:iam::" ++ c.account ++ codes ":role/esm";
  region = c.region;
  arn = c.source_arn;
}

regrouped : (a x k b q c d e t w f s o g p u h i r j n y z : List ℕ)
    → (a ++ (x ++ k ++ x) ++ b ++ q ++ c ++ d ++ e ++ t ++ w) ++ (f ++ s ++ o ++ q) ++ ((g ++ p) ++ u ++ (h ++ i) ++ r ++ j ++ n ++ (y ++ z))
    ≡ (a ++ x) ++ k ++ (x ++ b) ++ q ++ c ++ d ++ e ++ (t ++ (w ++ f)) ++ (s ++ o ++ q) ++ g ++ (p ++ u ++ h) ++ i ++ r ++ j ++ n ++ y ++ z
regrouped a x k b q c d e t w f s o g p u h i r j n y z = simp append_assoc

pub record_is : (c : Config) (r : Record) → list_all is_unescaped r.key ≡ true → record_text c r ≡ whole_text (texts_of c r)
unfolding record_text
record_is c r key =
    rw (own_kept r.key (all_kept r.key key))
    (regrouped (codes "{\"kinesis\":{\"kinesisSchemaVersion\":\"1.0\",\"partitionKey\":") (codes "\"") r.key (codes ",\"sequenceNumber\":\"") r.seq part_c (base64_text r.payload) part_d (seconds_text r.arrival)
    (codes "}") part_e (shard_id r.shard) (codes ":") part_f (codes "arn:aws:iam::") c.account (codes ":role/esm") part_g c.region part_h c.source_arn (codes "\"") (codes "}"))
