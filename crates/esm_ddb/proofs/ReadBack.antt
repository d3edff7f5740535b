-- A line that is turned reads back as its record.
use Rattle.std.proofs.Common.{◌≡◌, ◌∙◌, ℕ, zero, suc, ◌+◌, ◌*◌, ◌/◌, ◌%◌, ◌^◌, ◌<◌, ◌≤◌, lit<, arith, Bool, true, false, cond, ◌&&◌, ◌||◌, ◌==◌, nat_le, nat_lt, not, refl, sym, ap, List, [], ◌∷◌, ◌++◌, append_assoc, length, length-append, replicate, codes, Some}
use Rattle.std.specs.Prelude.{filter, slice_index, Ok}
use Rattle.std.specs.Char.{digit_value, is_ascii_digit}
use Rattle.std.specs.Fmt.{decimal, digit_glyph}
use Rattle.std.specs.List.{flat_map, list_all}
use Rattle.std.specs.Option.{ok_or}
use Rattle.std.specs.Str.{is_utf8}
use Rattle.std.specs.Str.Parse.{digits_value}
use Rattle.std.proofs.lemmas.Bool.{and_parts}
use Rattle.std.proofs.lemmas.Bool.Decides.{nat_tests}
use Rattle.std.proofs.lemmas.Fmt.{decimal_by_steps}
use Rattle.std.proofs.lemmas.Int.Digits.{digits_value_push}
use Rattle.std.proofs.lemmas.List.Folds.{list_all-append}
use Rattle.std.proofs.lemmas.List.Sums.{AllPass-from_list_all}
use Rattle.std.proofs.lemmas.Str.{is_utf8-from_IsUtf8}
use Rattle.base64.specs.Engines.{standard}
use Rattle.base64.specs.GeneralPurpose.{IsBytes, engine_symbols}
use Rattle.base64.specs.Rfc4648.{encode_symbols, padding_len}
use Rattle.base64.proofs.EngineFacts.{decode_of-encode_of}
use Rattle.md5.specs.Md5.{md5}
use Rattle.md5.proofs.StandardFacts.{length-md5}
use Rattle.json.specs.Print.{escape, escape_byte}
use Rattle.json.proofs.Printed.Strings.{escape_byte_plain}
use Rattle.json.proofs.Printed.Utf8.{are_ascii, IsUtf8-are_ascii}
use Rattle.serde_json.specs.Data.{Members, member, no_members, number, object, string, unsigned}
use Rattle.serde_json.specs.Read.{read}
use Rattle.serde_json.specs.Written.{compact_text}
use Rattle.esm_config.proofs.ReadBack.{put_all, get_last, reads_object, sound_string, sound_whole}
use Rattle.esm_model.specs.EventText.{base64_text, shard_id}
use Rattle.esm_model.specs.Numbers.{last_digits}
use Rattle.esm_model.specs.QueueEvent.{hexadecimal}
use Rattle.esm_model.specs.Sequence.{is_sequence}
use Rattle.esm_model.specs.Valid.{begins_char, is_between}
use Rattle.esm_model.specs.Records.{Record}
use Rattle.esm_model.proofs.NumberLemmas.{length-last_digits}
use Rattle.esm_record.proofs.Digits.{a_digit}
use Rattle.esm_record.specs.Line.{object_of, record_of, line_of, field_of, judged, of_text, shard_number, sequence_number, partition_key, payload, moment, only_if}
use Rattle.esm_record.specs.declared.error.Field.TheVariants as field
use Rattle.esm_record.specs.declared.error.LineError.TheVariants.{BadField}
use Rattle.esm_ddb.specs.OwnForm.{is_plain, is_unescaped}
use Rattle.esm_ddb.specs.ReadsBack.{is_byte}
use Rattle.esm_ddb.specs.Turned.{record_line}

-- ---- characters that need no escape

escape_one : (x : ℕ) → is_unescaped x ≡ true → escape_byte x ≡ x ∷ []
escape_one x h = escape_byte_plain x (grind (arith, nat_tests)) (grind (arith, nat_tests)) (grind (arith, nat_tests))

pub escape_unescaped : (ds : List ℕ) → list_all is_unescaped ds ≡ true → escape ds ≡ ds
escape_unescaped [] h = refl
escape_unescaped (x ∷ xs) h =
    let p = and_parts (is_unescaped x) (list_all is_unescaped xs) h in
    rw (escape_one x p.0, escape_unescaped xs p.1) refl

plain_one : (x : ℕ) → is_unescaped x ≡ true → is_plain x ≡ true
plain_one x h = grind (arith, nat_tests)

pub plain_unescaped : (ds : List ℕ) → list_all is_unescaped ds ≡ true → list_all is_plain ds ≡ true
plain_unescaped [] h = refl
plain_unescaped (x ∷ xs) h =
    let p = and_parts (is_unescaped x) (list_all is_unescaped xs) h in
    rw (plain_one x p.0, plain_unescaped xs p.1) refl

digit_one : (x : ℕ) → is_ascii_digit x ≡ true → is_unescaped x ≡ true
digit_one x h = grind (arith, nat_tests)

pub digits_unescaped : (ds : List ℕ) → list_all is_ascii_digit ds ≡ true → list_all is_unescaped ds ≡ true
digits_unescaped [] h = refl
digits_unescaped (x ∷ xs) h =
    let p = and_parts (is_ascii_digit x) (list_all is_ascii_digit xs) h in
    rw (digit_one x p.0, digits_unescaped xs p.1) refl

-- a character of the texts of a line, which needs no escape and is no closing brace
abbrev pub is_bare : ℕ → Bool
is_bare x = is_unescaped x && not (x == 125)

pub bare_unescaped : (ds : List ℕ) → list_all is_bare ds ≡ true → list_all is_unescaped ds ≡ true
bare_unescaped [] h = refl
bare_unescaped (x ∷ xs) h =
    let p = and_parts (is_bare x) (list_all is_bare xs) h in
    let one : is_unescaped x ≡ true = (and_parts (is_unescaped x) (not (x == 125)) p.0).0 in
    rw (one, bare_unescaped xs p.1) refl

digit_bare : (x : ℕ) → is_ascii_digit x ≡ true → is_bare x ≡ true
digit_bare x h = grind (arith, nat_tests)

pub digits_bare : (ds : List ℕ) → list_all is_ascii_digit ds ≡ true → list_all is_bare ds ≡ true
digits_bare [] h = refl
digits_bare (x ∷ xs) h =
    let p = and_parts (is_ascii_digit x) (list_all is_ascii_digit xs) h in
    rw (digit_bare x p.0, digits_bare xs p.1) refl

begins_one : (x : ℕ) → is_unescaped x ≡ true → begins_char x ≡ true
begins_one x h = grind (arith, nat_tests)

all_begin : (ds : List ℕ) → list_all is_unescaped ds ≡ true → filter begins_char ds ≡ ds
all_begin [] h = refl
all_begin (x ∷ xs) h =
    let p = and_parts (is_unescaped x) (list_all is_unescaped xs) h in
    rw (begins_one x p.0, all_begin xs p.1) refl

-- ---- base64

abbrev symbols : List ℕ
symbols = engine_symbols standard

symbol : (i : ℕ) → i < 64 → is_bare (slice_index symbols i) ≡ true
symbol i h = AllPass-from_list_all is_bare symbols refl i 0 h

byte_below : (x : ℕ) → is_byte x ≡ true → x < 256
byte_below x h = grind (arith, nat_tests)

two : (a b : ℕ) → is_bare a ≡ true → is_bare b ≡ true → list_all is_bare (a ∷ b ∷ []) ≡ true
two a b ha hb = rw (ha, hb) refl

three : (a b c : ℕ) → is_bare a ≡ true → is_bare b ≡ true → is_bare c ≡ true → list_all is_bare (a ∷ b ∷ c ∷ []) ≡ true
three a b c ha hb hc = rw (ha, hb, hc) refl

four : (a b c d : ℕ) (rest : List ℕ) → is_bare a ≡ true → is_bare b ≡ true → is_bare c ≡ true → is_bare d ≡ true → list_all is_bare rest ≡ true
    → list_all is_bare (a ∷ b ∷ c ∷ d ∷ rest) ≡ true
four a b c d rest ha hb hc hd hr = rw (ha, hb, hc, hd, hr) refl

first_two : (a b : ℕ) (rest : List ℕ) → list_all is_byte (a ∷ b ∷ rest) ≡ true → (a < 256) × (b < 256) × (list_all is_byte rest ≡ true)
first_two a b rest h =
    let p = and_parts (is_byte a) (list_all is_byte (b ∷ rest)) h in
    let q = and_parts (is_byte b) (list_all is_byte rest) p.1 in
    (byte_below a p.0, byte_below b q.0, q.1)

symbols_bare : (m : List ℕ) → list_all is_byte m ≡ true → list_all is_bare (encode_symbols symbols m) ≡ true
unfolding encode_symbols
symbols_bare [] h = refl
symbols_bare (a ∷ []) h =
    let p = and_parts (is_byte a) true h in
    let ha = byte_below a p.0 in
    two (slice_index symbols (a / 4)) (slice_index symbols (a % 4 * 16)) (symbol (a / 4) (omega arith)) (symbol (a % 4 * 16) (omega arith))
symbols_bare (a ∷ b ∷ []) h =
    let p = first_two a b [] h in
    let ha : a < 256 = p.0 in
    let hb : b < 256 = p.1 in
    three (slice_index symbols (a / 4)) (slice_index symbols (a % 4 * 16 + b / 16)) (slice_index symbols (b % 16 * 4))
    (symbol (a / 4) (omega arith)) (symbol (a % 4 * 16 + b / 16) (omega arith)) (symbol (b % 16 * 4) (omega arith))
symbols_bare (a ∷ b ∷ c ∷ rest) h =
    let p = first_two a b (c ∷ rest) h in
    let q = and_parts (is_byte c) (list_all is_byte rest) p.2 in
    let ha : a < 256 = p.0 in
    let hb : b < 256 = p.1 in
    let hc : c < 256 = byte_below c q.0 in
    four (slice_index symbols (a / 4)) (slice_index symbols (a % 4 * 16 + b / 16)) (slice_index symbols (b % 16 * 4 + c / 64)) (slice_index symbols (c % 64))
    (encode_symbols symbols rest)
    (symbol (a / 4) (omega arith)) (symbol (a % 4 * 16 + b / 16) (omega arith)) (symbol (b % 16 * 4 + c / 64) (omega arith)) (symbol (c % 64) (omega arith))
    (symbols_bare rest q.1)

equals_bare : (n : ℕ) → list_all is_bare (replicate n 61) ≡ true
equals_bare zero = refl
equals_bare (suc n) = equals_bare n

pub base64_bare : (m : List ℕ) → list_all is_byte m ≡ true → list_all is_bare (base64_text m) ≡ true
unfolding base64_text
base64_bare m h =
    list_all-append is_bare (encode_symbols symbols m) (replicate (padding_len (length m)) 61)
    ∙ rw (symbols_bare m h, equals_bare (padding_len (length m))) refl

pub base64_unescaped : (m : List ℕ) → list_all is_byte m ≡ true → list_all is_unescaped (base64_text m) ≡ true
base64_unescaped m h = bare_unescaped (base64_text m) (base64_bare m h)

pub are_bytes : (m : List ℕ) → list_all is_byte m ≡ true → IsBytes m
are_bytes [] h i = lit< tt
are_bytes (x ∷ xs) h zero = byte_below x (and_parts (is_byte x) (list_all is_byte xs) h).0
are_bytes (x ∷ xs) h (suc i) = are_bytes xs (and_parts (is_byte x) (list_all is_byte xs) h).1 i

within_limit : (m : List ℕ) → length m ≤ 1048576 → only_if (nat_le (length m) 1048576) m ≡ Some m
within_limit m h = let yes : nat_le (length m) 1048576 ≡ true = grind (arith, nat_tests) in rw yes refl

payload_reads : (m : List ℕ) → list_all is_byte m ≡ true → length m ≤ 1048576 → payload (base64_text m) ≡ Some m
unfolding base64_text
payload_reads m bytes short = rw (decode_of-encode_of standard m refl (are_bytes m bytes)) (within_limit m short)

-- ---- the shard

-- 10 ^ w
abbrev reach : ℕ → ℕ
reach zero = 1
reach (suc w) = 10 * reach w

digit_below : (n : ℕ) → n < 10 → is_ascii_digit (48 + n) ≡ true
digit_below n h = grind (arith, nat_tests)

glyph_is : (d : ℕ) → d < 10 → digit_glyph false d ≡ 48 + d
glyph_is d h = let below : nat_lt d 10 ≡ true = grind (arith, nat_tests) in rw below refl

glyph_digit : (d : ℕ) → d < 10 → is_ascii_digit (digit_glyph false d) ≡ true
glyph_digit d h = ap is_ascii_digit (glyph_is d h) ∙ digit_below d h

glyph_value : (d : ℕ) → d < 10 → digit_value (digit_glyph false d) ≡ d
glyph_value d h =
    let digit = a_digit (digit_glyph false d) (glyph_digit d h) in
    omega (arith, digit.2, glyph_is d h)

pub digits_all : (w n : ℕ) → list_all is_ascii_digit (last_digits 10 w n) ≡ true
unfolding last_digits
digits_all zero n = refl
digits_all (suc w) n =
    list_all-append is_ascii_digit (last_digits 10 w (n / 10)) (digit_glyph false (n % 10) ∷ [])
    ∙ rw (digits_all w (n / 10), glyph_digit (n % 10) (omega arith)) refl

digits_number : (w n : ℕ) → n < reach w → digits_value 10 (last_digits 10 w n) ≡ n
unfolding last_digits
digits_number zero n h = let none : n ≡ 0 = omega arith in sym none
digits_number (suc w) n h =
    let front = digits_number w (n / 10) (omega arith) in
    let last = glyph_value (n % 10) (omega arith) in
    digits_value_push 10 (last_digits 10 w (n / 10)) (digit_glyph false (n % 10)) ∙ omega (arith, front, last)

shard_by : (ds : List ℕ) (n : ℕ) → length ds ≡ 12 → list_all is_ascii_digit ds ≡ true → digits_value 10 ds ≡ n → shard_number (codes "shardId-" ++ ds) ≡ Some n
shard_by ds n size digits value = rw (size, digits, value) refl

shard_reads : (n : ℕ) → n < 1000000000000 → shard_number (shard_id n) ≡ Some n
shard_reads n h = shard_by (last_digits 10 12 n) n (length-last_digits 10 12 n) (digits_all 12 n) (digits_number 12 n h)

pub shard_bare : (n : ℕ) → list_all is_bare (shard_id n) ≡ true
shard_bare n = digits_bare (last_digits 10 12 n) (digits_all 12 n)

pub shard_unescaped : (n : ℕ) → list_all is_unescaped (shard_id n) ≡ true
shard_unescaped n = bare_unescaped (shard_id n) (shard_bare n)

-- ---- the partition key

letter : (d : ℕ) → 10 ≤ d → d < 16 → is_bare (87 + d) ≡ true
letter d low high = grind (arith, nat_tests)

hex_by : (b : Bool) (d : ℕ) → nat_lt d 10 ≡ b → d < 16 → is_bare (cond b (48 + d) (87 + d)) ≡ true
hex_by true d e h = let low : d < 10 = grind (arith, nat_tests) in digit_bare (48 + d) (digit_below d low)
hex_by false d e h = let high : 10 ≤ d = grind (arith, nat_tests) in letter d high h

hex_glyph : (d : ℕ) → d < 16 → is_bare (digit_glyph false d) ≡ true
hex_glyph d h = hex_by (nat_lt d 10) d refl h

hex_two : (x : ℕ) → list_all is_bare (last_digits 16 2 x) ≡ true
unfolding last_digits
hex_two x = two (digit_glyph false (x / 16 % 16)) (digit_glyph false (x % 16)) (hex_glyph (x / 16 % 16) (omega arith)) (hex_glyph (x % 16) (omega arith))

pub record IsHex (ds : List ℕ) (n : ℕ) : Type 0 where
  pub bare : list_all is_bare ds ≡ true
  pub unescaped : list_all is_unescaped ds ≡ true
  pub size : length ds ≡ n

hex_all : (xs : List ℕ) → IsHex (flat_map (last_digits 16 2) xs) (2 * length xs)
hex_all [] = record { bare = refl; unescaped = refl; size = refl }
hex_all (x ∷ xs) =
    let more = hex_all xs in
    let all : list_all is_bare (flat_map (last_digits 16 2) (x ∷ xs)) ≡ true = list_all-append is_bare (last_digits 16 2 x) (flat_map (last_digits 16 2) xs) ∙ rw (hex_two x, more.bare) refl in
    record {
      bare = all;
      unescaped = bare_unescaped (flat_map (last_digits 16 2) (x ∷ xs)) all;
      size = omega (arith, length-append (last_digits 16 2 x) (flat_map (last_digits 16 2) xs), length-last_digits 16 2 x, more.size);
    }

pub key_hex : (keys : List ℕ) → IsHex (hexadecimal (md5 keys)) 32
unfolding hexadecimal
key_hex keys =
    let all = hex_all (md5 keys) in
    record { bare = all.bare; unescaped = all.unescaped; size = omega (arith, all.size, length-md5 keys) }

key_between : (n : ℕ) → n ≡ 32 → is_between 1 256 n ≡ true
key_between n h = grind (arith, nat_tests)

key_reads : (ds : List ℕ) → IsHex ds 32 → partition_key ds ≡ Some ds
key_reads ds is =
    let same : length (filter begins_char ds) ≡ 32 = ap length (all_begin ds is.unescaped) ∙ is.size in
    rw (key_between (length (filter begins_char ds)) same) refl

-- ---- the line's text

abbrev pub line_of_texts : (s q k d m : List ℕ) → List ℕ
line_of_texts s q k d m =
    codes "{\"shardId\":\"" ++ s ++ codes "\",\"sequenceNumber\":\"" ++ q ++ codes "\",\"partitionKey\":\"" ++ k
    ++ codes "\",\"data\":\"" ++ d ++ codes "\",\"approximateArrivalTimestamp\":" ++ m ++ codes "}"

regrouped : (a s b q c k e d f m g : List ℕ) → (a ++ s ++ b ++ q) ++ (c ++ k ++ e ++ d ++ f ++ m ++ g) ≡ a ++ s ++ b ++ q ++ c ++ k ++ e ++ d ++ f ++ m ++ g
regrouped a s b q c k e d f m g = simp append_assoc

pub line_is : (r : Record) → record_line r ≡ line_of_texts (shard_id r.shard) r.seq r.key (base64_text r.payload) (decimal r.arrival)
unfolding record_line
line_is r =
    regrouped (codes "{\"shardId\":\"") (shard_id r.shard) (codes "\",\"sequenceNumber\":\"") r.seq (codes "\",\"partitionKey\":\"") r.key
    (codes "\",\"data\":\"") (base64_text r.payload) (codes "\",\"approximateArrivalTimestamp\":") (decimal r.arrival) (codes "}")

abbrev members_of : (s q k d : List ℕ) → ℕ → Members
members_of s q k d m =
    member (codes "shardId") (string s)
    (member (codes "sequenceNumber") (string q)
    (member (codes "partitionKey") (string k)
    (member (codes "data") (string d)
    (member (codes "approximateArrivalTimestamp") (number (unsigned m)) no_members))))

-- the quotation mark that ends a text goes with what follows it
joined : (a s x b q c k e d f m g : List ℕ)
    → a ++ ((s ++ x) ++ (b ++ ((q ++ x) ++ (c ++ ((k ++ x) ++ (e ++ ((d ++ x) ++ (f ++ (m ++ g)))))))))
    ≡ a ++ s ++ (x ++ b) ++ q ++ (x ++ c) ++ k ++ (x ++ e) ++ d ++ (x ++ f) ++ m ++ g
joined a s x b q c k e d f m g = simp append_assoc

compact_of : (s q k d : List ℕ) (m : ℕ) → escape s ≡ s → escape q ≡ q → escape k ≡ k → escape d ≡ d
    → compact_text (object (members_of s q k d m)) ≡ line_of_texts s q k d (decimal m)
unfolding escape_byte
compact_of s q k d m es eq ek ed =
    rw (es, eq, ek, ed)
    (joined (codes "{\"shardId\":\"") s (codes "\"") (codes ",\"sequenceNumber\":\"") q (codes ",\"partitionKey\":\"") k
    (codes ",\"data\":\"") d (codes ",\"approximateArrivalTimestamp\":") (decimal m) (codes "}"))

pub decimal_digits : (n : ℕ) → n < 2 ^ 64 → list_all is_ascii_digit (decimal n) ≡ true
decimal_digits n h =
    decimal_by_steps (λ m ds. list_all is_ascii_digit ds ≡ true)
    (λ m low. rw (digit_below m low) refl)
    (λ m ds high before. rw (list_all-append is_ascii_digit ds ((48 + m % 10) ∷ []), before, digit_below (m % 10) (omega arith)) refl)
    n h

-- ---- its characters

plain_texts : (s q k d m : List ℕ) → list_all is_plain s ≡ true → list_all is_plain q ≡ true → list_all is_plain k ≡ true → list_all is_plain d ≡ true → list_all is_plain m ≡ true
    → list_all is_plain (line_of_texts s q k d m) ≡ true
plain_texts s q k d m hs hq hk hd hm = simp (list_all-append, hs, hq, hk, hd, hm)

ascii_one : (x : ℕ) → is_plain x ≡ true → nat_lt x 128 ≡ true
ascii_one x h = grind (arith, nat_tests)

plain_ascii : (xs : List ℕ) → list_all is_plain xs ≡ true → are_ascii xs ≡ true
plain_ascii [] h = refl
plain_ascii (x ∷ xs) h =
    let p = and_parts (is_plain x) (list_all is_plain xs) h in
    rw (ascii_one x p.0, plain_ascii xs p.1) refl

pub plain_utf8 : (xs : List ℕ) → list_all is_plain xs ≡ true → is_utf8 xs ≡ true
plain_utf8 xs h = is_utf8-from_IsUtf8 xs (IsUtf8-are_ascii xs (plain_ascii xs h))

-- ---- its object

object_by : (text : List ℕ) (s q k d : List ℕ) (m : ℕ) → is_utf8 text ≡ true → m < 2 ^ 64 → compact_text (object (members_of s q k d m)) ≡ text
    → object_of text ≡ Some (object (put_all (members_of s q k d m) no_members))
object_by text s q k d m utf8 fits is =
    let reads : read text ≡ Some (object (put_all (members_of s q k d m) no_members)) =
    ap read (sym is) ∙ reads_object (members_of s q k d m) (sound_string _, (sound_string _, (sound_string _, (sound_string _, (sound_whole m fits, tt))))) in
    rw (utf8, reads) refl

-- ---- its fields

-- a record whose texts read as themselves
pub record IsWritten (r : Record) : Type 0 where
  pub shard : r.shard < 1000000000000
  pub seq : is_sequence r.seq ≡ true
  pub key : IsHex r.key 32
  pub bytes : list_all is_byte r.payload ≡ true
  pub short : length r.payload ≤ 1048576
  pub arrival : r.arrival ≤ 253402300799999

only_true : {A : Type 0} (b : Bool) (x : A) → b ≡ true → only_if b x ≡ Some x
only_true b x h = rw h refl

moment_fits : (m : ℕ) → m ≤ 253402300799999 → only_if (nat_le m 253402300799999) m ≡ Some m
moment_fits m h = only_true (nat_le m 253402300799999) m (grind (arith, nat_tests))

pub seq_digits : (q : List ℕ) → is_sequence q ≡ true → list_all is_ascii_digit q ≡ true
seq_digits q h =
    let p = and_parts (not (length q == 0) && nat_le (length q) 129 && list_all is_ascii_digit q) ((length q == 1) || not (slice_index q 0 == 48)) h in
    (and_parts (not (length q == 0) && nat_le (length q) 129) (list_all is_ascii_digit q) p.0).1

shard_field : (s q k d : List ℕ) (m n : ℕ) → shard_number s ≡ Some n → field_of field.ShardId (of_text shard_number) (object (put_all (members_of s q k d m) no_members)) ≡ Ok n
shard_field s q k d m n h =
    ap (judged field.ShardId (of_text shard_number)) (get_last (codes "shardId") (members_of s q k d m) no_members) ∙ ap (λ o. ok_or o (BadField field.ShardId)) h

seq_field : (s q k d : List ℕ) (m : ℕ) → is_sequence q ≡ true → field_of field.SequenceNumber (of_text sequence_number) (object (put_all (members_of s q k d m) no_members)) ≡ Ok q
seq_field s q k d m h =
    ap (judged field.SequenceNumber (of_text sequence_number)) (get_last (codes "sequenceNumber") (members_of s q k d m) no_members)
    ∙ ap (λ o. ok_or o (BadField field.SequenceNumber)) (only_true (is_sequence q) q h)

key_field : (s q k d : List ℕ) (m : ℕ) → IsHex k 32 → field_of field.PartitionKey (of_text partition_key) (object (put_all (members_of s q k d m) no_members)) ≡ Ok k
key_field s q k d m h =
    ap (judged field.PartitionKey (of_text partition_key)) (get_last (codes "partitionKey") (members_of s q k d m) no_members)
    ∙ ap (λ o. ok_or o (BadField field.PartitionKey)) (key_reads k h)

data_field : (s q k d : List ℕ) (m : ℕ) (p : List ℕ) → payload d ≡ Some p → field_of field.Data (of_text payload) (object (put_all (members_of s q k d m) no_members)) ≡ Ok p
data_field s q k d m p h =
    ap (judged field.Data (of_text payload)) (get_last (codes "data") (members_of s q k d m) no_members) ∙ ap (λ o. ok_or o (BadField field.Data)) h

arrival_field : (s q k d : List ℕ) (m : ℕ) → m ≤ 253402300799999 → field_of field.ApproximateArrivalTimestamp moment (object (put_all (members_of s q k d m) no_members)) ≡ Ok m
arrival_field s q k d m h =
    ap (judged field.ApproximateArrivalTimestamp moment) (get_last (codes "approximateArrivalTimestamp") (members_of s q k d m) no_members)
    ∙ ap (λ o. ok_or o (BadField field.ApproximateArrivalTimestamp)) (moment_fits m h)

record_is : (r : Record) → IsWritten r → record_of (object (put_all (members_of (shard_id r.shard) r.seq r.key (base64_text r.payload) r.arrival) no_members)) ≡ Ok r
record_is r w =
    let s = shard_id r.shard in
    let d = base64_text r.payload in
    rw (
      shard_field s r.seq r.key d r.arrival r.shard (shard_reads r.shard w.shard),
      seq_field s r.seq r.key d r.arrival w.seq,
      key_field s r.seq r.key d r.arrival w.key,
      data_field s r.seq r.key d r.arrival r.payload (payload_reads r.payload w.bytes w.short),
      arrival_field s r.seq r.key d r.arrival w.arrival,
    ) refl

pub plain_line : (r : Record) → IsWritten r → list_all is_plain (record_line r) ≡ true
plain_line r w =
    let s = shard_id r.shard in
    let d = base64_text r.payload in
    let um = digits_unescaped (decimal r.arrival) (decimal_digits r.arrival (omega (arith, w.arrival))) in
    ap (list_all is_plain) (line_is r)
    ∙ plain_texts s r.seq r.key d (decimal r.arrival) (plain_unescaped s (shard_unescaped r.shard)) (plain_unescaped r.seq (digits_unescaped r.seq (seq_digits r.seq w.seq)))
    (plain_unescaped r.key w.key.unescaped) (plain_unescaped d (base64_unescaped r.payload w.bytes)) (plain_unescaped (decimal r.arrival) um)

pub line_reads : (r : Record) → IsWritten r → line_of record_of (record_line r) ≡ Ok r
line_reads r w =
    let s = shard_id r.shard in
    let d = base64_text r.payload in
    let fits : r.arrival < 2 ^ 64 = omega (arith, w.arrival) in
    let us = shard_unescaped r.shard in
    let uq = digits_unescaped r.seq (seq_digits r.seq w.seq) in
    let ud = base64_unescaped r.payload w.bytes in
    let um = digits_unescaped (decimal r.arrival) (decimal_digits r.arrival fits) in
    let text = line_of_texts s r.seq r.key d (decimal r.arrival) in
    let plain = plain_texts s r.seq r.key d (decimal r.arrival) (plain_unescaped s us) (plain_unescaped r.seq uq) (plain_unescaped r.key w.key.unescaped) (plain_unescaped d ud) (plain_unescaped (decimal r.arrival) um) in
    let compact = compact_of s r.seq r.key d r.arrival (escape_unescaped s us) (escape_unescaped r.seq uq) (escape_unescaped r.key w.key.unescaped) (escape_unescaped d ud) in
    let read_object = object_by text s r.seq r.key d r.arrival (plain_utf8 text plain) fits compact in
    ap (line_of record_of) (line_is r) ∙ rw read_object (record_is r w)
