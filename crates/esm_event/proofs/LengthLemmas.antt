-- How long the texts and their parts are.
use Rattle.std.proofs.Common.{◌≡◌, ℕ, ◌+◌, ◌*◌, ◌/◌, ◌≤◌, Bool, true, false, List, [], ◌∷◌, ◌++◌, length, filter, refl, arith, length-append, cond, ◌==◌, nat_lt, ◌%◌, Option, Some}
use Rattle.std.specs.List.{flat_map}
use Rattle.std.proofs.lemmas.Bool.Decides.{nat_tests}
use Rattle.std.specs.Char.{encode_utf8}
use Rattle.std.specs.Str.{IsUtf8, encode_utf8_all}
use Rattle.std.proofs.lemmas.List.{length-replicate}
use Rattle.base64.proofs.RoundTrip.{length-encode_symbols}
use Rattle.esm_model.specs.Numbers.{decimal}
use Rattle.esm_model.specs.JsonText.{escaped_byte, truth_text}
use Rattle.esm_model.specs.Valid.{is_between, begins_char, char_count}
use Rattle.esm_model.specs.EventText.{base64_text, record_text, event_text, window_part, state_text}
use Rattle.esm_model.specs.Dates.{second_text, day_text}
use Rattle.esm_model.specs.declared.event.WindowCall.{WindowCall}
use Rattle.esm_model.specs.declared.config.Config.{Config}
use Rattle.esm_model.specs.Records.{Record}
use Rattle.esm_model.proofs.NumberLemmas.{length-last_digits}

pub length-record_text : (c : Config) (r : Record) → length (record_text c r) ≡ 321 + length (flat_map escaped_byte r.key) + 2 * length r.seq + length (base64_text r.payload) + length (decimal (r.arrival / 1000)) + (length c.account + length c.region + length c.source_arn)
unfolding record_text
length-record_text c r = simp (length-append, length-last_digits) (omega arith)

length-second_text : (ms : ℕ) → length (second_text ms) ≡ 20
unfolding second_text day_text
length-second_text ms = simp (length-append, length-last_digits) (omega arith)

pub window_length : (c : Config) (w : WindowCall) → length (window_part c (Some w)) ≡ 191 + length (state_text w.state.text) + length (truth_text w.closing) + length c.source_arn
window_length c w = simp (length-append, length-last_digits, length-second_text) (omega arith)

pub frame_length : (c : Config) (w : Option WindowCall) → length (event_text c [] w) ≡ 14 + length (window_part c w)
unfolding event_text
frame_length c w = simp length-append (omega arith)

pub base64_length : (m : List ℕ) → length (base64_text m) ≡ (length m + 2) / 3 * 4
unfolding base64_text
base64_length m = simp (length-append, length-encode_symbols, length-replicate) (omega arith)

-- of a test that compares with 0

pub is_zero : (n : ℕ) → (n == 0) ≡ true → n ≡ 0
is_zero n h = grind (arith, nat_tests)

pub is_some : (n : ℕ) → (n == 0) ≡ false → n ≡ 0 → ⊥
is_some n h e = grind (arith, nat_tests)

-- at most four bytes to a character

filter-grows : (p : ℕ → Bool) (xs ys : List ℕ) → length (filter p ys) ≤ length (filter p (xs ++ ys))
filter-grows p [] ys = omega arith
filter-grows p (x ∷ xs) ys = let more = filter-grows p xs ys in elim (p x) as (λ b. length (filter p ys) ≤ length (cond b (x ∷ filter p (xs ++ ys)) (filter p (xs ++ ys)))) [ true ↦ omega arith | false ↦ more ]

one_more : (first : ℕ) (others rest : List ℕ) → begins_char first ≡ true → length others ≤ 3 → length rest ≤ 4 * char_count rest → length (first ∷ (others ++ rest)) ≤ 4 * char_count (first ∷ (others ++ rest))
one_more first others rest begins few h = rw begins (omega (arith, length-append others rest, filter-grows begins_char others rest))

begins_high : (n : ℕ) → 192 ≤ n → begins_char n ≡ true
begins_high n h = grind (arith, nat_tests)

abbrev IsShort : List ℕ → List ℕ → Type 0
IsShort bytes rest = length (bytes ++ rest) ≤ 4 * char_count (bytes ++ rest)

chosen : (x : Bool) (a b rest : List ℕ) → (x ≡ true → IsShort a rest) → (x ≡ false → IsShort b rest) → IsShort (cond x a b) rest
chosen true a b rest f g = f refl
chosen false a b rest f g = g refl

encoded : (c : ℕ) (rest : List ℕ) → length rest ≤ 4 * char_count rest → IsShort (encode_utf8 c) rest
unfolding encode_utf8
encoded c rest h =
    chosen (nat_lt c 128) (c ∷ []) _ rest (λ e. one_more c [] rest (rw e refl) (omega arith) h)
    (λ _. chosen (nat_lt c 2048) ((192 + c / 64) ∷ (128 + c % 64) ∷ []) _ rest
    (λ _. one_more (192 + c / 64) ((128 + c % 64) ∷ []) rest (begins_high (192 + c / 64) (omega arith)) (omega arith) h)
    (λ _. chosen (nat_lt c 65536) ((224 + c / 4096) ∷ (128 + c / 64 % 64) ∷ (128 + c % 64) ∷ []) ((240 + c / 262144) ∷ (128 + c / 4096 % 64) ∷ (128 + c / 64 % 64) ∷ (128 + c % 64) ∷ []) rest
    (λ _. one_more (224 + c / 4096) ((128 + c / 64 % 64) ∷ (128 + c % 64) ∷ []) rest (begins_high (224 + c / 4096) (omega arith)) (omega arith) h)
    (λ _. one_more (240 + c / 262144) ((128 + c / 4096 % 64) ∷ (128 + c / 64 % 64) ∷ (128 + c % 64) ∷ []) rest (begins_high (240 + c / 262144) (omega arith)) (omega arith) h)))

all_encoded : (cs : List ℕ) → length (encode_utf8_all cs) ≤ 4 * char_count (encode_utf8_all cs)
all_encoded [] = omega arith
all_encoded (c ∷ cs) = encoded c (encode_utf8_all cs) (all_encoded cs)

at_most : (low high n : ℕ) → is_between low high n ≡ true → n ≤ high
at_most low high n h = grind (arith, nat_tests)

pub key_short : (key : List ℕ) → IsUtf8 key → is_between 1 256 (char_count key) ≡ true → length key ≤ 1024
key_short key utf8 h =
    let long = rw utf8.1.1 at (all_encoded utf8.0) in
    omega (arith, at_most 1 256 (char_count key) h, long)
