-- The texts that a payload keeps are ASCII and short.
use Rattle.std.proofs.Common.{◌≡◌, ℕ, zero, suc, ◌<◌, ◌≤◌, ◌&&◌, ◌||◌, eqb, leb, not, Bool, true, List, [], ◌∷◌, length, get_or, slice_index, arith, inl, inr}
use Rattle.std.specs.List.{list_all}
use Rattle.std.specs.Char.{is_ascii_digit}
use Rattle.std.specs.Str.{IsUtf8}
use Rattle.std.proofs.lemmas.Bool.{and_parts, or_cases, leb-true, eqb-true, lt-ltb, and_from}
use Rattle.std.proofs.lemmas.List.{get_or_past}
use Rattle.std.proofs.lemmas.Str.{IsUtf8-from_ascii}
use Rattle.esm_model.specs.Sequence.{is_sequence}
use Rattle.esm_model.specs.Valid.{is_letter, is_lower, is_name_byte, is_between}
use Rattle.esm_journal_record.specs.Payload.{is_message_id, is_short}
use Rattle.esm_journal_record.specs.Words.{test_of}
use Rattle.esm_journal_record.specs.declared.word.Word.{Word}
use Rattle.esm_journal_record.specs.declared.word.Word.TheVariants.{Sequence, MessageId}

low_all : (p : ℕ → Bool) → ((b : ℕ) → p b ≡ true → b < 128) → (bs : List ℕ) → list_all p bs ≡ true → (i : ℕ) → get_or bs i 0 < 128
low_all p low [] all i = omega (arith, get_or_past {X = ℕ} [] i 0 (omega arith))
low_all p low (b ∷ bs) all zero = low b (and_parts (p b) (list_all p bs) all).0
low_all p low (b ∷ bs) all (suc i) = low_all p low bs (and_parts (p b) (list_all p bs) all).1 i

between_high : (low high b : ℕ) → is_between low high b ≡ true → b ≤ high
between_high low high b e = leb-true b high (and_parts (leb low b) (leb b high) e).1

digit_low : (b : ℕ) → is_ascii_digit b ≡ true → b < 128
digit_low b e = omega (arith, leb-true b 57 (and_parts (leb 48 b) (leb b 57) e).1)

letter_low : (b : ℕ) → is_letter b ≡ true → b < 128
letter_low b e =
    elim (or_cases (is_between 65 90 b) (is_lower b) e) [
      | inl upper ↦ omega (arith, between_high 65 90 b upper)
      | inr lower ↦ omega (arith, between_high 97 122 b lower)
    ]

name_byte_low : (b : ℕ) → is_name_byte b ≡ true → b < 128
name_byte_low b e =
    elim (or_cases ((is_letter b || is_ascii_digit b) || eqb b 45) (eqb b 95) e) [
      | inl most ↦ (elim (or_cases (is_letter b || is_ascii_digit b) (eqb b 45) most) [
        | inl more ↦ (elim (or_cases (is_letter b) (is_ascii_digit b) more) [ inl letter ↦ letter_low b letter | inr digit ↦ digit_low b digit ])
        | inr dash ↦ omega (arith, eqb-true b 45 dash)
      ])
      | inr line ↦ omega (arith, eqb-true b 95 line)
    ]

abbrev leads : List ℕ → Bool
leads text = eqb (length text) 1 || not (eqb (slice_index text 0) 48)

sequence_parts : (text : List ℕ) → is_sequence text ≡ true → (leb (length text) 129 ≡ true) × (list_all is_ascii_digit text ≡ true)
sequence_parts text e =
    let a = and_parts ((not (eqb (length text) 0) && leb (length text) 129) && list_all is_ascii_digit text) (leads text) e in
    let b = and_parts (not (eqb (length text) 0) && leb (length text) 129) (list_all is_ascii_digit text) a.0 in
    let c = and_parts (not (eqb (length text) 0)) (leb (length text) 129) b.0 in
    (c.1, b.1)

id_parts : (text : List ℕ) → is_message_id text ≡ true → (is_between 1 100 (length text) ≡ true) × (list_all is_name_byte text ≡ true)
id_parts text e = and_parts (is_between 1 100 (length text)) (list_all is_name_byte text) e

pub word_utf8 : (word : Word) (text : List ℕ) → test_of word text ≡ true → IsUtf8 text
word_utf8 Sequence text e = IsUtf8-from_ascii text (low_all is_ascii_digit digit_low text (sequence_parts text e).1)
word_utf8 MessageId text e = IsUtf8-from_ascii text (low_all is_name_byte name_byte_low text (id_parts text e).1)

pub sequence_short : (text : List ℕ) → is_sequence text ≡ true → length text < 256
sequence_short text e = omega (arith, leb-true (length text) 129 (sequence_parts text e).0)

pub id_short : (text : List ℕ) → is_message_id text ≡ true → length text < 256
id_short text e = omega (arith, between_high 1 100 (length text) (id_parts text e).0)

-- texts of a kind that is short are short
pub all_short : (is_text : List ℕ → Bool) → ((text : List ℕ) → is_text text ≡ true → length text < 256) → (texts : List (List ℕ)) → list_all is_text texts ≡ true → list_all is_short texts ≡ true
all_short is_text short [] all = all
all_short is_text short (text ∷ texts) all =
    let parts = and_parts (is_text text) (list_all is_text texts) all in
    and_from (is_short text) (list_all is_short texts) (lt-ltb (length text) 256 (short text parts.0)) (all_short is_text short texts parts.1)
