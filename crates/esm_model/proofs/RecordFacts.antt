-- Parts of a text that grows, and what a record's text holds.
use Rattle.std.proofs.Common.{◌≡◌, ℕ, zero, suc, ◌-◌, ◌<◌, ◌&&◌, ◌||◌, eqb, leb, not, Bool, true, List, [], ◌∷◌, ◌++◌, length, take, drop, get_or, slice_index, arith, ap, ◌∙◌}
use Rattle.std.specs.List.{list_all}
use Rattle.std.specs.Char.{is_ascii_digit}
use Rattle.std.specs.Str.{IsUtf8}
use Rattle.std.proofs.lemmas.Bool.{and_parts, leb-true}
use Rattle.std.proofs.lemmas.List.{get_or_past, length-drop, length-append, take_all, take-append-le, drop-append-le, drop_all}
use Rattle.std.proofs.lemmas.Str.{IsUtf8-from_ascii}
use Rattle.esm_model.specs.Records.{part_of, IsWithin, IsPart}
use Rattle.esm_model.specs.Sequence.{is_sequence}
use Rattle.esm_model.specs.declared.part.Part.{Part}

-- a part stays what it is when the text grows
pub part_still : (text more : List ℕ) (p : Part) → IsWithin text p → part_of (text ++ more) p ≡ part_of text p
part_still text more p within =
    ap (λ l. take (p.to - p.from) l) (drop-append-le p.from text more (omega (arith, within.0, within.1)))
    ∙ take-append-le (p.to - p.from) (drop p.from text) more (omega (arith, length-drop p.from text, within.0, within.1))

pub is_within_still : (text more : List ℕ) (p : Part) → IsWithin text p → IsWithin (text ++ more) p
is_within_still text more p within = (within.0, omega (arith, length-append text more, within.1))

pub is_part_still : (text more bytes : List ℕ) (p : Part) → IsPart text p bytes → IsPart (text ++ more) p bytes
is_part_still text more bytes p part = record { within = is_within_still text more p part.within; is = part_still text more p part.within ∙ part.is }

-- what is put behind a text is the part from the text's end on
pub is_part_behind : (text bytes : List ℕ) (p : Part) → p.from ≡ length text → p.to ≡ length (text ++ bytes) → IsPart (text ++ bytes) p bytes
is_part_behind text bytes p begins ends =
    record {
      within = (omega (arith, length-append text bytes, begins, ends), omega (arith, ends));
      is = ap (λ n. take (p.to - n) (drop n (text ++ bytes))) begins
          ∙ (ap (λ l. take (p.to - length text) l) (drop-append-le (length text) text bytes (omega arith) ∙ ap (λ l. l ++ bytes) (drop_all (length text) text (omega arith)))
          ∙ take_all (p.to - length text) bytes (omega (arith, length-append text bytes, ends)));
    }

low_all : (text : List ℕ) → list_all is_ascii_digit text ≡ true → (i : ℕ) → get_or text i 0 < 128
low_all [] all i = omega (arith, get_or_past {X = ℕ} [] i 0 (omega arith))
low_all (b ∷ bs) all zero = omega (arith, leb-true b 57 (and_parts (leb 48 b) (leb b 57) (and_parts (is_ascii_digit b) (list_all is_ascii_digit bs) all).0).1)
low_all (b ∷ bs) all (suc i) = low_all bs (and_parts (is_ascii_digit b) (list_all is_ascii_digit bs) all).1 i

abbrev leads : List ℕ → Bool
leads text = eqb (length text) 1 || not (eqb (slice_index text 0) 48)

digits_of : (text : List ℕ) → is_sequence text ≡ true → list_all is_ascii_digit text ≡ true
digits_of text e =
    let a = and_parts ((not (eqb (length text) 0) && leb (length text) 129) && list_all is_ascii_digit text) (leads text) e in
    (and_parts (not (eqb (length text) 0) && leb (length text) 129) (list_all is_ascii_digit text) a.0).1

pub sequence_utf8 : (text : List ℕ) → is_sequence text ≡ true → IsUtf8 text
sequence_utf8 text e = IsUtf8-from_ascii text (low_all text (digits_of text e))
