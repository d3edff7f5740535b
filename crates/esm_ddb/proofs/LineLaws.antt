-- The law of lines that are turned.
use Rattle.std.proofs.Common.{◌≡◌, ℕ, ◌≤◌, arith, Bool, true, false, cond, refl, sym, ap, ◌∙◌, subst, ◌⊎◌, List, [], ◌++◌, length, Result, Ok, Err}
use Rattle.std.specs.Prelude.{nat_lt}
use Rattle.std.specs.List.{All}
use Rattle.std.proofs.lemmas.Bool.Decides.{nat_tests}
use Rattle.esm_record.specs.Input.{is_blank, is_line_feed}
use Rattle.esm_record.specs.Line.{line_of, record_of}
use Rattle.esm_record.specs.declared.error.LineError.TheVariants as refusal
use Rattle.esm_ddb.specs.Change.{Change}
use Rattle.esm_ddb.specs.Element.{element}
use Rattle.esm_ddb.specs.ItemText.{value_text}
use Rattle.esm_ddb.specs.ReadsBack.{IsOfBytes, IsOneLine, IsReadBack, change_in}
use Rattle.esm_ddb.specs.Turned.{record_line, turned, turned_change, turned_object, turned_record}
use Rattle.esm_ddb.specs.declared.error.DdbError.{DdbError}
use Rattle.esm_ddb.specs.declared.error.DdbError.TheVariants.{BadField, LineTooLong}
use Rattle.esm_ddb.specs.declared.error.DdbField.TheVariants.{Dynamodb}
use Rattle.esm_ddb.specs.declared.source.Source.{Source}
use Rattle.esm_ddb.proofs.CutLines.{cut_line}
use Rattle.esm_ddb.proofs.ElementBytes.{IsToldBy, element_bytes, told_by}
use Rattle.esm_ddb.proofs.OneLine.{no_feed, one_line}
use Rattle.esm_ddb.proofs.ReadBack.{IsWritten, key_hex, line_reads, plain_line}
use Rattle.esm_ddb.proofs.Told.{IsTold, change_told, then_ok}

abbrev Text : Type 0
Text = Result (List ℕ) DdbError

not_long : (b : Bool) (r : Text) (text : List ℕ) → cond b (Err LineTooLong) r ≡ Ok text → r ≡ Ok text
not_long true r text h = absurd (cc)
not_long false r text h = h

some_bytes : (b : Bool) (r : Text) (text : List ℕ) → b ≡ false → cond b (Ok []) r ≡ Ok text → r ≡ Ok text
some_bytes true r text e h = absurd (cc)
some_bytes false r text e h = h

abbrev good : List ℕ → Text
good x = Ok x

ok_inner : (a b : List ℕ) → good a ≡ good b → a ≡ b
ok_inner a b h = cc

not_large : (b : Bool) (line text : List ℕ) → cond b (Err (BadField Dynamodb)) (Ok line) ≡ Ok text → (b ≡ false) × (line ≡ text)
not_large true line text h = absurd (cc)
not_large false line text h = (refl, ok_inner line text h)

within : (n : ℕ) → nat_lt 1048576 n ≡ false → n ≤ 1048576
within n h = grind (arith, nat_tests)

written : (s : Source) (line : List ℕ) (c : Change) → IsOfBytes s → IsToldBy line c → IsTold c → length (element s c) ≤ 1048576 → IsWritten (turned_record s c)
written s line c of by told short =
    record { shard = told.shard; seq = told.seq; key = key_hex (value_text c.item.keys); bytes = element_bytes s line c of by told.arrival; short = short; arrival = told.arrival }

-- what a line that is not blank became
record Became (s : Source) (line text : List ℕ) : Type 0 where
  change : Change
  told_so : change_in line ≡ Ok change
  is : record_line (turned_record s change) ≡ text
  written : IsOfBytes s → IsWritten (turned_record s change)

told : (s : Source) (line text : List ℕ) → is_blank line ≡ false → turned s line ≡ Ok text → Became s line text
told s line text some h =
    let rest = not_long (nat_lt 8388608 (length line)) (cond (is_blank line) (Ok []) (turned_object s line)) text h in
    let object = some_bytes (is_blank line) (turned_object s line) text some rest in
    let c = then_ok (change_in line) (turned_change s) text object in
    let size = not_large (nat_lt 1048576 (length (element s c.0))) (record_line (turned_record s c.0)) text c.2 in
    let by = told_by line c.0 c.1 in
    record {
      change = c.0;
      told_so = c.1;
      is = size.1;
      written = λ of. written s line c.0 of by (change_told by.value c.0 by.told) (within (length (element s c.0)) size.0);
    }

pub read_back : IsReadBack
read_back s line text of some h =
    let c = told s line text some h in
    let r = turned_record s c.change in
    record {
      change = c.change;
      told = c.told_so;
      stands = subst IsOneLine c.is (one_line r (c.written of));
      reads = subst (λ (t : List ℕ). line_of record_of t ≡ Ok r) c.is (line_reads r (c.written of));
    }

-- a front of a turned line is all of it, or is refused
pub cut_back : (s : Source) (line text b q : List ℕ) → IsOfBytes s → is_blank line ≡ false → turned s line ≡ Ok text → b ++ q ≡ text → (b ≡ text) ⊎ (line_of record_of b ≡ Err refusal.NotJson)
cut_back s line text b q of some h e =
    let c = told s line text some h in
    subst (λ (t : List ℕ). (b ≡ t) ⊎ (line_of record_of b ≡ Err refusal.NotJson)) c.is (cut_line (turned_record s c.change) b q (c.written of) (e ∙ sym c.is))

-- a blank line becomes nothing
pub blank_text : (s : Source) (line text : List ℕ) → is_blank line ≡ true → turned s line ≡ Ok text → text ≡ []
blank_text s line text blank h =
    let rest = not_long (nat_lt 8388608 (length line)) (cond (is_blank line) (Ok []) (turned_object s line)) text h in
    sym (ok_inner [] text (sym (ap (λ (b : Bool). cond b (good []) (turned_object s line)) blank) ∙ rest))

-- a turned line that is not blank has no line feed
pub in_line : (s : Source) (line text : List ℕ) → IsOfBytes s → is_blank line ≡ false → turned s line ≡ Ok text → All (λ b. is_line_feed b ≡ false) text
in_line s line text of some h =
    let c = told s line text some h in
    subst (All (λ b. is_line_feed b ≡ false)) c.is (no_feed (record_line (turned_record s c.change)) (plain_line (turned_record s c.change) (c.written of)))
