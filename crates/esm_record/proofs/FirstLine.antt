-- The first line feed, and bytes without one byte.
use Rattle.std.proofs.Common.{◌≡◌, ℕ, suc, ◌+◌, ◌<◌, ◌==◌, Bool, true, false, List, ◌∷◌, ◌++◌, length, take, drop, get_or, refl, sym, ap, ◌∙◌, arith, add-one}
use Rattle.std.specs.List.{All}
use Rattle.std.proofs.lemmas.Bool.{eqb-true}
use Rattle.std.proofs.lemmas.List.{get_or-take, take-append-drop, length-take}
use Rattle.std.proofs.lemmas.List.Elements.{All-from_get_or}
use Rattle.std.proofs.Math.Seq.{drop-cons}
use Rattle.memchr.specs.Find.{Nowhere, NoneBefore, Passes, is_byte}
use Rattle.esm_record.specs.Input.{is_line_feed}
use Rattle.esm_record.specs.LineBlocks.{NoLineFeed, IsFirstLine}

pub not_true : (b : Bool) → (b ≡ true → ⊥) → b ≡ false
not_true true h = absurd (h refl)
not_true false h = refl

pub has_no : (byte : ℕ) (bytes : List ℕ) → Nowhere (Passes (is_byte byte) bytes) 0 (length bytes) → All (λ b. (b == byte) ≡ false) bytes
has_no byte bytes h = All-from_get_or (λ b. (b == byte) ≡ false) bytes 0 (λ i below. not_true (get_or bytes i 0 == byte) (h i (omega arith) below))

pub has_none : (bytes : List ℕ) → Nowhere (Passes (is_byte 10) bytes) 0 (length bytes) → NoLineFeed bytes
has_none bytes h = has_no 10 bytes h

short_take : (bytes : List ℕ) (at i : ℕ) → i < length (take at bytes) → i < at
short_take bytes at i h = omega (arith, length-take at bytes)

pub first_is : (bytes : List ℕ) (at : ℕ) → NoneBefore (Passes (is_byte 10) bytes) 0 (length bytes) at → Passes (is_byte 10) bytes at → IsFirstLine bytes (take at bytes) (drop (at + 1) bytes)
first_is bytes at before passes =
    let feed : get_or bytes at 0 ≡ 10 = eqb-true (get_or bytes at 0) 10 passes in
    let rest : drop at bytes ≡ 10 ∷ drop (at + 1) bytes = drop-cons bytes at 0 before.high ∙ ap (λ (b : ℕ). b ∷ drop (suc at) bytes) feed ∙ ap (λ (n : ℕ). 10 ∷ drop n bytes) (sym (add-one at)) in
    record {
      parts = sym (take-append-drop at bytes) ∙ ap (λ (l : List ℕ). take at bytes ++ l) rest;
      none = All-from_get_or (λ b. is_line_feed b ≡ false) (take at bytes) 0 (λ i below.
          let near : i < at = short_take bytes at i below in
          ap is_line_feed (get_or-take at bytes i 0 near) ∙ not_true (is_line_feed (get_or bytes i 0)) (before.before i (omega arith) near));
    }
