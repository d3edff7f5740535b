-- In a legal history the places that came are those below the number of records that did.
use Rattle.std.proofs.Common.{◌≡◌, ℕ, ◌+◌, ◌<◌, true, ◌&&◌, List, [], ◌∷◌, ap, ◌∙◌, inl, inr, arith}
use Rattle.std.specs.Prelude.{◌==◌, nat_le, nat_lt}
use Rattle.std.proofs.lemmas.Bool.{cases_Bool, cases_lt, and_parts, and_from, or_cases, or_left, or_right, eqb-true, le-leb, lt-ltb, ltb-true}
use Rattle.esm_model.specs.declared.entry.Entry.{Entry}
use Rattle.esm_model.specs.declared.entry.Entry.TheVariants.{Came, Began, Ended, Gave, Tried, Closed, Replayed, Shut}
use Rattle.esm_model.specs.Setting.{Setting}
use Rattle.esm_model.specs.Entries.{came_count, has_come}
use Rattle.esm_model.specs.Step.{Legal}
use Rattle.esm_model.specs.Laws.{HasComeBelow}

come_below : (s : Setting) (h : List Entry) → Legal s h → (n i : ℕ) → has_come h n i ≡ true → i < came_count h n
come_below s [] legal n i came = cc
come_below s (Came k first count m ∷ h) legal n i came =
    elim (cases_Bool (k == n)) [
      | inr other ↦ rw other (come_below s h legal.0 n i (rw other at came))
      | inl same ↦ (
          let next : first ≡ came_count h n = legal.1.1.next ∙ ap (came_count h) (eqb-true k n same) in
          elim (or_cases (nat_le first i && nat_lt i (first + count)) (has_come h n i) (rw same at came)) [
            | inl covered ↦ (let low : i < first + count = ltb-true i (first + count) (and_parts (nat_le first i) (nat_lt i (first + count)) covered).1 in rw same (omega (arith, low, next)))
            | inr before ↦ (let low : i < came_count h n = come_below s h legal.0 n i before in rw same (omega (arith, low)))
          ])
    ]
come_below s (Began lane places closing m ∷ h) legal n i came = come_below s h legal.0 n i came
come_below s (Ended lane reply m ∷ h) legal n i came = come_below s h legal.0 n i came
come_below s (Gave by k places f line state m ∷ h) legal n i came = come_below s h legal.0 n i came
come_below s (Tried lane places closing t m ∷ h) legal n i came = come_below s h legal.0 n i came
come_below s (Closed lane w m ∷ h) legal n i came = come_below s h legal.0 n i came
come_below s (Replayed k places m ∷ h) legal n i came = come_below s h legal.0 n i came
come_below s (Shut m ∷ h) legal n i came = come_below s h legal.0 n i came

below_come : (s : Setting) (h : List Entry) → Legal s h → (n i : ℕ) → i < came_count h n → has_come h n i ≡ true
below_come s [] legal n i low = absurd (omega arith)
below_come s (Came k first count m ∷ h) legal n i low =
    elim (cases_Bool (k == n)) [
      | inr other ↦ rw other (below_come s h legal.0 n i (rw other at low))
      | inl same ↦ (
          let next : first ≡ came_count h n = legal.1.1.next ∙ ap (came_count h) (eqb-true k n same) in
          let now : i < count + came_count h n = rw same at low in
          rw same (elim (cases_lt i (came_count h n)) [
            | inl before ↦ or_right (nat_le first i && nat_lt i (first + count)) (has_come h n i) (below_come s h legal.0 n i before)
            | inr past ↦ or_left (nat_le first i && nat_lt i (first + count)) (has_come h n i) (and_from (nat_le first i) (nat_lt i (first + count)) (le-leb first i (omega arith)) (lt-ltb i (first + count) (omega arith)))
          ]))
    ]
below_come s (Began lane places closing m ∷ h) legal n i low = below_come s h legal.0 n i low
below_come s (Ended lane reply m ∷ h) legal n i low = below_come s h legal.0 n i low
below_come s (Gave by k places f line state m ∷ h) legal n i low = below_come s h legal.0 n i low
below_come s (Tried lane places closing t m ∷ h) legal n i low = below_come s h legal.0 n i low
below_come s (Closed lane w m ∷ h) legal n i low = below_come s h legal.0 n i low
below_come s (Replayed k places m ∷ h) legal n i low = below_come s h legal.0 n i low
below_come s (Shut m ∷ h) legal n i low = below_come s h legal.0 n i low

pub come_of_legal : (s : Setting) (h : List Entry) (n i : ℕ) → Legal s h → HasComeBelow h n i
come_of_legal s h n i legal = record { below = come_below s h legal n i; covered = below_come s h legal n i }
