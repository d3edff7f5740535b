-- Where a text stands in an event.
use Rattle.std.proofs.Common.{◌≡◌, ℕ, zero, suc, ◌+◌, true, false, List, [], ◌∷◌, Option, Some, None, length, take, slice_index, is_some, sym, ◌∙◌, ap, arith, ⊎_elim}
use Rattle.std.proofs.lemmas.Grind.{common_steps}
use Rattle.std.specs.List.{starts_with}
use Rattle.std.specs.Prelude.{nat_eq}
use Rattle.std.proofs.lemmas.Bool.{cases_Bool}
use Rattle.std.proofs.lemmas.Slice.Eq.{bytes_eq-Decides}
use Rattle.memchr.specs.Find.{OccursAt, FindsNeedle}
use Rattle.memchr.proofs.lemmas.MatchLemmas.{OccursAt-part, OccursAt-from_part}
use Rattle.esm_io.specs.Script.{is_within}

module _ (text : List ℕ) where
  -- at the front
  front : (event : List ℕ) → starts_with nat_eq event text ≡ true → OccursAt event text 0
  front event e =
      let same = (bytes_eq-Decides text (take (length text) event)).0 e in
      OccursAt-from_part event text 0 (grind (arith, common_steps, ap length same)) (sym same)

  at_front : (event : List ℕ) → OccursAt event text 0 → starts_with nat_eq event text ≡ true
  at_front event o = (bytes_eq-Decides text (take (length text) event)).1 (sym (OccursAt-part event text 0 o))

  -- one byte further on
  further : (b k j : ℕ) (event : List ℕ) → slice_index (b ∷ event) (suc k + j) ≡ slice_index event (k + j)
  further b k j event = let same : suc k + j ≡ suc (k + j) = omega arith in ap (λ n. slice_index (b ∷ event) n) same

  later : (b k : ℕ) (event : List ℕ) → OccursAt (b ∷ event) text (suc k) → OccursAt event text k
  later b k event o = record { fits = grind (arith, o.fits); reads = λ j l. sym (further b k j event) ∙ o.reads j l }

  sooner : (b k : ℕ) (event : List ℕ) → OccursAt event text k → OccursAt (b ∷ event) text (suc k)
  sooner b k event o = record { fits = grind (arith, o.fits); reads = λ j l. further b k j event ∙ o.reads j l }

  found : (event : List ℕ) (k : ℕ) → OccursAt event text k → is_within text event ≡ true
  found [] k o = at_front [] (record { fits = omega (arith, o.fits); reads = λ j l. absurd (omega (arith, o.fits, l)) })
  found (b ∷ event) zero o = grind (arith, at_front (b ∷ event) o)
  found (b ∷ event) (suc k) o = grind (arith, found event k (later b k event o))

  nowhere : (event : List ℕ) → ((k : ℕ) → OccursAt event text k → ⊥) → is_within text event ≡ false
  nowhere [] none = ⊎_elim (λ t. absurd (none 0 (front [] t))) (λ f. f) (cases_Bool (starts_with nat_eq [] text))
  nowhere (b ∷ event) none =
      ⊎_elim (λ t. absurd (none 0 (front (b ∷ event) t))) (λ f. grind (arith, f, nowhere event (λ k o. none (suc k) (sooner b k event o)))) (cases_Bool (starts_with nat_eq (b ∷ event) text))

  -- what a search of the event gives
  pub is_found : (event : List ℕ) (place : Option ℕ) → FindsNeedle event text 0 place → is_some place ≡ is_within text event
  is_found event (Some k) first = sym (found event k first.1)
  is_found event None none = sym (nowhere event (λ k o. none k (omega arith) (omega (arith, o.fits)) o))
