-- Each record that came in a legal history has the number that the journal kept of its place, where it kept one.
use Rattle.std.proofs.Common.{◌≡◌, ◌∙◌, ℕ, ◌+◌, ◌<◌, Bool, List, [], ◌∷◌, Option, None, Some, ap, arith, inl, inr, refl, subst, sym}
use Rattle.std.specs.Prelude.{◌==◌, option_map, if◌then◌else◌}
use Rattle.std.specs.Option.{option_or}
use Rattle.std.proofs.lemmas.Bool.Decides.{eqb_tells, leb_tells}
use Rattle.std.proofs.lemmas.Slice.Eq.{bytes_eq-Decides}
use Rattle.esm_ingest.specs.Changes.{kept_otherwise, other_text}
use Rattle.esm_model.specs.declared.entry.Entry.{Entry}
use Rattle.esm_model.specs.declared.entry.Entry.TheVariants.{Came}
use Rattle.esm_model.specs.Records.{Record}
use Rattle.esm_model.specs.declared.setup.FoundFate.{FoundFate}
use Rattle.esm_model.specs.declared.setup.FoundTries.{FoundTries}
use Rattle.esm_model.specs.Entries.{came_count}
use Rattle.esm_model.specs.Setting.{Setting, found_fate, found_try, record_at}
use Rattle.esm_model.specs.Step.{Legal, MayCome}

-- the record at the place has the number that was kept of it
pub record IsKeptAt (s : Setting) (n i : ℕ) : Type 0 where
  pub fates : (f : FoundFate) (r : Record) → record_at s n i ≡ Some r → found_fate s n i ≡ Some f → r.seq ≡ f.text
  pub tries : (f : FoundTries) (r : Record) → record_at s n i ≡ Some r → found_try s n i ≡ Some f → r.seq ≡ f.text

-- so each record that came

kept_next : (s : Setting) (h : List Entry) (n i first count : ℕ) → MayCome s h n first count → (i < came_count h n → IsKeptAt s n i) → i < count + came_count h n → IsKeptAt s n i
kept_next s h n i first count comes before came = elim (leb_tells first i) [
  | inl here ↦
      let within : i < first + count = (let next = comes.next in omega (arith, came, next)) in
      record { fates = λ f r. comes.kept.fates i f r here.1 within; tries = λ f r. comes.kept.tries i f r here.1 within }
  | inr earlier ↦ before (let next = comes.next in omega (arith, earlier.1, next))
]

kept_after : (s : Setting) (h : List Entry) (shard n i first count : ℕ) → MayCome s h shard first count → (i < came_count h n → IsKeptAt s n i)
    → i < (if shard == n then count + came_count h n else came_count h n) → IsKeptAt s n i
kept_after s h shard n i first count comes before came = elim (eqb_tells shard n) [
  | inl mine ↦ kept_next s h n i first count (subst (λ k. MayCome s h k first count) mine.1 comes) before
      (subst (λ (b : Bool). i < (if b then count + came_count h n else came_count h n)) mine.0 came)
  | inr other ↦ before (subst (λ (b : Bool). i < (if b then count + came_count h n else came_count h n)) other.0 came)
]

pub kept_of_came : (s : Setting) (h : List Entry) (n i : ℕ) → Legal s h → i < came_count h n → IsKeptAt s n i
kept_of_came s [] n i legal came = absurd (omega (arith, came))
kept_of_came s (Came shard first count moment ∷ h) n i legal came = kept_after s h shard n i first count legal.1.1 (kept_of_came s h n i legal.0) came
kept_of_came s (e ∷ h) n i legal came = kept_of_came s h n i legal.0 came

-- nothing else was kept of it

same_text : (seq text : List ℕ) → seq ≡ text → other_text seq (Some text) ≡ None
same_text seq text same = ap (λ (b : Bool). if b then None else Some text) ((bytes_eq-Decides text seq).1 (sym same))

no_other_fate : (o : Option FoundFate) (seq : List ℕ) → ((f : FoundFate) → o ≡ Some f → seq ≡ f.text) → other_text seq (option_map (λ (f : FoundFate). f.text) o) ≡ None
no_other_fate None seq kept = refl
no_other_fate (Some f) seq kept = same_text seq f.text (kept f refl)

no_other_tries : (o : Option FoundTries) (seq : List ℕ) → ((f : FoundTries) → o ≡ Some f → seq ≡ f.text) → other_text seq (option_map (λ (f : FoundTries). f.text) o) ≡ None
no_other_tries None seq kept = refl
no_other_tries (Some f) seq kept = same_text seq f.text (kept f refl)

pub none_otherwise : (s : Setting) (n i : ℕ) (r : Record) → IsKeptAt s n i → record_at s n i ≡ Some r → kept_otherwise s n i r.seq ≡ None
none_otherwise s n i r kept at =
    let tries = other_text r.seq (option_map (λ (f : FoundTries). f.text) (found_try s n i)) in
    ap (λ o. option_or o tries) (no_other_fate (found_fate s n i) r.seq (λ f. kept.fates f r at))
    ∙ no_other_tries (found_try s n i) r.seq (λ f. kept.tries f r at)
