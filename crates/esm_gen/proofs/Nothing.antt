-- A journal without a payload says nothing.
use Rattle.std.proofs.Common.{◌≡◌, ℕ, Bool, true, ◌==◌, ◌&&◌, List, [], ◌∷◌, None, option_map, refl, arith}
use Rattle.std.specs.Prelude.{find}
use Rattle.std.proofs.lemmas.Bool.Decides.{nat_tests}
use Rattle.esm_model.specs.declared.setup.FoundFate.{FoundFate}
use Rattle.esm_model.specs.declared.setup.FoundState.{FoundState}
use Rattle.esm_model.specs.declared.setup.FoundTries.{FoundTries}
use Rattle.esm_model.specs.declared.setup.FoundWindowTries.{FoundWindowTries}
use Rattle.esm_journal_state.specs.SaidLists.{SaidLists}
use Rattle.esm_journal_state.specs.Tells.{Tells, fate_of_found, tries_of_found}
use Rattle.esm_gen.specs.Nothing.{SaysNothing}

-- a list in which nothing is found has no first element
found_first : {A B : Type 0} (g : A → B) (p : A → Bool) (x : A) (xs : List A) → p x ≡ true → option_map g (find p (x ∷ xs)) ≡ None → ⊥
found_first g p x xs h none = let some = rw h at none in cc some

same_pair : (n i : ℕ) → ((n == n) && (i == i)) ≡ true
same_pair n i = grind (arith, nat_tests)

no_fates : (fs : List FoundFate) → ((n i : ℕ) → option_map fate_of_found (find (λ (f : FoundFate). (f.shard == n) && (f.place == i)) fs) ≡ None) → fs ≡ []
no_fates [] h = refl
no_fates (f ∷ fs) h = absurd (found_first fate_of_found (λ (g : FoundFate). (g.shard == f.shard) && (g.place == f.place)) f fs (same_pair f.shard f.place) (h f.shard f.place))

no_tries : (fs : List FoundTries) → ((n i : ℕ) → option_map tries_of_found (find (λ (f : FoundTries). (f.shard == n) && (f.place == i)) fs) ≡ None) → fs ≡ []
no_tries [] h = refl
no_tries (f ∷ fs) h = absurd (found_first tries_of_found (λ (g : FoundTries). (g.shard == f.shard) && (g.place == f.place)) f fs (same_pair f.shard f.place) (h f.shard f.place))

no_states : (fs : List FoundState) → ((n w : ℕ) → option_map (λ (f : FoundState). f.text) (find (λ (f : FoundState). (f.shard == n) && (f.window == w)) fs) ≡ None) → fs ≡ []
no_states [] h = refl
no_states (f ∷ fs) h = absurd (found_first (λ (g : FoundState). g.text) (λ (g : FoundState). (g.shard == f.shard) && (g.window == f.window)) f fs (same_pair f.shard f.window) (h f.shard f.window))

no_window_tries : (fs : List FoundWindowTries) → ((n w : ℕ) → option_map (λ (f : FoundWindowTries). f.tries) (find (λ (f : FoundWindowTries). (f.shard == n) && (f.window == w)) fs) ≡ None) → fs ≡ []
no_window_tries [] h = refl
no_window_tries (f ∷ fs) h = absurd (found_first (λ (g : FoundWindowTries). g.tries) (λ (g : FoundWindowTries). (g.shard == f.shard) && (g.window == f.window)) f fs (same_pair f.shard f.window) (h f.shard f.window))

pub says_nothing : (said : SaidLists) → Tells said [] → SaysNothing said
says_nothing said tells = record {
  fates = no_fates said.fates tells.fates;
  tries = no_tries said.tries tells.tries;
  states = no_states said.states tells.states;
  window_tries = no_window_tries said.window_tries tells.window_tries;
}
