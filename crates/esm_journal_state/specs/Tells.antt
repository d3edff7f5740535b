-- The lists have what a history says.
use Rattle.std.specs.Prelude.{ℕ, ◌≡◌, List, option_map}
use Rattle.esm_model.specs.declared.setup.FoundFate.{FoundFate}
use Rattle.esm_model.specs.declared.setup.FoundTries.{FoundTries}
use Rattle.esm_model.specs.declared.setup.FoundState.{FoundState}
use Rattle.esm_model.specs.declared.setup.FoundWindowTries.{FoundWindowTries}
use Rattle.esm_journal_state.specs.declared.kept.KeptFate.{KeptFate}
use Rattle.esm_journal_state.specs.declared.kept.KeptTries.{KeptTries}
use Rattle.esm_journal_record.specs.declared.said.Said.{Said}
use Rattle.esm_journal_state.specs.Meaning.{fate_kept, tries_kept, fate_said, tries_said, state_said, window_tries_said, replayed_said, deletion_said}
use Rattle.esm_model.specs.declared.setup.FoundDeletion.{FoundDeletion}
use Rattle.esm_journal_state.specs.SaidLists.{SaidLists, fate_told, tries_told, state_told, window_tries_told, is_replay_told, deletion_told}

abbrev pub fate_of_found : FoundFate → KeptFate
fate_of_found f = fate_kept f.fate f.text

abbrev pub tries_of_found : FoundTries → KeptTries
tries_of_found f = tries_kept f.tries f.text

abbrev pub deletion_of_found : FoundDeletion → KeptFate
deletion_of_found f = fate_kept f.fate f.text

-- they have of each place and each window what the history says
pub record Tells (t : SaidLists) (h : List Said) : Type 0 where
  pub fates : (n i : ℕ) → option_map fate_of_found (fate_told t n i) ≡ fate_said h n i
  pub tries : (n i : ℕ) → option_map tries_of_found (tries_told t n i) ≡ tries_said h n i
  pub states : (n w : ℕ) → option_map (λ (f : FoundState). f.text) (state_told t n w) ≡ state_said h n w
  pub window_tries : (n w : ℕ) → option_map (λ (f : FoundWindowTries). f.tries) (window_tries_told t n w) ≡ window_tries_said h n w
  pub replays : (n i : ℕ) → is_replay_told t n i ≡ replayed_said h n i
  pub deletions : (i : ℕ) → option_map deletion_of_found (deletion_told t i) ≡ deletion_said h i
