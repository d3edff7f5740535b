-- What was found at opening of a shard's records and windows. Only this crate's proofs cite this.
use Rattle.std.specs.Prelude.{◌≡◌, ℕ, option_map, unwrap_or}
use Rattle.esm_model.specs.declared.setup.FoundState.{FoundState}
use Rattle.esm_model.specs.declared.setup.FoundWindowTries.{FoundWindowTries}
use Rattle.esm_model.specs.declared.config.Config.{Config}
use Rattle.esm_model.specs.Setting.{Setting}
use Rattle.esm_model.specs.Ruling.{capped_tries}
use Rattle.esm_journal_state.specs.SaidLists.{SaidLists, state_told, window_tries_told}
use Rattle.esm_shard_index.specs.Windows.{WindowTable, open_in, state_in, tries_in}

-- no record came, and each window of the shard is as the lists have it
pub record HasFoundWindows (t : SaidLists) (n : ℕ) (windows : WindowTable) : Type 0 where
  pub opened : (w : ℕ) → open_in windows w ≡ 0
  pub states : (w : ℕ) → state_in windows w ≡ option_map (λ (f : FoundState). f.text) (state_told t n w)
  pub tries : (w : ℕ) → tries_in windows w ≡ capped_tries (unwrap_or (option_map (λ (f : FoundWindowTries). f.tries) (window_tries_told t n w)) 0)
  pub last : windows.last ≡ 0

-- the setting is of this configuration, and was opened with what the lists have of records
pub record TellsOf (s : Setting) (c : Config) (t : SaidLists) : Type 0 where
  pub config : s.config ≡ c
  pub fates : s.fates ≡ t.fates
  pub tries : s.tries ≡ t.tries
