-- What the journal's content says after a history, and what the next run finds in it. This product's own.
use Rattle.std.specs.Prelude.{◌≡◌, ℕ, true, List, [], ◌++◌, option_map, reverse}
use Rattle.esm_model.specs.declared.lane.LaneId.{LaneId}
use Rattle.esm_model.specs.declared.entry.Entry.{Entry}
use Rattle.esm_model.specs.declared.setup.FoundFate.{FoundFate}
use Rattle.esm_model.specs.Setting.{Setting, found_fate, found_tries, found_state, found_window_tries}
use Rattle.esm_model.specs.Fates.{fate, lacks_fate}
use Rattle.esm_model.specs.Ruling.{capped_tries}
use Rattle.esm_model.specs.Tries.{tries, window_tries}
use Rattle.esm_model.specs.Owed.{debts}
use Rattle.esm_model.specs.Windows.{kept_state}
use Rattle.esm_journal_record.specs.EntryPayload.{history_payloads}
use Rattle.esm_journal_state.specs.Meaning.{history}
use Rattle.esm_journal_state.specs.SaidLists.{SaidLists}
use Rattle.esm_journal_state.specs.Tells.{Tells}

-- the setting has found what the lists say
pub record HasFound (s : Setting) (t : SaidLists) : Type 0 where
  pub fates : s.fates ≡ t.fates
  pub tries : s.tries ≡ t.tries
  pub states : s.states ≡ t.states
  pub window_tries : s.window_tries ≡ t.window_tries

-- the setting has found what this content says; the oldest payload is first
pub record IsOpenedOver (s : Setting) (content : List (List ℕ)) : Type 0 where
  pub told : SaidLists
  pub tells : Tells told (history (reverse content))
  pub found : HasFound s told

-- the content after the history was journaled behind an old content
abbrev pub content_after : Setting → List Entry → List (List ℕ) → List (List ℕ)
content_after s h old = old ++ history_payloads s h

-- no end of a call requires anything more
abbrev pub OwesNothing : Setting → List Entry → Type 0
OwesNothing s h = (lane : LaneId) → debts s h lane ≡ []

-- The next run finds what this run knew: each fate and each window's state, and, if nothing is owed, the tries of each
-- record without a fate and of each window's final call. Tries are capped.
pub record GoesOnFrom (s : Setting) (h : List Entry) (next : Setting) : Type 0 where
  pub fates : (n i : ℕ) → option_map (λ (f : FoundFate). f.fate) (found_fate next n i) ≡ fate s h n i
  pub states : (n w : ℕ) → found_state next n w ≡ kept_state s h n w
  pub tries : OwesNothing s h → (n i : ℕ) → lacks_fate s h n i ≡ true → capped_tries (found_tries next n i) ≡ tries s h n i
  pub window_tries : OwesNothing s h → (n w : ℕ) → capped_tries (found_window_tries next n w) ≡ window_tries s h n w
