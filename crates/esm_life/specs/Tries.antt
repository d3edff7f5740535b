-- What the next run of a stream's mapping finds of tries, wherever the run before it stopped. This product's own.
use Rattle.std.specs.Prelude.{◌≡◌, ℕ, ◌+◌, ◌==◌, ◌≤◌, Bool, true, false, List, Some, None}
use Rattle.std.specs.List.{list_any}
use Rattle.esm_model.specs.declared.lane.LaneId.{LaneId}
use Rattle.esm_model.specs.declared.entry.Entry.{Entry}
use Rattle.esm_model.specs.Setting.{Setting, found_tries, found_window_tries}
use Rattle.esm_model.specs.Entries.{holds}
use Rattle.esm_model.specs.Fates.{lacks_fate}
use Rattle.esm_model.specs.Ruling.{capped_tries}
use Rattle.esm_model.specs.Tries.{tries, window_tries}
use Rattle.esm_model.specs.Owed.{Debt, Success, GiveUp, Try, Close, debts}

-- the debt is a try of the record, or of the window's final call
abbrev pub is_try_of : ℕ → Debt → Bool
is_try_of i (Try places None number) = holds places i
is_try_of i (Try places (Some window) number) = false
is_try_of i (Success places state) = false
is_try_of i (GiveUp places) = false
is_try_of i (Close window) = false

abbrev pub is_final_try_of : ℕ → Debt → Bool
is_final_try_of w (Try places None number) = false
is_final_try_of w (Try places (Some window) number) = window == w
is_final_try_of w (Success places state) = false
is_final_try_of w (GiveUp places) = false
is_final_try_of w (Close window) = false

-- no lane of the shard is owed such a try: none that the end of its last call counted lacks its entry
abbrev pub OwesNoTry : Setting → List Entry → ℕ → ℕ → Type 0
OwesNoTry s h n i = (lane : LaneId) → lane.shard ≡ n → list_any (is_try_of i) (debts s h lane) ≡ false

abbrev pub OwesNoFinalTry : Setting → List Entry → ℕ → ℕ → Type 0
OwesNoFinalTry s h n w = (lane : LaneId) → lane.shard ≡ n → list_any (is_final_try_of w) (debts s h lane) ≡ false

-- The next run finds the tries that the history knew of a record, if no lane is owed one; in any case it finds no more, and
-- at most one less.
pub record FindsTries (s : Setting) (h : List Entry) (next : Setting) (n i : ℕ) : Type 0 where
  pub exact : OwesNoTry s h n i → capped_tries (found_tries next n i) ≡ tries s h n i
  pub no_more : capped_tries (found_tries next n i) ≤ tries s h n i
  pub one_less : tries s h n i ≤ capped_tries (found_tries next n i) + 1

-- the same of a window's final call
pub record FindsWindowTries (s : Setting) (h : List Entry) (next : Setting) (n w : ℕ) : Type 0 where
  pub exact : OwesNoFinalTry s h n w → capped_tries (found_window_tries next n w) ≡ window_tries s h n w
  pub no_more : capped_tries (found_window_tries next n w) ≤ window_tries s h n w
  pub one_less : window_tries s h n w ≤ capped_tries (found_window_tries next n w) + 1

-- the same of each record without a fate, and of each window
pub record TriesGoOn (s : Setting) (h : List Entry) (next : Setting) : Type 0 where
  pub records : (n i : ℕ) → lacks_fate s h n i ≡ true → FindsTries s h next n i
  pub windows : (n w : ℕ) → FindsWindowTries s h next n w
