-- An entry of another shard changes nothing of a lane.
use Rattle.std.proofs.Common.{◌≡◌, ℕ, false, List, ◌∷◌, Option, Some, None, refl}
use Rattle.std.specs.Prelude.{◌==◌, ⊤}
use Rattle.std.specs.Option.{option_or}
use Rattle.esm_model.specs.declared.lane.LaneId.{LaneId}
use Rattle.esm_model.specs.declared.entry.Entry.{Entry}
use Rattle.esm_model.specs.declared.entry.Entry.TheVariants.{Came, Began, Ended, Gave, Tried, Closed, Replayed, Shut}
use Rattle.esm_model.specs.Setting.{Setting}
use Rattle.esm_model.specs.Entries.{came_count, came_moment, is_running, last_call}
use Rattle.esm_model.specs.Fates.{fate, given}
use Rattle.esm_model.specs.Tries.{tries, mark, window_tries}
use Rattle.esm_model.specs.Windows.{kept_state}
use Rattle.esm_model.specs.Batches.{failures, last_end}
use Rattle.esm_model.specs.Owed.{debts}

-- the entry speaks of another shard than this, or of none; a `Gave` by a lane is of that lane's shard
abbrev pub IsElsewhere : ℕ → Entry → Type 0
IsElsewhere n (Came shard first count moment) = (shard == n) ≡ false
IsElsewhere n (Began lane places closing moment) = (lane.shard == n) ≡ false
IsElsewhere n (Ended lane reply moment) = (lane.shard == n) ≡ false
IsElsewhere n (Gave None shard places f line state moment) = (shard == n) ≡ false
IsElsewhere n (Gave (Some lane) shard places f line state moment) = ((shard == n) ≡ false) × ((lane.shard == n) ≡ false)
IsElsewhere n (Tried lane places closing tries moment) = (lane.shard == n) ≡ false
IsElsewhere n (Closed lane window moment) = (lane.shard == n) ≡ false
IsElsewhere n (Replayed shard places moment) = ⊤
IsElsewhere n (Shut moment) = ⊤

pub record IsSame (s : Setting) (h : List Entry) (e : Entry) (lane : LaneId) : Type 0 where
  pub fates : (i : ℕ) → fate s (e ∷ h) lane.shard i ≡ fate s h lane.shard i
  pub tries : (i : ℕ) → tries s (e ∷ h) lane.shard i ≡ tries s h lane.shard i
  pub marks : (i : ℕ) → mark s (e ∷ h) lane.shard i ≡ mark s h lane.shard i
  pub came : came_count (e ∷ h) lane.shard ≡ came_count h lane.shard
  pub window_tries : (w : ℕ) → window_tries s (e ∷ h) lane.shard w ≡ window_tries s h lane.shard w
  pub states : (w : ℕ) → kept_state s (e ∷ h) lane.shard w ≡ kept_state s h lane.shard w
  pub moments : (i : ℕ) → came_moment (e ∷ h) lane.shard i ≡ came_moment h lane.shard i
  pub runs : is_running (e ∷ h) lane ≡ is_running h lane
  pub call : last_call (e ∷ h) lane ≡ last_call h lane
  pub failures : failures s (e ∷ h) lane ≡ failures s h lane
  pub end : last_end (e ∷ h) lane ≡ last_end h lane
  pub debts : debts s (e ∷ h) lane ≡ debts s h lane

none_last : {A : Type 0} (o : Option A) → option_or o None ≡ o
none_last None = refl
none_last (Some x) = refl

pub elsewhere_same : (s : Setting) (h : List Entry) (e : Entry) (lane : LaneId) → IsElsewhere lane.shard e → IsSame s h e lane
elsewhere_same s h (Came shard first count moment) lane off = record { fates = λ i. refl; tries = λ i. refl; marks = λ i. refl; came = rw off refl; window_tries = λ w. refl; states = λ w. refl; moments = λ i. rw off refl; runs = refl; call = refl; failures = refl; end = refl; debts = refl }
elsewhere_same s h (Began at places closing moment) lane off = record { fates = λ i. refl; tries = λ i. refl; marks = λ i. refl; came = refl; window_tries = λ w. refl; states = λ w. refl; moments = λ i. refl; runs = rw off refl; call = rw off refl; failures = refl; end = refl; debts = rw off refl }
elsewhere_same s h (Ended at reply moment) lane off = record { fates = λ i. refl; tries = λ i. rw off refl; marks = λ i. rw off refl; came = refl; window_tries = λ w. rw off refl; states = λ w. refl; moments = λ i. refl; runs = rw off refl; call = refl; failures = rw off refl; end = rw off refl; debts = rw off refl }
elsewhere_same s h (Gave None shard places f line state moment) lane off = record { fates = λ i. rw (off, none_last (given h lane.shard i)) refl; tries = λ i. refl; marks = λ i. refl; came = refl; window_tries = λ w. refl; states = λ w. rw off refl; moments = λ i. refl; runs = refl; call = refl; failures = refl; end = refl; debts = refl }
elsewhere_same s h (Gave (Some at) shard places f line state moment) lane off =
    let off0 : (shard == lane.shard) ≡ false = off.0 in
    let off1 : (at.shard == lane.shard) ≡ false = off.1 in
    record { fates = λ i. rw (off0, none_last (given h lane.shard i)) refl; tries = λ i. refl; marks = λ i. refl; came = refl; window_tries = λ w. refl; states = λ w. rw off0 refl; moments = λ i. refl; runs = refl; call = refl; failures = refl; end = refl; debts = rw off1 refl }
elsewhere_same s h (Tried at places closing n moment) lane off = record { fates = λ i. refl; tries = λ i. refl; marks = λ i. refl; came = refl; window_tries = λ w. refl; states = λ w. refl; moments = λ i. refl; runs = refl; call = refl; failures = refl; end = refl; debts = rw off refl }
elsewhere_same s h (Closed at window moment) lane off = record { fates = λ i. refl; tries = λ i. refl; marks = λ i. refl; came = refl; window_tries = λ w. rw off refl; states = λ w. rw off refl; moments = λ i. refl; runs = refl; call = refl; failures = refl; end = refl; debts = rw off refl }
elsewhere_same s h (Replayed shard places moment) lane off = record { fates = λ i. refl; tries = λ i. refl; marks = λ i. refl; came = refl; window_tries = λ w. refl; states = λ w. refl; moments = λ i. refl; runs = refl; call = refl; failures = refl; end = refl; debts = refl }
elsewhere_same s h (Shut moment) lane off = record { fates = λ i. refl; tries = λ i. refl; marks = λ i. refl; came = refl; window_tries = λ w. refl; states = λ w. refl; moments = λ i. refl; runs = refl; call = refl; failures = refl; end = refl; debts = refl }
