-- What the end of a call requires, and what of it is still owed. This product's own.
use Rattle.std.specs.Prelude.{◌≡◌, ℕ, ◌+◌, ◌==◌, nat_eq, Bool, false, not, ◌&&◌, List, [], ◌∷◌, ◌++◌, take, drop, map, Option, Some, None, filter, option_map, unwrap_or, slice_get, codes, if◌then◌else◌}
use Rattle.std.specs.Option.{option_eq}
use Rattle.std.specs.Str.{bytes_eq}
use Rattle.esm_model.specs.Lane.{same_lane}
use Rattle.esm_model.specs.Records.{Record}
use Rattle.esm_model.specs.declared.lane.LaneId.{LaneId}
use Rattle.esm_model.specs.declared.entry.Fate.{Fate}
use Rattle.esm_model.specs.declared.entry.Fate.TheVariants.{Succeeded, Exhausted}
use Rattle.esm_model.specs.declared.entry.Reply.{Reply}
use Rattle.esm_model.specs.declared.entry.Reply.TheVariants.{Answered}
use Rattle.esm_model.specs.declared.entry.WindowState.{WindowState}
use Rattle.esm_model.specs.declared.entry.Entry.{Entry}
use Rattle.esm_model.specs.declared.entry.Entry.TheVariants.{Began, Ended, Gave, Tried, Closed}
use Rattle.esm_model.specs.declared.verdict.Rest.{Rest}
use Rattle.esm_model.specs.declared.verdict.Rest.TheVariants as rest
use Rattle.esm_model.specs.declared.verdict.Verdict.{Verdict}
use Rattle.esm_model.specs.Setting.{Setting, record_at}
use Rattle.esm_model.specs.Entries.{Call, last_moment, last_call}
use Rattle.esm_model.specs.Fates.{lacks_fate, came_places}
use Rattle.esm_model.specs.Filter.{passes}
use Rattle.esm_model.specs.State.{answered_state}
use Rattle.esm_model.specs.Ruling.{capped_tries}
use Rattle.esm_model.specs.Tries.{tries_of, verdict_after}
use Rattle.esm_model.specs.Windows.{has_windows}
use Rattle.esm_model.specs.Calls.{window_of_call}
use Rattle.esm_model.specs.FailureLine.{failure_line}

-- filtering

-- the record does not pass the filter
abbrev pub is_refused : Setting → Record → Bool
is_refused s r = not (passes s.config.filters r)

-- the record at the place has no fate and does not pass the filter
abbrev pub is_unsorted : Setting → List Entry → ℕ → ℕ → Bool
is_unsorted s h n i = lacks_fate s h n i && unwrap_or (option_map (is_refused s) (record_at s n i)) false

-- the places of the shard's open records that do not pass the filter
abbrev pub unsorted : Setting → List Entry → ℕ → List ℕ
unsorted s h n = filter (is_unsorted s h n) (came_places h n)

-- one thing that the end of a call requires: an entry without its moment and its failure line, which are those of the moment
-- at which it is added
pub data Debt : Type 0 where
  Success : (places : List ℕ) (state : Option WindowState) → Debt
  GiveUp : (places : List ℕ) → Debt
  Try : (places : List ℕ) (closing : Option ℕ) (tries : ℕ) → Debt
  Close : (window : ℕ) → Debt

-- the lane's entry that pays the debt, after the history
abbrev pub debt_entry : Setting → List Entry → LaneId → ℕ → Debt → Entry
debt_entry s h lane m (Success places state) = Gave (Some lane) lane.shard places Succeeded None state m
debt_entry s h lane m (GiveUp places) = Gave (Some lane) lane.shard places Exhausted (failure_line s h lane.shard places false m) None m
debt_entry s h lane m (Try places closing tries) = Tried lane places closing tries m
debt_entry s h lane m (Close window) = Closed lane window m

-- the state that a call leaves to its window, where windows are configured

-- the state in an answer
abbrev pub state_in_reply : Reply → List ℕ
state_in_reply (Answered status error body) = answered_state body
state_in_reply _ = codes "{}"

-- the new state of the call's window
abbrev pub new_state : Setting → ℕ → Call → Reply → Option WindowState
new_state s n call reply =
    if has_windows s.config
    then Some (record { window = window_of_call s n call.places call.closing; text = state_in_reply reply })
    else None

-- the success of these records, if there are any
abbrev pub success_debts : List ℕ → Option WindowState → List Debt
success_debts [] state = []
success_debts (i ∷ places) state = Success (i ∷ places) state ∷ []

-- the giving up of these records, if there are any
abbrev pub give_up_debts : List ℕ → List Debt
give_up_debts [] = []
give_up_debts (i ∷ places) = GiveUp (i ∷ places) ∷ []

-- the closing of the window, where the call was its final one
abbrev pub close_debts : Option ℕ → List Debt
close_debts None = []
close_debts (Some window) = Close window ∷ []

-- what the rest of a verdict requires; the tries are those before the end
abbrev pub rest_debts : Rest → List ℕ → Option ℕ → ℕ → List Debt
rest_debts rest.Nothing places closing tries = close_debts closing
rest_debts rest.Again places closing tries = []
rest_debts (rest.Split k) places closing tries = []
rest_debts rest.Counted places closing tries = Try places closing (capped_tries (tries + 1)) ∷ []
rest_debts rest.Exhausted places closing tries = give_up_debts places ++ close_debts closing

-- what a verdict requires: the success of the records that succeeded, then what its rest requires
abbrev pub verdict_debts : Setting → ℕ → Call → ℕ → Verdict → Reply → List Debt
verdict_debts s n call tries v reply =
    success_debts (take v.succeeded call.places) (new_state s n call reply)
    ++ rest_debts v.rest (drop v.succeeded call.places) call.closing tries

-- what the end of this call, the lane's last one, requires
abbrev pub call_debts : Setting → List Entry → LaneId → Option Call → Reply → List Debt
call_debts s h lane None reply = []
call_debts s h lane (Some call) reply = verdict_debts s lane.shard call (tries_of s h lane.shard call) (verdict_after s h lane reply) reply

-- what an `Ended` of the lane that follows the history requires
abbrev pub end_debts : Setting → List Entry → LaneId → Reply → List Debt
end_debts s h lane reply = call_debts s h lane (last_call h lane) reply

-- which entries pay a debt: their kind and what they name decide it, and not their state, line and moment

-- the same places in the same order
abbrev pub same_places : List ℕ → List ℕ → Bool
same_places xs ys = bytes_eq xs ys

-- the debt is that these places get this fate
abbrev pub owes_fate : Fate → List ℕ → Debt → Bool
owes_fate Succeeded places (Success owed state) = same_places owed places
owes_fate Exhausted places (GiveUp owed) = same_places owed places
owes_fate _ places _ = false

-- the debt is this number of tries of these places, or of the window's final call
abbrev pub owes_try : List ℕ → Option ℕ → ℕ → Debt → Bool
owes_try places closing tries (Try owed window number) = same_places owed places && option_eq nat_eq window closing && (number == tries)
owes_try places closing tries _ = false

-- the debt is the closing of this window
abbrev pub owes_close : ℕ → Debt → Bool
owes_close window (Close owed) = owed == window
owes_close window _ = false

-- there are debts, and the first of them passes
abbrev pub is_first : (Debt → Bool) → List Debt → Bool
is_first passes [] = false
is_first passes (d ∷ ds) = passes d

-- the entry is one of the lane, and pays the first of the debts
abbrev pub pays : LaneId → List Debt → Entry → Bool
pays lane debts (Gave (Some at) shard places fate line state moment) = same_lane at lane && is_first (owes_fate fate places) debts && (shard == lane.shard)
pays lane debts (Tried at places closing tries moment) = same_lane at lane && is_first (owes_try places closing tries) debts
pays lane debts (Closed at window moment) = same_lane at lane && is_first (owes_close window) debts
pays lane debts _ = false

-- a call of the lane that begins or ends replaces all debts, and an entry that pays the first one removes it
abbrev pub debts_after : Setting → List Entry → LaneId → List Debt → Entry → List Debt
debts_after s h lane before (Began at places closing moment) = if same_lane at lane then [] else before
debts_after s h lane before (Ended at reply moment) = if same_lane at lane then end_debts s h lane reply else before
debts_after s h lane before e = if pays lane before e then drop 1 before else before

-- what the lane's last `Ended` requires and the entries after it have not paid; nothing after a later `Began` of the lane
abbrev pub debts : Setting → List Entry → LaneId → List Debt
debts s [] lane = []
debts s (e ∷ h) lane = debts_after s h lane (debts s h lane) e

-- the debts as entries, at the moment of the last entry
abbrev pub owed : Setting → List Entry → LaneId → List Entry
owed s h lane = map (debt_entry s h lane (last_moment h)) (debts s h lane)

-- the entry is the first that the lane owes
abbrev pub IsOwed : Setting → List Entry → LaneId → Entry → Type 0
IsOwed s h lane e = slice_get (owed s h lane) 0 ≡ Some e

-- each open record passes the filter, and no lane owes anything
pub record Settled (s : Setting) (h : List Entry) : Type 0 where
  pub sorted : (n : ℕ) → unsorted s h n ≡ []
  pub paid : (lane : LaneId) → debts s h lane ≡ []
