-- The running call of a lane, as it is read off a ledger.
use Rattle.std.proofs.Common.{◌≡◌, ℕ, ◌<◌, ◌≤◌, Bool, true, List, [], ◌∷◌, ◌++◌, length, sym, ap, ◌∙◌, subst, Option, Some, None, arith, get_or}
use Rattle.std.specs.Prelude.{slice_index, is_some}
use Rattle.std.proofs.lemmas.List.Elements.{All-from_get_or}
use Rattle.esm_model.specs.declared.limits.TheConstants.{MAX_BATCH}
use Rattle.esm_model.specs.declared.lane.LaneId.{LaneId}
use Rattle.esm_model.specs.declared.entry.Reply.{Reply}
use Rattle.esm_model.specs.declared.verdict.Reading.{Reading}
use Rattle.esm_model.specs.Setting.{sequences_at}
use Rattle.esm_model.specs.Entries.{came_count, last_call, batch_of}
use Rattle.esm_model.specs.Fates.{lacks_fate, open_places}
use Rattle.esm_model.specs.Reading.{reading}
use Rattle.esm_model.specs.Ruling.{ruling}
use Rattle.esm_model.specs.Tries.{tries, tries_for, verdict_after}
use Rattle.esm_model.specs.Owed.{Settled}
use Rattle.esm_model.proofs.Lists.{In}
use Rattle.esm_model.proofs.Sound.{open_In}
use Rattle.esm_model.proofs.Records.{covered_running}
use Rattle.esm_model.proofs.Paid.{running_front, running_In}
use Rattle.esm_shard_index.specs.LaneSteps.{IsGroupOf}
use Rattle.esm_shard_index.specs.WindowsLaws.{closing_of}
use Rattle.esm_ledger.specs.declared.ledger.Ledger.{Ledger}
use Rattle.esm_ledger.specs.Ledger.{past_of, setting_of, Keeps}
use Rattle.esm_ledger.specs.Reading.{IsLaneSettled, AreOpen}
use Rattle.esm_ledger.proofs.Readings.{legal_of}
use Rattle.esm_outcome.specs.Ending.{SettledOver}
use Rattle.esm_outcome.specs.Parts.{IsRunningCall}
use Rattle.esm_outcome.proofs.Calls.{Runs, runs, within_batch, get_In, running_first}
use Rattle.esm_outcome.proofs.Verdicts.{verdict_told}

pub ran : (c : Ledger) (lane : LaneId) (places : List ℕ) (closing : Option ℕ) → Keeps c → IsRunningCall c lane places closing → Runs (setting_of c) (past_of c) lane
ran c lane places closing k is = runs (setting_of c) (past_of c) lane (legal_of c k.rests) is.runs

pub ran_places : (c : Ledger) (lane : LaneId) (places : List ℕ) (closing : Option ℕ) (k : Keeps c) (is : IsRunningCall c lane places closing) → places ≡ (ran c lane places closing k is).call.places
ran_places c lane places closing k is = is.places_are ∙ ap batch_of (ran c lane places closing k is).last

pub ran_closing : (c : Ledger) (lane : LaneId) (places : List ℕ) (closing : Option ℕ) (k : Keeps c) (is : IsRunningCall c lane places closing) → closing ≡ (ran c lane places closing k is).call.closing
ran_closing c lane places closing k is = is.closing_is ∙ ap closing_of (ran c lane places closing k is).last

pub called_few : (c : Ledger) (lane : LaneId) (places : List ℕ) (closing : Option ℕ) → Keeps c → IsRunningCall c lane places closing → length places ≤ MAX_BATCH
called_few c lane places closing k is =
    subst (λ (xs : List ℕ). length xs ≤ MAX_BATCH) (sym (ran_places c lane places closing k is))
    (within_batch c.config (length (ran c lane places closing k is).call.places) k.config (ran c lane places closing k is).begun.few)

pub called_came : (c : Ledger) (lane : LaneId) (places : List ℕ) (closing : Option ℕ) (j : ℕ) → Keeps c → IsRunningCall c lane places closing → j < length places → get_or places j 0 < came_count (past_of c) lane.shard
called_came c lane places closing j k is within =
    covered_running (setting_of c) (past_of c) lane (legal_of c k.rests) is.runs (get_or places j 0)
    (subst (λ (xs : List ℕ). In xs (get_or places j 0)) is.places_are (get_In places j within))

-- none of its records has a fate
pub called_open : (c : Ledger) (lane : LaneId) (places : List ℕ) (closing : Option ℕ) → Keeps c → IsRunningCall c lane places closing → AreOpen (setting_of c) (past_of c) lane.shard places
called_open c lane places closing k is =
    let s = setting_of c in
    let h = past_of c in
    All-from_get_or (λ i. lacks_fate s h lane.shard i ≡ true) places 0 (λ j within.
    (open_In s h lane (get_or places j 0)
    (running_In s h lane (legal_of c k.rests) is.runs (get_or places j 0) (subst (λ (xs : List ℕ). In xs (get_or places j 0)) is.places_are (get_In places j within)))).2)

-- a batch has records
pub batch_some : (c : Ledger) (lane : LaneId) (places : List ℕ) → Keeps c → IsRunningCall c lane places None → 1 ≤ length places
batch_some c lane places k is =
    subst (λ (xs : List ℕ). 1 ≤ length xs) (sym (ran_places c lane places None k is)) ((ran c lane places None k is).begun.some (sym (ran_closing c lane places None k is)))

-- and a final call has none
pub final_none : (c : Ledger) (lane : LaneId) (places : List ℕ) (closing : Option ℕ) (w : ℕ) → Keeps c → IsRunningCall c lane places closing → closing ≡ Some w → places ≡ []
final_none c lane places closing w k is ends = ran_places c lane places closing k is ∙ (ran c lane places closing k is).begun.final w (sym (ran_closing c lane places closing k is) ∙ ends)

-- the front of a lane that runs

pub lane_settled : (c : Ledger) (lane : LaneId) → SettledOver (setting_of c) (past_of c) → IsLaneSettled (setting_of c) (past_of c) lane
lane_settled c lane settled = (let own : Settled (setting_of c) (past_of c) = settled (setting_of c).streams (λ n i r is. is) in record { paid = own.paid lane; sorted = own.sorted lane.shard })

pub never_empty : {A : Type 0} (c : Ledger) (lane : LaneId) (places : List ℕ) → Keeps c → IsRunningCall c lane places None → open_places (setting_of c) (past_of c) lane ≡ [] → A
never_empty c lane places k is none =
    let front = running_front (setting_of c) (past_of c) lane (legal_of c k.rests) is.runs in
    let some = batch_some c lane places k is in
    nothing places front.0 some (sym none ∙ front.1 ∙ ap (λ (xs : List ℕ). xs ++ front.0) (sym is.places_are))
  where
    nothing : {A : Type 0} (xs rest : List ℕ) → 1 ≤ length xs → [] ≡ xs ++ rest → A
    nothing [] rest some is = absurd (omega (arith, some))
    nothing (x ∷ xs) rest some is = absurd (let clash : [] ≡ (x ∷ xs) ++ rest = is in cc)

pub front_told : (c : Ledger) (lane : LaneId) (places front : List ℕ) (fresh : Bool) (count : ℕ) → Keeps c → IsRunningCall c lane places None → IsGroupOf (setting_of c) (past_of c) lane front fresh count
    → count ≡ tries (setting_of c) (past_of c) lane.shard (slice_index places 0)
front_told c lane places front fresh count k is told =
    let s = setting_of c in
    let h = past_of c in
    let some : 1 ≤ length (batch_of (last_call h lane)) = subst (λ (xs : List ℕ). 1 ≤ length xs) is.places_are (batch_some c lane places k is) in
    let first : slice_index front 0 ≡ slice_index places 0 =
    ap (λ (xs : List ℕ). slice_index xs 0) (sym told.group) ∙ running_first s h lane (legal_of c k.rests) is.runs some ∙ ap (λ (xs : List ℕ). slice_index xs 0) (sym is.places_are) in
    sym told.tries ∙ ap (tries s h lane.shard) first

-- the verdict
pub verdict_read : (c : Ledger) (lane : LaneId) (places : List ℕ) (closing : Option ℕ) (reply : Reply) (t : ℕ) (r : Reading) → Keeps c → IsRunningCall c lane places closing
    → t ≡ tries_for (setting_of c) (past_of c) lane.shard places closing → r ≡ reading c.config (sequences_at (setting_of c) lane.shard places) (is_some closing) reply
    → ruling c.config (length places) t r ≡ verdict_after (setting_of c) (past_of c) lane reply
verdict_read c lane places closing reply t r k is counted read =
    let at = ran c lane places closing k is in
    ap (λ (n : ℕ). ruling c.config (length places) n r) counted
    ∙ ap (λ (x : Reading). ruling c.config (length places) (tries_for (setting_of c) (past_of c) lane.shard places closing) x) read
    ∙ verdict_told (setting_of c) (past_of c) lane places closing at.call reply at.last (ran_places c lane places closing k is) (ran_closing c lane places closing k is)
