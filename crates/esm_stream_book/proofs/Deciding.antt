-- What each call decides, in one form: which entries are added, over which records, and that they stand as they are to.
use Rattle.std.proofs.Common.{◌≡◌, ℕ, Bool, true, false, cond, List, [], ◌∷◌, ◌++◌, reverse, refl, sym, subst, Option, Some, None}
use Rattle.std.specs.Prelude.{nat_le, nat_lt, ◌&&◌}
use Rattle.esm_model.specs.declared.lane.LaneId.{LaneId}
use Rattle.esm_model.specs.declared.book.Change.{Change}
use Rattle.esm_model.specs.declared.book.Next.{Next}
use Rattle.esm_model.specs.declared.book.Next.TheVariants as next
use Rattle.esm_model.specs.declared.entry.Entry.{Entry}
use Rattle.esm_model.specs.declared.entry.Entry.TheVariants.{Ended}
use Rattle.esm_model.specs.Setting.{Setting}
use Rattle.esm_model.specs.Moment.{moment_after}
use Rattle.esm_model.specs.Entries.{is_shut, calls_begun}
use Rattle.esm_model.specs.Fates.{open_places}
use Rattle.esm_model.specs.Batches.{group, batch, is_group_ready, delay_end}
use Rattle.esm_model.specs.Step.{is_front_expired}
use Rattle.esm_model.specs.Owed.{debts}
use Rattle.esm_model.proofs.Steps.{same_lane-refl}
use Rattle.esm_ingest.specs.Changes.{first_change}
use Rattle.esm_ledger.specs.Ledger.{LegalOver}
use Rattle.esm_ledger.specs.Reading.{lane_of_batcher}
use Rattle.esm_next.specs.Following.{outstanding, due_windows, least, is_nothing, next_call, next_allowed, next_quiet, next_in}
use Rattle.esm_outcome.specs.Ending.{SettledOver}
use Rattle.esm_stream_core.specs.CoreView.{CoreView}
use Rattle.esm_stream_core.specs.declared.decisions.StreamEntry.{StreamEntry}
use Rattle.esm_stream_core.specs.declared.decisions.StreamCall.{StreamCall}
use Rattle.esm_stream_core.specs.declared.decisions.StreamCall.TheVariants as call
use Rattle.esm_stream_core.specs.declared.decisions.StreamAnswer.{StreamAnswer}
use Rattle.esm_stream_core.specs.declared.decisions.StreamAnswer.TheVariants as answer
use Rattle.esm_stream_core.specs.Calls.{moment_for, next_adds, IsNextOver, IsRunningJob}
use Rattle.esm_stream_core.specs.Told.{stream_entries, Adds, Decides, Refuses}
use Rattle.esm_stream_book.specs.Calls.{RunsCall, next_now}
use Rattle.esm_stream_book.specs.Carried.{coming_by, setting_by, entries_by, IsAnswer}
use Rattle.esm_stream_book.proofs.Bringing.{BringAll, list_brings, next_none, debts_none}

-- these entries are decided, with the records that come: with both the history is legal, and settled
pub record HasDecided (v : CoreView) (asked : StreamCall) (given : StreamAnswer) (entries : List StreamEntry) : Type 0 where
  pub entries_are : entries ≡ stream_entries (setting_by v asked) (entries_by v asked)
  pub legal : LegalOver (setting_by v asked) (reverse (entries_by v asked) ++ v.past)
  pub settled : SettledOver (setting_by v asked) (reverse (entries_by v asked) ++ v.past)
  pub brings : BringAll v.past (coming_by v asked) (entries_by v asked)
  pub answer_is : IsAnswer v asked given
  pub no_change : (change : Change) → Refuses v asked change → ⊥

not_both : {A : Type 0} (o : Option A) (x : A) → o ≡ None → o ≡ Some x → ⊥
not_both o x none some = absurd (cc)

pub decided_so : (v : CoreView) (asked : StreamCall) (given : StreamAnswer) (entries : List StreamEntry) → Decides v asked given entries → HasDecided v asked given entries
decided_so v (call.Came items moment) answer.Taken entries d = record {
  entries_are = d.1.entries_are;
  legal = d.1.legal;
  settled = d.1.settled;
  brings = list_brings v.setting v.past items.items (moment_for v.past moment);
  answer_is = tt;
  no_change = λ change refuses. not_both (first_change v.setting v.past items.items) change d.0 refuses;
}
decided_so v (call.Came items moment) (answer.Next n) entries d = absurd d
decided_so v (call.Came items moment) (answer.Given count) entries d = absurd d
decided_so v (call.Shut moment) given entries d = absurd d
decided_so v (call.Next batcher moment) (answer.Next n) entries d =
    let m = moment_for v.past moment in
    let same : n ≡ next_now v batcher moment = d.0 v.setting.streams (λ k i r at. at) in
    let adds : Adds v [] (next_adds v batcher m (next_now v batcher moment)) entries = subst (λ (x : Next). Adds v [] (next_adds v batcher m x) entries) same d.1 in
    record {
      entries_are = adds.entries_are;
      legal = adds.legal;
      settled = adds.settled;
      brings = next_none v.setting v.past batcher m (next_now v batcher moment);
      answer_is = d.0;
      no_change = λ change refuses. refuses;
    }
decided_so v (call.Next batcher moment) answer.Taken entries d = absurd d
decided_so v (call.Next batcher moment) (answer.Given count) entries d = absurd d
decided_so v (call.Done job reply moment) (answer.Given count) entries d =
    let m = moment_for v.past moment in
    let e : Entry = Ended job.lane reply m in
    record {
      entries_are = d.1.entries_are;
      legal = d.1.legal;
      settled = d.1.settled;
      brings = (tt, debts_none v.setting (e ∷ v.past) job.lane m (debts v.setting (e ∷ v.past) job.lane));
      answer_is = d.0;
      no_change = λ change refuses. refuses;
    }
decided_so v (call.Done job reply moment) answer.Taken entries d = absurd d
decided_so v (call.Done job reply moment) (answer.Next n) entries d = absurd d

-- a call that begins runs

-- where it is a call, the batcher has a lane, and it is of it
abbrev pub IsOfLane : Option LaneId → Next → Type 0
IsOfLane lane (next.Call job) = lane ≡ Some job.lane
IsOfLane lane _ = Unit {0}

either_of : (lane : Option LaneId) (b : Bool) (one other : Next) → IsOfLane lane one → IsOfLane lane other → IsOfLane lane (cond b one other)
either_of lane true one other i j = i
either_of lane false one other i j = j

call_of_lane : (s : Setting) (h : List Entry) (lane : LaneId) (m : ℕ) (window : Option ℕ) → IsOfLane (Some lane) (next_call s h lane m window)
call_of_lane s h lane m None = either_of (Some lane) (is_group_ready s h lane m (group s h lane) (batch s h lane m)) _ _ refl tt
call_of_lane s h lane m (Some window) = refl

allowed_of_lane : (s : Setting) (h : List Entry) (lane : LaneId) (m : ℕ) → IsOfLane (Some lane) (next_allowed s h lane m)
allowed_of_lane s h lane m =
    either_of (Some lane) (nat_le s.calls (calls_begun h)) next.Spent _ tt
    (either_of (Some lane) (nat_lt m (delay_end s h lane)) (next.Idle (delay_end s h lane)) (next_call s h lane m (least (due_windows s h lane.shard))) tt (call_of_lane s h lane m (least (due_windows s h lane.shard))))

quiet_of_lane : (s : Setting) (h : List Entry) (lane : LaneId) (m : ℕ) (places : List ℕ) → IsOfLane (Some lane) (next_quiet s h lane m places)
quiet_of_lane s h lane m (i ∷ places) = allowed_of_lane s h lane m
quiet_of_lane s h lane m [] =
    either_of (Some lane) (is_shut h && is_nothing (outstanding s h lane.shard)) next.Finished _ tt
    (either_of (Some lane) (is_nothing (due_windows s h lane.shard)) (next.Idle (moment_after m 20)) (next_allowed s h lane m) tt (allowed_of_lane s h lane m))

in_lane : (s : Setting) (h : List Entry) (m : ℕ) (lane : Option LaneId) → IsOfLane lane (next_in s h m lane)
in_lane s h m None = either_of None (is_shut h) next.Finished (next.Idle (moment_after m 20)) tt tt
in_lane s h m (Some lane) =
    either_of (Some lane) (is_front_expired s h lane m) _ (next_quiet s h lane m (open_places s h lane)) tt (quiet_of_lane s h lane m (open_places s h lane))

runs_of : (v w : CoreView) (batcher m : ℕ) (n : Next) → w.past ≡ reverse (next_adds v batcher m n) ++ v.past → IsOfLane (lane_of_batcher v.setting v.past batcher) n → RunsCall batcher v w n
runs_of v w batcher m (next.Call job) is own =
    (own, subst (λ (past : List Entry). IsRunningJob past job) (sym is) (record { runs = rw (same_lane-refl job.lane) refl; places = rw (same_lane-refl job.lane) refl }))
runs_of v w batcher m (next.Gave count) is own = tt
runs_of v w batcher m (next.Idle until) is own = tt
runs_of v w batcher m next.Spent is own = tt
runs_of v w batcher m next.Finished is own = tt

pub runs_call : (v w : CoreView) (batcher moment : ℕ) (n : Next) → IsNextOver v batcher (moment_for v.past moment) n → w.past ≡ reverse (next_adds v batcher (moment_for v.past moment) (next_now v batcher moment)) ++ v.past → RunsCall batcher v w n
runs_call v w batcher moment n over is =
    let m = moment_for v.past moment in
    let same : n ≡ next_now v batcher moment = over v.setting.streams (λ k i r at. at) in
    subst (RunsCall batcher v w) (sym same) (runs_of v w batcher m (next_now v batcher moment) is (in_lane v.setting v.past m (lane_of_batcher v.setting v.past batcher)))
