-- The laws that hold of every run of a replay, which has its newest entry first.
use Rattle.std.specs.Prelude.{◌≡◌, ◌⊎◌, ◌||◌, ℕ, ◌+◌, ◌*◌, ◌≤◌, true, false, IsTrue, List, [], ◌∷◌, ◌++◌, length, reverse, take, Option, None}
use Rattle.esm_model.specs.declared.lane.LaneId.{LaneId}
use Rattle.esm_model.specs.declared.entry.Entry.{Entry}
use Rattle.esm_model.specs.declared.entry.Entry.TheVariants.{Began, Ended, Replayed}
use Rattle.esm_model.specs.declared.entry.Reply.{Reply}
use Rattle.esm_model.specs.declared.verdict.Rest.{Rest}
use Rattle.esm_model.specs.declared.verdict.Rest.TheVariants as rest
use Rattle.esm_model.specs.Entries.{holds, calls_begun}
use Rattle.esm_journal_record.specs.EntryPayload.{history_payloads}
use Rattle.esm_journal_state.specs.Meaning.{history, fate_said, tries_said, replayed_said}
use Rattle.esm_replay_model.specs.ReplaySetting.{ReplaySetting, is_named}
use Rattle.esm_replay_model.specs.Pieces.{piece, replay_verdict, succeeded_of, remaining_of}
use Rattle.esm_replay_model.specs.ReplayRun.{replay_lane, call_out, owed_replay, pieces_left, replay_calls}
use Rattle.esm_replay_model.specs.ReplayReport.{is_replayed, replayed_in, named_count, replayed_count, left_count}

-- each record of a `Replayed` is named, and no earlier `Replayed` has it, so a record is replayed at most once
abbrev pub ReplayedOnce : ReplaySetting → List Entry → Type 0
ReplayedOnce s h =
    (later before : List Entry) (shard : ℕ) (places : List ℕ) (m : ℕ) → h ≡ later ++ Replayed shard places m ∷ before
    → (i : ℕ) → IsTrue (holds places i) → (is_named s shard i ≡ true) × (is_replayed before shard i ≡ false)

-- a call has only named records, and none that an earlier `Replayed` has
abbrev pub CallsNamed : ReplaySetting → List Entry → Type 0
CallsNamed s h =
    (later before : List Entry) (lane : LaneId) (places : List ℕ) (closing : Option ℕ) (m : ℕ) → h ≡ later ++ Began lane places closing m ∷ before
    → (i : ℕ) → IsTrue (holds places i) → (is_named s lane.shard i ≡ true) × (is_replayed before lane.shard i ≡ false)

-- a `Replayed` follows the end of a call, and names exactly the records of its batch that the answer counts as succeeded
pub record IsAnswered (s : ReplaySetting) (shard : ℕ) (places : List ℕ) (before : List Entry) : Type 0 where
  pub earlier : List Entry
  pub batch : List ℕ
  pub reply : Reply
  pub began : ℕ
  pub ended : ℕ
  pub call : before ≡ Ended (replay_lane shard) reply ended ∷ Began (replay_lane shard) batch None began ∷ earlier
  pub exact : places ≡ take (replay_verdict s (piece shard batch) reply).succeeded batch

abbrev pub ReplayedAsAnswered : ReplaySetting → List Entry → Type 0
ReplayedAsAnswered s h =
    (later before : List Entry) (shard : ℕ) (places : List ℕ) (m : ℕ) → h ≡ later ++ Replayed shard places m ∷ before → IsAnswered s shard places before

-- at most two calls for each named record
abbrev pub CallsWithin : ReplaySetting → List Entry → Type 0
CallsWithin s h = calls_begun h ≤ 2 * named_count s

-- what remains of a call is not split, so that nothing of it is called again
abbrev pub IsNoSplit : Rest → Type 0
IsNoSplit rest.Nothing = Unit {0}
IsNoSplit rest.Again = Unit {0}
IsNoSplit rest.Counted = Unit {0}
IsNoSplit (rest.Split count) = ⊥
IsNoSplit rest.Exhausted = Unit {0}

-- The last call of the record left it: the record remained by its reply, what remained was not split, and no later call has
-- the record.
pub record LeftByLast (s : ReplaySetting) (h : List Entry) (n i : ℕ) : Type 0 where
  pub later : List Entry
  pub before : List Entry
  pub reply : Reply
  pub moment : ℕ
  pub is : h ≡ later ++ Ended (replay_lane n) reply moment ∷ before
  pub remains : IsTrue (holds (remaining_of s (call_out before) reply) i)
  pub no_split : IsNoSplit (replay_verdict s (call_out before) reply).rest
  pub last : (after between : List Entry) (lane : LaneId) (places : List ℕ) (closing : Option ℕ) (m : ℕ) → later ≡ after ++ Began lane places closing m ∷ between
      → lane.shard ≡ n → IsTrue (holds places i) → ⊥

-- each named record was replayed or its last call left it
abbrev pub AllReplayedOrLeft : ReplaySetting → List Entry → Type 0
AllReplayedOrLeft s h = (n i : ℕ) → is_named s n i ≡ true → (is_replayed h n i ≡ true) ⊎ LeftByLast s h n i

-- once nothing is left to call and what succeeded is replayed, each named record was replayed, or its last call left it
abbrev pub ReplayedOrLeft : ReplaySetting → List Entry → Type 0
ReplayedOrLeft s h = pieces_left s h ≡ [] → (owed_replay s h).places ≡ [] → AllReplayedOrLeft s h

-- All that the reply to a call counts as succeeded is replayed next, unless the history ends with the reply.
abbrev pub SucceededAreReplayed : ReplaySetting → List Entry → Type 0
SucceededAreReplayed s h =
    (later before : List Entry) (e : Entry) (lane : LaneId) (reply : Reply) (m : ℕ) → h ≡ later ++ e ∷ Ended lane reply m ∷ before
    → 1 ≤ length (succeeded_of s (call_out before) reply).places → e ≡ Replayed (call_out before).shard (succeeded_of s (call_out before) reply).places m

-- The counts of the report add up: the records that the run replays are named ones, each counted once, and together with
-- those that are left they are all the named ones.
pub record CountsAddUp (s : ReplaySetting) (h : List Entry) : Type 0 where
  pub replayed : replayed_in h ≡ replayed_count s h
  pub all : replayed_count s h + left_count s h ≡ named_count s

-- when no call is running, the caller's log has as many calls as began
abbrev pub CallsLogged : ReplaySetting → (List ℕ → List ℕ) → List Entry → Type 0
CallsLogged s sends h = (call_out h).places ≡ [] → length (replay_calls s sends h) ≡ calls_begun h

-- After the payloads of the history were added to a content, its fates and tries are as before, and the records replayed are
-- those from before and those that the history replays. The oldest payload is first.
pub record SaysAfter (s : ReplaySetting) (h : List Entry) (old : List (List ℕ)) : Type 0 where
  pub fates : (n i : ℕ) → fate_said (history (reverse (old ++ history_payloads s.base h))) n i ≡ fate_said (history (reverse old)) n i
  pub tries : (n i : ℕ) → tries_said (history (reverse (old ++ history_payloads s.base h))) n i ≡ tries_said (history (reverse old)) n i
  pub replays : (n i : ℕ) → replayed_said (history (reverse (old ++ history_payloads s.base h))) n i ≡ (replayed_said (history (reverse old)) n i || is_replayed h n i)
