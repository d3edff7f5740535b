-- What a replay does next, and what the end of a call adds. This product's own.
use Rattle.std.specs.Prelude.{ℕ, nat_le, List, [], ◌∷◌, length, None, if◌then◌else◌}
use Rattle.esm_model.specs.declared.lane.LaneId.{LaneId}
use Rattle.esm_model.specs.declared.book.Job.{Job}
use Rattle.esm_model.specs.declared.entry.Reply.{Reply}
use Rattle.esm_model.specs.declared.entry.Entry.{Entry}
use Rattle.esm_model.specs.declared.entry.Entry.TheVariants.{Began, Ended, Replayed}
use Rattle.esm_model.specs.Entries.{calls_begun}
use Rattle.esm_replay_model.specs.ReplaySetting.{ReplaySetting}
use Rattle.esm_replay_model.specs.Pieces.{ReplayPiece, next_call, replay_event, succeeded_of}
use Rattle.esm_replay_model.specs.ReplayRun.{replay_lane, call_out, pieces_left}
use Rattle.esm_replay_core.specs.declared.decisions.ReplayNext.{ReplayNext}
use Rattle.esm_replay_core.specs.declared.decisions.ReplayNext.TheVariants as next

abbrev pub job_of : ReplaySetting → ReplayPiece → Job
job_of s p = record { lane = replay_lane p.shard; places = p.places; closing = None; event = replay_event s p }

-- the first rule that holds: nothing is left to call; all calls allowed were made; otherwise the next call
abbrev pub next_by : ReplaySetting → List Entry → List ReplayPiece → ReplayNext
next_by s h [] = next.Finished
next_by s h (p ∷ others) = if nat_le s.base.calls (calls_begun h) then next.Spent else next.Call (job_of s (next_call s (p ∷ others)))

abbrev pub next_of : ReplaySetting → List Entry → ReplayNext
next_of s h = next_by s h (pieces_left s h)

-- the entry that the answer adds: the beginning of a call
abbrev pub next_entries : ReplayNext → ℕ → List Entry
next_entries next.Spent m = []
next_entries next.Finished m = []
next_entries (next.Call job) m = Began job.lane job.places None m ∷ []

-- the `Replayed` of the records that succeeded, if there are any
abbrev pub replayed_entries : ℕ → List ℕ → ℕ → List Entry
replayed_entries n [] m = []
replayed_entries n (i ∷ places) m = Replayed n (i ∷ places) m ∷ []

-- the end of the running call, and then what is replayed
abbrev pub done_entries : ReplaySetting → List Entry → LaneId → Reply → ℕ → List Entry
done_entries s h lane reply m = Ended lane reply m ∷ replayed_entries (succeeded_of s (call_out h) reply).shard (succeeded_of s (call_out h) reply).places m

abbrev pub done_count : ReplaySetting → List Entry → Reply → ℕ
done_count s h reply = length (succeeded_of s (call_out h) reply).places
