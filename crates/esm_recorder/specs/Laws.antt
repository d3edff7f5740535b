-- What the logs of recorders say about the callers below them. This product's own.
use Rattle.std.specs.Prelude.{◌≡◌, ◌<◌, ℕ, Bool, List, [], length, map, slice_index_or, Option, Some, IfSome}
use Rattle.std.specs.List.{All}
use Rattle.esm_io.specs.Told.{Grows}
use Rattle.esm_model.specs.declared.called.Called.{Called}
use Rattle.esm_model.specs.declared.entry.Reply.{Reply}
use Rattle.esm_recorder.specs.Recorder.{RecorderState, IsRecorder, all_kept, log_of, new_recorder, replies_to}

-- These calls were made between the old caller and the recorder: the log of the caller below grew by them, and the replies
-- that are kept are the replies to them.
pub record HasMade {F : Type 0} (log : F → Option (List Called)) (old : F) (new : RecorderState F) (calls : List Called) : Type 0 where
  pub below : Grows (log old) (log new.caller) calls
  pub kept : IfSome new.kept (λ replies. replies ≡ replies_to calls)

-- the calls by which the log of a new recorder grew were made
abbrev pub LogTells : {F : Type 0} → (F → Option (List Called)) → Type 0
LogTells {F} log = (keeps : Bool) (old : F) (new : RecorderState F) (calls : List Called) → IsRecorder log new
    → Grows (log_of log (new_recorder keeps old)) (log_of log new) calls → HasMade log old new calls

-- the same for the callers of a run, each by its number
abbrev pub LogsTell : {F : Type 0} → (F → Option (List Called)) → Type 0
LogsTell {F} log = (keeps : Bool) (old : List F) (new : List (RecorderState F)) → All (IsRecorder log) new → length new ≡ length old
    → (k : ℕ) (d : F) (e : RecorderState F) (calls : List Called) → k < length old
    → Grows (log_of log (slice_index_or (map (new_recorder keeps) old) k e)) (log_of log (slice_index_or new k e)) calls
    → Grows (log (slice_index_or old k d)) (log (slice_index_or (map (λ (r : RecorderState F). r.caller) new) k d)) calls

-- and if each kept its replies, the lists of them are the replies to the calls
abbrev pub ListsTell : {F : Type 0} → (F → Option (List Called)) → Type 0
ListsTell {F} log = (keeps : Bool) (old : List F) (new : List (RecorderState F)) → All (IsRecorder log) new → length new ≡ length old
    → (lists : List (List Reply)) → all_kept new ≡ Some lists
    → (k : ℕ) (e : RecorderState F) (calls : List Called) → k < length old
    → Grows (log_of log (slice_index_or (map (new_recorder keeps) old) k e)) (log_of log (slice_index_or new k e)) calls
    → slice_index_or lists k [] ≡ replies_to calls
