-- What a run of a stream's reader and batchers leaves. This product's own.
use Rattle.std.specs.Prelude.{◌≡◌, ◌<◌, ◌⊎◌, ◌++◌, ℕ, Bool, true, false, List, [], length, slice_get, slice_index_or, Option, Some, None, IsSome}
use Rattle.esm_io.specs.Told.{Grows, TakesFront}
use Rattle.esm_model.specs.Records.{Record}
use Rattle.esm_model.specs.declared.book.Change.{Change}
use Rattle.esm_model.specs.declared.book.Trouble.{Trouble}
use Rattle.esm_model.specs.declared.book.Trouble.TheVariants.{Changed}
use Rattle.esm_model.specs.declared.entry.Entry.{Entry}
use Rattle.esm_model.specs.declared.lane.LaneId.{LaneId}
use Rattle.esm_model.specs.Setting.{Setting, over}
use Rattle.esm_model.specs.Entries.{came_count, calls_begun, is_running}
use Rattle.esm_model.specs.Fates.{fate}
use Rattle.esm_model.specs.Windows.{is_outstanding}
use Rattle.esm_model.specs.Calls.{calls}
use Rattle.esm_ingest.specs.Changes.{first_change}
use Rattle.esm_ingest.specs.Coming.{of_shard}
use Rattle.esm_input.specs.declared.ending.InputEnd.{InputEnd}
use Rattle.esm_input.specs.Positions.{from_start}
use Rattle.esm_input.specs.Reading.{InputState, items_read, handed}
use Rattle.esm_stream_book.specs.Books.{BookState}
use Rattle.esm_stream_book.specs.Moments.{IsTimedView}
use Rattle.esm_pool.specs.declared.running.RunEnd.{RunEnd}
use Rattle.esm_pool.specs.declared.running.RunEnd.TheVariants.{Finished, Spent, Down}
use Rattle.esm_runner.specs.Given.{AreGiven}
use Rattle.esm_runner.specs.Coming.{records_in_items, SomeCame, AllCame}
use Rattle.esm_workers.specs.Working.{Outside}
use Rattle.esm_runner.specs.Stopping.{HasLogged}

-- no lane has a call that has not ended
abbrev pub NoneRuns : List Entry → Type 0
NoneRuns h = (lane : LaneId) → is_running h lane ≡ false

-- the run took a book with an empty history, and its callers, from `before` and `old` to `after` and `new`
pub record HasRun {D T F : Type 0} (o : Outside F) (before after : BookState D T) (old new : List F) : Type 0 where
  -- what the book was opened with stays
  pub opened : after.core.setting ≡ over before.core.setting after.core.setting.streams
  pub found : after.found ≡ before.found
  pub found_dest : after.found_dest ≡ before.found_dest
  -- each moment is one that the clock gave, or that of the entry before if that is later
  pub moments : AreGiven o.gave after.core.past
  -- and so is that of each entry that was not added because a device failed
  pub timed : IsTimedView o.gave after.core
  -- every call has ended
  pub rests : NoneRuns after.core.past
  -- caller k's log, if it is visible, grew by the calls of batcher k
  pub as_many : length new ≡ length old
  pub calls_made : (k : ℕ) (d : F) → k < length old → Grows (o.log (slice_index_or old k d)) (o.log (slice_index_or new k d)) (calls after.core.setting o.sends after.core.past k)

-- the same, as far as the run got before memory ran out; a device may have failed as well
pub record HasStopped {D T F : Type 0} (o : Outside F) (before after : BookState D T) (old new : List F) : Type 0 where
  pub opened : after.core.setting ≡ over before.core.setting after.core.setting.streams
  pub found : after.found ≡ before.found
  pub found_dest : after.found_dest ≡ before.found_dest
  pub moments : AreGiven o.gave after.core.past
  pub timed : IsTimedView o.gave after.core
  -- caller k's log, if it is visible, grew by the calls of batcher k, and perhaps by one further call of a lane that still
  -- runs
  pub as_many : length new ≡ length old
  pub calls_made : (k : ℕ) (d : F) → k < length old → HasLogged o.sends after.core.setting after.core.past k (o.log (slice_index_or old k d)) (o.log (slice_index_or new k d))

-- how it ended

-- every record that arrived has its fate
abbrev pub AllFated : Setting → List Entry → Type 0
AllFated s h = (n i : ℕ) → i < came_count h n → IsSome (fate s h n i)

-- no tumbling window is outstanding
abbrev pub NoneOutstanding : Setting → List Entry → Type 0
NoneOutstanding s h = (n w : ℕ) → is_outstanding s h n w ≡ false

-- a record that arrived has no fate
pub record HasOpen (s : Setting) (h : List Entry) : Type 0 where
  pub shard : ℕ
  pub place : ℕ
  pub came : place < came_count h shard
  pub no_fate : fate s h shard place ≡ None

-- a window is outstanding
pub record HasOutstanding (s : Setting) (h : List Entry) : Type 0 where
  pub shard : ℕ
  pub window : ℕ
  pub outstanding : is_outstanding s h shard window ≡ true

-- the reading of the input ended, and a record is open or a window outstanding; or the input had not ended, if it does not
-- show its bytes
abbrev pub IsUnfinished : Setting → List Entry → (reading : Option InputEnd) → (bytes_left : Option (List ℕ)) → Type 0
IsUnfinished s h reading bytes_left = (IsSome reading × (HasOpen s h ⊎ HasOutstanding s h)) ⊎ ((reading ≡ None) × (bytes_left ≡ None))

-- `Finished`: each record that arrived has its fate, and no window is outstanding; `Spent`: all calls allowed began, and a
-- record is open, or a window outstanding, or the input had not ended; `Down`: the book is down
abbrev pub EndsSo : {S D T : Type 0} → (left : S → Option (List ℕ)) → InputState S → BookState D T → RunEnd → Type 0
EndsSo left i b Finished = (b.trouble ≡ None) × AllFated b.core.setting b.core.past × NoneOutstanding b.core.setting b.core.past
EndsSo left i b Spent = (b.trouble ≡ None) × (calls_begun b.core.past ≡ b.core.setting.calls) × IsUnfinished b.core.setting b.core.past i.end (left i.source)
EndsSo left i b Down = IsSome b.trouble

-- the change is of one of these records: the one at that place of its shard, with the number that it names as given
pub record IsOfRecord (records : List Record) (change : Change) : Type 0 where
  pub item : Record
  pub at : slice_get (of_shard change.shard records) change.place ≡ Some item
  pub given : item.seq ≡ change.given

-- the first of these records that differs from what the journal kept of its place is this change
abbrev pub IsFirstChange : Setting → List Record → Change → Type 0
IsFirstChange s records change = first_change s [] records ≡ Some change

abbrev pub IsDownFor : Setting → List Record → Option Trouble → Type 0
IsDownFor s records (Some (Changed change)) = IsOfRecord records change × IsFirstChange s records change
IsDownFor s records _ = Unit {0}

-- the records of the input that arrived: all that the input returned, if it was read to an end or was left once all calls
-- allowed began; a prefix of them if the book went down
abbrev pub CameSo : {S D T : Type 0} → InputState S → BookState D T → RunEnd → Type 0
CameSo i b Finished = AllCame b (records_in_items (handed i)) × IsSome i.end
CameSo i b Spent = AllCame b (records_in_items (handed i))
CameSo i b Down = SomeCame b (records_in_items (handed i)) × IsDownFor b.core.setting (records_in_items (handed i)) b.trouble

-- Memory ran out: these bytes were read, the records of their lines or a prefix of them arrived, and more bytes may have
-- been read after them.
pub record IsCutInput {S D T : Type 0} (left : S → Option (List ℕ)) (i : InputState S) (b : BookState D T) : Type 0 where
  pub bytes : List ℕ
  pub more : List ℕ
  pub whole : Bool
  pub taken : TakesFront (left i.found) (left i.source) (bytes ++ more)
  pub came : SomeCame b (records_in_items (from_start i.start (items_read i.kind i.factor whole bytes).items))
