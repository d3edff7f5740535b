-- A replay's book as its one caller uses it, and how it changes over time. This product's own.
use Rattle.std.specs.Prelude.{◌≡◌, ◌++◌, ℕ, Bool, true, List, [], ◌∷◌, map, is_some, Option, None, ⊤}
use Rattle.esm_model.specs.declared.book.Change.{Change}
use Rattle.esm_model.specs.declared.book.Job.{Job}
use Rattle.esm_model.specs.declared.called.Called.{Called}
use Rattle.esm_model.specs.declared.entry.Entry.{Entry}
use Rattle.esm_model.specs.Records.{Record}
use Rattle.esm_model.specs.declared.item.Item.{Item}
use Rattle.esm_model.specs.declared.item.Item.TheVariants.{Stream, Queue}
use Rattle.esm_model.specs.declared.item.LineKind.{LineKind}
use Rattle.esm_model.specs.declared.item.LineKind.TheVariants as kinds
use Rattle.esm_model.specs.Entries.{moment_of, calls_begun}
use Rattle.esm_model.specs.Kept.{change_of}
use Rattle.esm_replay.specs.Records.{of_shard}
use Rattle.esm_replay_model.specs.ReplayRun.{call_out, pieces_left, replay_calls}
use Rattle.esm_model.specs.declared.book.Next.{Next}
use Rattle.esm_model.specs.declared.book.Next.TheVariants as next
use Rattle.esm_replay_core.specs.declared.decisions.ReplayNext.{ReplayNext}
use Rattle.esm_replay_core.specs.declared.decisions.ReplayNext.TheVariants as replays
use Rattle.esm_replay_core.specs.View.{setting_of, moment_for}
use Rattle.esm_replay.specs.Coming.{first_change}
use Rattle.esm_replay_book.specs.Books.{BookState}
use Rattle.esm_replay_book.specs.Calls.{IsFirstChange, IsJob}

-- the moment is one that the clock gave, or that of the entry before if it is later, and at most `MAX_MOMENT`
abbrev pub IsGiven : (ℕ → Bool) → List Entry → ℕ → Type 0
IsGiven gave h m = (t : ℕ) × (gave t ≡ true) × (m ≡ moment_for h t)

-- so is each moment of a history, newest entry first
abbrev pub AreGiven : (ℕ → Bool) → List Entry → Type 0
AreGiven gave [] = ⊤
AreGiven gave (e ∷ h) = AreGiven gave h × IsGiven gave h (moment_of e)

-- none of the records that arrived was kept with another text
abbrev pub IsUnchanged : {D : Type 0} → BookState D → Type 0
IsUnchanged b = first_change b.core.opened.said [] b.core.records ≡ None

-- the book changed from `first` to `now`, and these calls ended in between, oldest first, as a caller logs them
pub record HasGoneOn {D : Type 0} (gave : ℕ → Bool) (sends : List ℕ → List ℕ) (first now : BookState D) (calls : List Called) : Type 0 where
  -- what the book was opened with is unchanged
  pub opened : now.core.opened ≡ first.core.opened
  pub found : now.found ≡ first.found
  -- the records that arrived are as they were kept
  pub unchanged : IsUnchanged first → IsUnchanged now
  -- each moment is one that the clock gave, or that of the entry before it if it is later
  pub moments : AreGiven gave first.core.past → AreGiven gave now.core.past
  pub called : replay_calls (setting_of now.core) sends now.core.past ≡ replay_calls (setting_of first.core) sends first.core.past ++ calls

-- the book is as it was opened
pub record IsFresh {D : Type 0} (b : BookState D) : Type 0 where
  pub past : b.core.past ≡ []
  pub records : b.core.records ≡ []
  pub up : b.trouble ≡ None

-- no call began, so more records may arrive
abbrev pub IsGoing : {D : Type 0} → BookState D → Type 0
IsGoing b = b.core.past ≡ []

-- no call is running
abbrev pub DoesRest : {D : Type 0} → BookState D → Type 0
DoesRest b = (call_out b.core.past).places ≡ []

-- the job is the running call
abbrev pub RunsJob : {D : Type 0} → BookState D → Job → Type 0
RunsJob b job = IsJob (setting_of b.core) b.core.past job

-- nothing is left to call
abbrev pub HasFinished : {D : Type 0} → BookState D → Type 0
HasFinished b = pieces_left (setting_of b.core) b.core.past ≡ []

-- what a caller does next, in the terms that all books share
abbrev pub next_as : ReplayNext → Next
next_as (replays.Call job) = next.Call job
next_as replays.Spent = next.Spent
next_as replays.Finished = next.Finished

-- all calls allowed were made, and something is left to call
pub record IsSpent {D : Type 0} (b : BookState D) : Type 0 where
  pub calls : calls_begun b.core.past ≡ b.core.opened.calls
  pub left : pieces_left (setting_of b.core) b.core.past ≡ [] → ⊥

-- the end of the input is not an entry
abbrev pub IsShut : {D : Type 0} → BookState D → Type 0
IsShut b = Unit {0}

abbrev pub is_down : {D : Type 0} → BookState D → Bool
is_down b = is_some b.trouble

abbrev pub change_in : {D : Type 0} → BookState D → Option Change
change_in b = change_of b.trouble

abbrev pub lines_in : {D : Type 0} → BookState D → LineKind
lines_in b = kinds.Stream

abbrev pub function_in : {D : Type 0} → BookState D → List ℕ
function_in b = b.core.opened.config.function

-- a record as an item
abbrev pub item_of : Record → Item
item_of r = Stream r

-- the items of the shard that arrived, in their order
abbrev pub items_in : {D : Type 0} → BookState D → ℕ → List Item
items_in b n = map item_of (of_shard n b.core.records)

-- the records of items
abbrev pub records_in_items : List Item → List Record
records_in_items [] = []
records_in_items (Stream r ∷ items) = r ∷ records_in_items items
records_in_items (Queue m ∷ items) = records_in_items items

-- the item is a record
abbrev pub IsRecord : Item → Type 0
IsRecord (Stream r) = ⊤
IsRecord (Queue m) = ⊥

-- the first of the list's records that the journal kept with another text differs so
abbrev pub Differs : {D : Type 0} → BookState D → List Item → Change → Type 0
Differs b list change = IsFirstChange b.core (records_in_items list) change
