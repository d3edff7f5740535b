-- The life of a stream's mapping: its runs and its replays, however each of them stopped, and the lists that were written in
-- place of its journal's content between them. The newest stage comes first. This product's own.
use Rattle.std.specs.Prelude.{◌≡◌, ◌⊎◌, ℕ, ◌+◌, ◌<◌, ◌≤◌, ◌==◌, ◌&&◌, Bool, true, false, IsTrue, IsSome, List, [], ◌∷◌, ◌++◌, length, Option, Some, None, is_some, option_map, reverse, take_while, if◌then◌else◌}
use Rattle.std.specs.List.{list_any, list_all}
use Rattle.esm_book.specs.Hand.{is_end}
use Rattle.esm_model.specs.Records.{Record}
use Rattle.esm_model.specs.declared.lane.LaneId.{LaneId}
use Rattle.esm_model.specs.declared.entry.Fate.{Fate}
use Rattle.esm_model.specs.declared.entry.WindowState.{WindowState}
use Rattle.esm_model.specs.declared.entry.Entry.{Entry}
use Rattle.esm_model.specs.declared.entry.Entry.TheVariants.{Began, Gave}
use Rattle.esm_model.specs.Setting.{Setting, record_at}
use Rattle.esm_model.specs.Entries.{holds, came_count}
use Rattle.esm_model.specs.Fates.{below, names_place}
use Rattle.esm_model.specs.Checkpoint.{checkpoint}
use Rattle.esm_model.specs.Step.{Legal}
use Rattle.esm_model.specs.Earned.{IsEarned}
use Rattle.esm_journal_record.specs.declared.said.Said.{Said}
use Rattle.esm_journal_record.specs.declared.said.Said.TheVariants.{Fates}
use Rattle.esm_journal_record.specs.EntryPayload.{AllMayBeSaid}
use Rattle.esm_journal_state.specs.declared.kept.KeptFate.{KeptFate}
use Rattle.esm_journal_state.specs.Meaning.{fate_said, history, are_good, replayed_said, text_named}
use Rattle.esm_journal_state.specs.Compact.{SameSaid}
use Rattle.esm_history.specs.Content.{IsOpenedOver, content_after}
use Rattle.esm_replay_life.specs.ReplayLife.{IsReplayRunOver, ReplayRun, replays_naming}
use Rattle.esm_replay_model.specs.ReplayReport.{is_replayed}

-- a run: what happened in it, and what its journal kept of that
pub record Run : Type 0 where
  pub setting : Setting
  pub happened : List Entry
  pub recorded : List Entry

-- a run, a replay, or a list of payloads (oldest first) that was written in place of the content
pub data Stage : Type 0 where
  Ran : Run → Stage
  Replay : ReplayRun → Stage
  Rewritten : List (List ℕ) → Stage

-- the journal's content after the stages; it begins empty
abbrev pub content : List Stage → List (List ℕ)
content [] = []
content (Ran r ∷ stages) = content_after r.setting r.recorded (content stages)
content (Replay r ∷ stages) = content stages ++ r.left
content (Rewritten list ∷ stages) = list

-- what a run may leave

-- an entry was in hand when a disk failed: it may follow a prefix of what happened that only ends of calls and of the input
-- follow
pub record HasHand (happened recorded : List Entry) : Type 0 where
  pub hand : Entry
  pub before : List Entry
  pub later : List Entry
  pub recorded_is : recorded ≡ hand ∷ before
  pub happened_is : happened ≡ later ++ before
  pub ends : list_all is_end later ≡ true

-- the journal kept a prefix of what happened, or a prefix and the entry in hand
abbrev pub IsRecorded : (happened recorded : List Entry) → Type 0
IsRecorded happened recorded = ((lost : List Entry) × (happened ≡ lost ++ recorded)) ⊎ HasHand happened recorded

-- the run found this content, and both what happened in it and what its journal kept are legal
pub record IsRunOver (r : Run) (old : List (List ℕ)) : Type 0 where
  pub opened : IsOpenedOver r.setting old
  pub legal : Legal r.setting r.happened
  pub legal_recorded : Legal r.setting r.recorded
  pub may_be_said : AllMayBeSaid r.setting r.recorded
  pub kept : IsRecorded r.happened r.recorded

-- the list says what the content says, and its payloads are good
pub record SaysTheSame (list old : List (List ℕ)) : Type 0 where
  pub same : SameSaid (history (reverse list)) (history (reverse old))
  pub good : are_good (reverse list) ≡ true

-- each run and each replay found what the stages before it left, and each list says what they left
abbrev pub IsLife : List Stage → Type 0
IsLife [] = Unit {0}
IsLife (Ran r ∷ stages) = IsLife stages × IsRunOver r (content stages)
IsLife (Replay r ∷ stages) = IsLife stages × IsReplayRunOver r (content stages)
IsLife (Rewritten list ∷ stages) = IsLife stages × SaysTheSame list (content stages)

-- what is recorded

-- the fate of the shard's place by the content
abbrev pub recorded_fate : List Stage → ℕ → ℕ → Option Fate
recorded_fate life n i = option_map (λ (k : KeptFate). k.fate) (fate_said (history (reverse (content life))) n i)

-- the longest prefix of the shard's first `count` records in which each has a fate by the content
abbrev pub recorded_checkpoint : List Stage → ℕ → ℕ → ℕ
recorded_checkpoint life n count = length (take_while (λ i. is_some (recorded_fate life n i)) (below count))

-- replays and lists, but no run
abbrev pub AreBetween : List Stage → Type 0
AreBetween [] = Unit {0}
AreBetween (Ran r ∷ stages) = ⊥
AreBetween (Replay r ∷ stages) = AreBetween stages
AreBetween (Rewritten list ∷ stages) = AreBetween stages

-- laws

-- a recorded fate stays
abbrev pub FateStays : (later before : List Stage) → Type 0
FateStays later before = (n i : ℕ) (f : Fate) → recorded_fate before n i ≡ Some f → recorded_fate (later ++ before) n i ≡ Some f

-- The run gave the place this fate, which was earned by what had happened in the run before that.
pub record IsGivenIn (r : Run) (n i : ℕ) (f : Fate) : Type 0 where
  pub later : List Entry
  pub before : List Entry
  pub lost : List Entry
  pub by : Option LaneId
  pub places : List ℕ
  pub line : Option (List ℕ)
  pub state : Option WindowState
  pub moment : ℕ
  pub gave : r.recorded ≡ later ++ Gave by n places f line state moment ∷ before
  pub named : IsTrue (holds places i)
  pub happened : r.happened ≡ lost ++ before
  pub earned : IsEarned r.setting before by n places f moment

-- a fate that is recorded after a run, and was not recorded before it, was given in the run
abbrev pub EachIsEarned : Run → List Stage → Type 0
EachIsEarned r before = (n i : ℕ) (f : Fate) → recorded_fate before n i ≡ None → recorded_fate (Ran r ∷ before) n i ≡ Some f → IsGivenIn r n i f

-- no call of the run holds a record that had a recorded fate when the run began, or was given one in it before the call
abbrev pub NoneIsCalledAgain : Run → List Stage → Type 0
NoneIsCalledAgain r before =
    (later earlier : List Entry) (lane : LaneId) (places : List ℕ) (closing : Option ℕ) (m : ℕ) → r.happened ≡ later ++ Began lane places closing m ∷ earlier
    → (i : ℕ) → IsTrue (holds places i)
    → (recorded_fate before lane.shard i ≡ None) × (list_any (names_place lane.shard i) earlier ≡ false)

-- a call of the run holds a record only if each earlier record of the same key had a recorded fate when the run began, was
-- given one in it before the call, or is in the same batch
abbrev pub KeysInOrder : Run → List Stage → Type 0
KeysInOrder r before =
    (later earlier : List Entry) (lane : LaneId) (places : List ℕ) (closing : Option ℕ) (m : ℕ) → r.happened ≡ later ++ Began lane places closing m ∷ earlier
    → (i j : ℕ) (one other : Record) → record_at r.setting lane.shard i ≡ Some one → record_at r.setting lane.shard j ≡ Some other → other.key ≡ one.key
    → IsTrue (holds places i) → j < i
    → IsTrue (holds places j) ⊎ (IsSome (recorded_fate before lane.shard j) ⊎ IsTrue (list_any (names_place lane.shard j) earlier))

abbrev pub fates_after : ℕ → ℕ → ℕ → Said → ℕ
fates_after n i before (Fates shard fate moment state places texts) = (if (shard == n) && is_some (text_named places texts i) then 1 else 0) + before
fates_after n i before _ = before

-- how many payloads of kind 1 name the record
abbrev pub fates_naming : List Said → ℕ → ℕ → ℕ
fates_naming [] n i = 0
fates_naming (s ∷ h) n i = fates_after n i (fates_naming h n i) s

-- at most one payload of the content says the fate of a record
abbrev pub EachFateOnce : List Stage → Type 0
EachFateOnce life = (n i : ℕ) → fates_naming (history (reverse (content life))) n i ≤ 1

-- at most one payload of the content says that a record was replayed
abbrev pub EachReplayedOnce : List Stage → Type 0
EachReplayedOnce life = (n i : ℕ) → replays_naming (history (reverse (content life))) n i ≤ 1

-- the record was replayed, by the content
abbrev pub is_recorded_replayed : List Stage → ℕ → ℕ → Bool
is_recorded_replayed life n i = replayed_said (history (reverse (content life))) n i

-- a record that is recorded as replayed stays so
abbrev pub ReplaysStay : (later before : List Stage) → Type 0
ReplaysStay later before = (n i : ℕ) → is_recorded_replayed before n i ≡ true → is_recorded_replayed (later ++ before) n i ≡ true

-- no call of the replay holds a record that was recorded as replayed when the replay began, or that it replayed before the
-- call
abbrev pub NoneIsReplayedAgain : ReplayRun → List Stage → Type 0
NoneIsReplayedAgain r before =
    (later earlier : List Entry) (lane : LaneId) (places : List ℕ) (closing : Option ℕ) (m : ℕ) → r.hand ++ r.happened ≡ later ++ Began lane places closing m ∷ earlier
    → (i : ℕ) → IsTrue (holds places i)
    → (is_recorded_replayed before lane.shard i ≡ false) × (is_replayed earlier lane.shard i ≡ false)

-- the checkpoint by the content never falls, however many more records there are
abbrev pub CheckpointStays : (later before : List Stage) → Type 0
CheckpointStays later before = (n count more : ℕ) → count ≤ more → recorded_checkpoint before n count ≤ recorded_checkpoint (later ++ before) n more

-- after a run, it is the checkpoint of what the run's journal kept
abbrev pub CheckpointIsRuns : Run → List Stage → Type 0
CheckpointIsRuns r before = (n : ℕ) → recorded_checkpoint (Ran r ∷ before) n (came_count r.recorded n) ≡ checkpoint r.setting r.recorded n
