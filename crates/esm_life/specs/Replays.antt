-- A run of a replay as a stage of the life of its mapping. This product's own.
use Rattle.std.specs.Prelude.{◌≡◌, ◌∷◌, ◌++◌, ℕ, Bool, List, [], Option, None, reverse, filter_map}
use Rattle.esm_io.specs.Meanings.{DiskMeaning}
use Rattle.esm_folder.specs.Upkeep.{AreHonest}
use Rattle.esm_journal.specs.File.{header_of}
use Rattle.esm_journal.specs.Pair.{PairOpensTo}
use Rattle.esm_model.specs.declared.book.Trouble.{Trouble}
use Rattle.esm_model.specs.declared.config.Config.{Config}
use Rattle.esm_model.specs.declared.entry.Entry.{Entry}
use Rattle.esm_model.specs.Records.{Record}
use Rattle.esm_journal_record.specs.EntryPayload.{entry_payload, history_payloads}
use Rattle.esm_replay_model.specs.ReplaySetting.{ReplaySetting}
use Rattle.esm_replay.specs.Coming.{first_change}
use Rattle.esm_runner.specs.Files.{FilesState, IsOpenedFiles}
use Rattle.esm_replay_run.specs.Headline.{Disks, Headline, IsSettingOf}
use Rattle.esm_replay_life.specs.ReplayLife.{Added, IsLife as IsReplayLife, IsReplayRunOver, Replay as OneReplay, Rewritten as WrittenAnew, Stage as ReplayStage, content as replay_content}
use Rattle.esm_life.specs.Left.{ArePairLeft}
use Rattle.esm_life.specs.Life.{Ran, Replay, Rewritten, Stage, content}

-- A run whose headline holds is a replay over what was found, whatever prefix its journal kept of the payloads of its
-- history and of the entry in hand.
abbrev pub IsStage : {D : Type 0} → DiskMeaning D → (ℕ → Bool) → Config → (calls : ℕ) → FilesState D → (came : List Record) → ReplaySetting → List Entry → Option Trouble → (hand : List Entry) → Disks D → (left rest : List (List ℕ)) → Type 0
IsStage m gave config calls f came s h trouble hand new left rest =
    IsOpenedFiles m f → IsSettingOf config calls f came s → first_change f.said [] came ≡ None → Headline m gave f s h trouble hand new →
    left ++ rest ≡ filter_map (entry_payload s.base) (reverse h ++ hand) →
    IsReplayRunOver (record { setting = s; happened = h; hand = hand; left = left }) f.pair.payloads

-- these bytes open to the content that was found, followed by the payloads that a replay over it left
pub record LeftBy {D : Type 0} (f : FilesState D) (s : ReplaySetting) (h hand : List Entry) (one other : List ℕ) : Type 0 where
  pub left : List (List ℕ)
  pub content_is : PairOpensTo (header_of 2) f.pair.epoch (f.pair.payloads ++ left) one other
  pub stage : IsReplayRunOver (record { setting = s; happened = h; hand = hand; left = left }) f.pair.payloads

-- So does whatever a crash leaves of the journal, at any moment since the start of a run whose headline holds, or since its
-- files were opened.
abbrev pub IsLeftByStage : {D : Type 0} → DiskMeaning D → (ℕ → Bool) → Config → (calls : ℕ) → FilesState D → (came : List Record) → ReplaySetting → List Entry → Option Trouble → (hand : List Entry) → Disks D → (one other : List ℕ) → Type 0
IsLeftByStage m gave config calls f came s h trouble hand new one other =
    IsOpenedFiles m f → IsSettingOf config calls f came s → first_change f.said [] came ≡ None → Headline m gave f s h trouble hand new →
    AreHonest m f.journal f.spare → ArePairLeft m f new.journal new.spare one other → LeftBy f s h hand one other

-- a life as a list of replays, to which each run added its payloads
abbrev pub under_replays : List Stage → List ReplayStage
under_replays [] = []
under_replays (Ran r ∷ stages) = Added (history_payloads r.setting r.recorded) ∷ under_replays stages
under_replays (Replay r ∷ stages) = OneReplay r ∷ under_replays stages
under_replays (Rewritten list ∷ stages) = WrittenAnew list ∷ under_replays stages

-- the laws of lists of replays hold of it, and it has the same content
pub record IsUnderReplays (life : List Stage) : Type 0 where
  pub is_life : IsReplayLife (under_replays life)
  pub content_is : replay_content (under_replays life) ≡ content life
