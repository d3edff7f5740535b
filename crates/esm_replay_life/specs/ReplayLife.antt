-- The life of a stream's mapping under replays: its replays, however each ended or was stopped, what other runs added to
-- its journal between them, and what was written in place of its content. A life has its latest stage first. This
-- product's own.
use Rattle.std.specs.Prelude.{◌≡◌, ℕ, ◌+◌, ◌≤◌, ◌==◌, ◌&&◌, Bool, true, false, IsTrue, List, [], ◌∷◌, ◌++◌, length, reverse, filter_map, Option, Some, None, if◌then◌else◌}
use Rattle.esm_model.specs.declared.called.Called.{Called}
use Rattle.esm_model.specs.declared.config.Config.{Config}
use Rattle.esm_model.specs.Records.{Record}
use Rattle.esm_model.specs.declared.lane.LaneId.{LaneId}
use Rattle.esm_model.specs.declared.entry.Reply.{Reply}
use Rattle.esm_model.specs.declared.entry.Entry.{Entry}
use Rattle.esm_model.specs.declared.entry.Entry.TheVariants as entry
use Rattle.esm_model.specs.Entries.{holds}
use Rattle.esm_model.specs.Setting.{sequences_at}
use Rattle.esm_journal_record.specs.declared.said.Said.{Said}
use Rattle.esm_journal_record.specs.declared.said.Said.TheVariants as said
use Rattle.esm_journal_record.specs.EntryPayload.{entry_payload, AllMayBeSaid}
use Rattle.esm_journal_record.specs.Parsing.{said_of}
use Rattle.esm_journal_state.specs.Compact.{SameSaid}
use Rattle.esm_journal_state.specs.Meaning.{history, are_good, fate_said, tries_said, state_said, window_tries_said, replayed_said}
use Rattle.esm_journal_state.specs.SaidLists.{SaidLists}
use Rattle.esm_journal_state.specs.Tells.{Tells}
use Rattle.esm_replay.specs.Coming.{first_change}
use Rattle.esm_replay.specs.Records.{setting_with}
use Rattle.esm_replay_model.specs.declared.range.Range.{Range}
use Rattle.esm_replay_model.specs.ReplaySetting.{ReplaySetting, config_of, replay_config}
use Rattle.esm_replay_model.specs.Pieces.{ReplayPiece, replay_event, succeeded_of}
use Rattle.esm_replay_model.specs.ReplayReport.{is_replayed}
use Rattle.esm_replay_model.specs.ReplayRun.{IsReplay, replay_calls}

-- a replay: the setting over which it was judged, its trace with the newest entry first, the entry in hand if a disk
-- failed, and the payloads that it left in the journal, oldest first
pub record ReplayRun : Type 0 where
  pub setting : ReplaySetting
  pub happened : List Entry
  pub hand : List Entry
  pub left : List (List ℕ)

-- a replay; what another run added to the journal; or a list of payloads that was written in place of its content
pub data Stage : Type 0 where
  Replay : ReplayRun → Stage
  Added : List (List ℕ) → Stage
  Rewritten : List (List ℕ) → Stage

-- the journal's content after the stages, oldest payload first; at the beginning it is empty
abbrev pub content : List Stage → List (List ℕ)
content [] = []
content (Replay r ∷ stages) = content stages ++ r.left
content (Added payloads ∷ stages) = content stages ++ payloads
content (Rewritten list ∷ stages) = list

-- what it says, newest first
abbrev pub saids : List Stage → List Said
saids life = history (reverse (content life))

-- What one replay leaves. Each field is a clause of what a run of a replay promises (`HasRun` and its `Headline`),
-- whether it ended or was stopped, and has the same name if the clause has one.

-- The setting of a replay over this content (`is_setting`, `unchanged`): what the content says, as the files were opened;
-- the records that the lines of the failure file name; and the records that arrived, none of which was kept with another
-- text.
pub record IsSettingOver (s : ReplaySetting) (old : List (List ℕ)) : Type 0 where
  pub told : SaidLists
  pub tells : Tells told (history (reverse old))
  pub config : Config
  pub calls : ℕ
  pub ranges : List Range
  pub came : List Record
  pub unchanged : first_change told [] came ≡ None
  pub is : s ≡ setting_with (replay_config config) calls told ranges came

pub record IsReplayRunOver (r : ReplayRun) (old : List (List ℕ)) : Type 0 where
  pub is_setting : IsSettingOver r.setting old
  -- the trace is a run of the replay, and remains one with the entry in hand; there is at most one
  pub legal_trace : IsReplay r.setting r.happened
  pub hand_is_run : IsReplay r.setting (r.hand ++ r.happened)
  pub in_hand : length r.hand ≤ 1
  -- the journal accepts their payloads
  pub may_be_said : AllMayBeSaid r.setting.base (r.hand ++ r.happened)
  -- the journal is left with the content found, followed by a prefix of these payloads (`journal_kept`, `journal_stopped`
  -- and `crash`)
  pub rest : List (List ℕ)
  pub kept : r.left ++ rest ≡ filter_map (entry_payload r.setting.base) (reverse r.happened ++ r.hand)

-- what else may happen to the journal

-- it says nothing of a replay
abbrev pub IsNoReplay : Said → Type 0
IsNoReplay (said.Replayed shard moment places texts) = ⊥
IsNoReplay _ = Unit {0}

abbrev pub NoneReplays : List Said → Type 0
NoneReplays [] = Unit {0}
NoneReplays (s ∷ h) = NoneReplays h × IsNoReplay s

-- further payloads, none of kind 7 and none bad for a book
pub record AreFurther (payloads old : List (List ℕ)) : Type 0 where
  pub no_replay : NoneReplays (history (reverse payloads))
  pub good : are_good (reverse (old ++ payloads)) ≡ true

-- a list that says what the content said, with no payload that is bad for a book
pub record SaysTheSame (list old : List (List ℕ)) : Type 0 where
  pub same : SameSaid (history (reverse list)) (history (reverse old))
  pub good : are_good (reverse list) ≡ true

-- each replay was opened over what the stages before it left
abbrev pub IsLife : List Stage → Type 0
IsLife [] = Unit {0}
IsLife (Replay r ∷ stages) = IsLife stages × IsReplayRunOver r (content stages)
IsLife (Added payloads ∷ stages) = IsLife stages × AreFurther payloads (content stages)
IsLife (Rewritten list ∷ stages) = IsLife stages × SaysTheSame list (content stages)

-- the stages are replays and rewritings
abbrev pub AreReplays : List Stage → Type 0
AreReplays [] = Unit {0}
AreReplays (Replay r ∷ stages) = AreReplays stages
AreReplays (Added payloads ∷ stages) = ⊥
AreReplays (Rewritten list ∷ stages) = AreReplays stages

-- laws

abbrev pub naming_after : ℕ → ℕ → ℕ → Said → ℕ
naming_after n i before (said.Replayed shard moment places texts) = (if (shard == n) && holds places i then 1 else 0) + before
naming_after n i before _ = before

-- how many payloads of kind 7 name the record
abbrev pub replays_naming : List Said → ℕ → ℕ → ℕ
replays_naming [] n i = 0
replays_naming (s ∷ h) n i = naming_after n i (replays_naming h n i) s

-- at most one of them names a record
abbrev pub EachReplayedOnce : List Stage → Type 0
EachReplayedOnce life = (n i : ℕ) → replays_naming (saids life) n i ≤ 1

-- the content says that the record was replayed
abbrev pub is_recorded : List Stage → ℕ → ℕ → Bool
is_recorded life n i = replayed_said (saids life) n i

abbrev pub ReplaysStay : (later before : List Stage) → Type 0
ReplaysStay later before = (n i : ℕ) → is_recorded before n i ≡ true → is_recorded (later ++ before) n i ≡ true

-- no call of the replay has a record that was replayed before: by the content of earlier stages, or in this replay before
-- the call
abbrev pub NoneIsCalledAgain : ReplayRun → List Stage → Type 0
NoneIsCalledAgain r before =
    (later earlier : List Entry) (lane : LaneId) (places : List ℕ) (closing : Option ℕ) (m : ℕ) → r.hand ++ r.happened ≡ later ++ entry.Began lane places closing m ∷ earlier
    → (i : ℕ) → IsTrue (holds places i)
    → (is_recorded before lane.shard i ≡ false) × (is_replayed earlier lane.shard i ≡ false)

-- the caller's log of the replay has a call of these records with this reply, whatever the caller sends for an event
pub record IsLogged (r : ReplayRun) (call : ReplayPiece) (reply : Reply) (sends : List ℕ → List ℕ) : Type 0 where
  pub front : List Called
  pub back : List Called
  pub log : replay_calls r.setting sends r.happened
      ≡ front ++ record { name = (config_of r.setting).function; event = sends (replay_event r.setting call); reply = reply } ∷ back

-- the payload is of kind 7 and names exactly the records that a reply in the caller's log counts as succeeded
pub record IsOfAnswer (r : ReplayRun) (payload : List ℕ) : Type 0 where
  pub call : ReplayPiece
  pub reply : Reply
  pub moment : ℕ
  pub logged : (sends : List ℕ → List ℕ) → IsLogged r call reply sends
  pub names : said_of payload ≡ Some (said.Replayed call.shard moment (succeeded_of r.setting call reply).places (sequences_at r.setting.base call.shard (succeeded_of r.setting call reply).places))

abbrev pub EachIsAnswered : ReplayRun → Type 0
EachIsAnswered r = (front back : List (List ℕ)) (payload : List ℕ) → r.left ≡ front ++ payload ∷ back → IsOfAnswer r payload

-- fates and tries are as they were, and so are the states of windows and the tries of their final calls
pub record FatesAndTriesStay (later before : List Stage) : Type 0 where
  pub fates : (n i : ℕ) → fate_said (saids (later ++ before)) n i ≡ fate_said (saids before) n i
  pub tries : (n i : ℕ) → tries_said (saids (later ++ before)) n i ≡ tries_said (saids before) n i
  pub states : (n w : ℕ) → state_said (saids (later ++ before)) n w ≡ state_said (saids before) n w
  pub window_tries : (n w : ℕ) → window_tries_said (saids (later ++ before)) n w ≡ window_tries_said (saids before) n w
