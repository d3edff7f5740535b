-- The laws from which the headline of a queue follows. Only this crate's proofs cite this.
use Rattle.std.specs.Prelude.{◌≡◌, ℕ, Bool, List, Option, Some}
use Rattle.esm_model.specs.declared.book.Trouble.{Trouble}
use Rattle.esm_model.specs.declared.item.Message.{Message}
use Rattle.esm_model.specs.declared.entry.Entry.{Entry}
use Rattle.esm_model.specs.Entries.{moment_of}
use Rattle.esm_book.specs.State.{in_hand}
use Rattle.esm_queue_core.specs.CoreView.{CoreView}
use Rattle.esm_queue_book.specs.Keeping.{MayFollowFront}
use Rattle.esm_queue_book.specs.Moments.{AreTimed, IsGivenBehind, IsTimed, IsTimedView}
use Rattle.esm_queue_model.specs.QueueSetting.{QueueSetting, ExtendsMessages, over_messages}
use Rattle.esm_queue_model.specs.QueueStep.{LegalQueue}
use Rattle.esm_queue_model.specs.HistoryLaws.{DeletedOnce, OrderPerGroup, EveryMessageCounted, QueueCallsKept}
use Rattle.esm_journal_record.specs.declared.said.Said.{Said}
use Rattle.esm_journal_record.specs.Parsing.{said_of}
use Rattle.esm_journal_record.specs.Payload.{payload_of, IsSaid}
use Rattle.esm_input.specs.Within.{HandedWithin}

-- the laws of histories, of payloads, of the moment of the entry in hand, and of inputs
pub record AreLaws : Type 0 where
  pub once : (s : QueueSetting) (h : List Entry) → LegalQueue s h → DeletedOnce s h
  pub order : (s : QueueSetting) (h : List Entry) → LegalQueue s h → OrderPerGroup s h
  pub counted : (s : QueueSetting) (h : List Entry) → LegalQueue s h → EveryMessageCounted s h
  pub more : (s : QueueSetting) (h : List Entry) (after : List Message) → ExtendsMessages s.messages after → LegalQueue s h → LegalQueue (over_messages s after) h
  pub calls : (s : QueueSetting) (sends : List ℕ → List ℕ) (later before : List Entry) (k : ℕ) → QueueCallsKept s sends later before k
  pub again : (said : Said) → IsSaid said → said_of (payload_of said) ≡ Some said
  pub hand_timed : (gave : ℕ → Bool) (v : CoreView) (trouble : Option Trouble) → IsTimedView gave v → AreTimed gave (in_hand trouble v.owed)
  pub front_timed : (gave : ℕ → Bool) (s : QueueSetting) (h : List Entry) (e : Entry) (follows : MayFollowFront s h e) → IsTimed gave e → IsGivenBehind gave follows.before (moment_of e)
  pub within : HandedWithin
