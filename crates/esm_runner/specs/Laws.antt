-- The laws of histories from which the headline follows. Only this crate's proofs cite this.
use Rattle.std.specs.Prelude.{◌≡◌, ℕ, Bool, List, ◌++◌, length, reverse, take_while, Option, is_some, option_map}
use Rattle.esm_model.specs.declared.book.Trouble.{Trouble}
use Rattle.esm_model.specs.declared.lane.LaneId.{LaneId}
use Rattle.esm_model.specs.declared.entry.Entry.{Entry}
use Rattle.esm_model.specs.Entries.{moment_of}
use Rattle.esm_model.specs.Setting.{Setting, Stream, Extends, over}
use Rattle.esm_model.specs.Fates.{fate, came_places}
use Rattle.esm_model.specs.Checkpoint.{checkpoint}
use Rattle.esm_model.specs.Step.{Legal}
use Rattle.esm_model.specs.Earned.{FateIsEarned, LastEnd, IsLogged}
use Rattle.esm_model.specs.Laws.{OrderPerKey, OneFate, NoRepeat, EveryRecordCounted, CheckpointIsLongest, CallsKept}
use Rattle.esm_journal_record.specs.EntryPayload.{history_payloads, AllMayBeSaid}
use Rattle.esm_journal_state.specs.declared.kept.KeptFate.{KeptFate}
use Rattle.esm_journal_state.specs.Meaning.{fate_said, history}
use Rattle.esm_journal_state.specs.SaidLists.{SaidLists}
use Rattle.esm_journal_state.specs.Tells.{Tells}
use Rattle.esm_book.specs.State.{in_hand, in_delivery}
use Rattle.esm_stream_core.specs.CoreView.{CoreView, MayFollowFront}
use Rattle.esm_stream_book.specs.Moments.{AreTimed, IsGivenBehind, IsTimed, IsTimedView}
use Rattle.esm_record_bounds.specs.Bounds.{AreWithinBounds, AreCountedInFourBytes}
use Rattle.esm_input.specs.Within.{HandedWithin}

-- the payloads of a legal history stay the same if the lists of records are extended
abbrev pub PayloadsStay : Type 0
PayloadsStay = (s : Setting) (after : List Stream) (h : List Entry) → Extends s.streams after → Legal s h → history_payloads (over s after) h ≡ history_payloads s h

-- the laws of histories, of what their payloads say, of the moments of entries that were not added, and of inputs
pub record AreLaws : Type 0 where
  pub order : (s : Setting) (h : List Entry) → Legal s h → OrderPerKey s h
  pub one : (s : Setting) (h : List Entry) → Legal s h → OneFate s h
  pub earned : (s : Setting) (h : List Entry) → Legal s h → FateIsEarned s h
  pub logged : (s : Setting) (sends : List ℕ → List ℕ) (h : List Entry) (lane : LaneId) (end : LastEnd s h lane) → IsLogged sends end
  pub calls : (s : Setting) (sends : List ℕ → List ℕ) (later before : List Entry) (batcher : ℕ) → CallsKept s sends later before batcher
  pub once : (s : Setting) (h : List Entry) → Legal s h → NoRepeat s h
  pub counted : (s : Setting) (h : List Entry) → EveryRecordCounted s h
  pub longest : (s : Setting) (h : List Entry) (n : ℕ) → CheckpointIsLongest s h n
  pub stay : PayloadsStay
  pub said : (s : Setting) (h : List Entry) → AreWithinBounds s → Legal s h → AreCountedInFourBytes h → AllMayBeSaid s h
  pub fates : (s : Setting) (h : List Entry) (t : SaidLists) (old : List (List ℕ)) → Legal s h → AllMayBeSaid s h → Tells t (history (reverse old)) → s.fates ≡ t.fates → (n i : ℕ) →
      option_map (λ (k : KeptFate). k.fate) (fate_said (history (reverse (old ++ history_payloads s h))) n i) ≡ fate s h n i
  pub kept : (s : Setting) (h : List Entry) (t : SaidLists) (old : List (List ℕ)) → Legal s h → AllMayBeSaid s h → Tells t (history (reverse old)) → s.fates ≡ t.fates → (n : ℕ) →
      checkpoint s h n ≡ length (take_while (λ i. is_some (fate_said (history (reverse (old ++ history_payloads s h))) n i)) (came_places h n))
  pub hand_timed : (gave : ℕ → Bool) (v : CoreView) (trouble : Option Trouble) → IsTimedView gave v → AreTimed gave (in_hand trouble v.owed)
  pub tried_timed : (gave : ℕ → Bool) (v : CoreView) (trouble : Option Trouble) → IsTimedView gave v → AreTimed gave (in_delivery trouble v.owed)
  pub front_timed : (gave : ℕ → Bool) (s : Setting) (h : List Entry) (e : Entry) (follows : MayFollowFront s h e) → IsTimed gave e → IsGivenBehind gave follows.before (moment_of e)
  pub within : HandedWithin
