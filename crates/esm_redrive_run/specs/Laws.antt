-- The laws from which the headline of a redrive follows. Only this crate's proofs cite this.
use Rattle.std.specs.Prelude.{◌≡◌, ℕ, Bool, true, List, [], ◌∷◌, length, Option, Some}
use Rattle.std.specs.List.{All}
use Rattle.esm_io.specs.Meanings.{DiskMeaning, DestMeaning}
use Rattle.esm_journal.specs.State.{JournalState}
use Rattle.esm_model.specs.declared.book.Trouble.{Trouble}
use Rattle.esm_model.specs.declared.item.Message.{Message}
use Rattle.esm_model.specs.declared.entry.Entry.{Entry}
use Rattle.esm_model.specs.declared.entry.Reply.{Reply}
use Rattle.esm_model.specs.Books.{entry_line, lines_of}
use Rattle.esm_model.specs.Entries.{moment_of}
use Rattle.esm_book.specs.State.{in_delivery, in_hand}
use Rattle.esm_input.specs.Within.{HandedWithin}
use Rattle.esm_queue_core.specs.CoreView.{moment_for}
use Rattle.esm_queue_model.specs.QueueSetting.{QueueSetting, ExtendsMessages}
use Rattle.esm_queue_model.specs.HistoryLaws.{QueueCallsKept}
use Rattle.esm_redrive.specs.DeadFile.{AreLetters, GoesOnWith}
use Rattle.esm_redrive.specs.ReadsBack.{HasLetter}
use Rattle.esm_redrive_life.specs.Content.{DeletionsAreRecorded, HasValidMessages, IsOpenedOver}
use Rattle.esm_redrive_model.specs.Due.{known, moved_ids}
use Rattle.esm_redrive_model.specs.RedriveSetting.{RedriveSetting, HaveSameIds, redrive_over}
use Rattle.esm_redrive_model.specs.RedriveStep.{LegalRedrive}
use Rattle.esm_redrive_model.specs.RedriveLines.{FoundMovesAreLined, IsLineOfDue, LeavesMovesLined, MovedWhereLined}
use Rattle.esm_redrive_model.specs.RedriveLaws.{FoundForThese, EachHasOneEnd, HaveDifferentIds, MovedOnce, MovedAfterReceives, ReceivedAtMost, CallsAreFew, IsSameOver}
use Rattle.esm_redrive_core.specs.Adding.{came_entries, ended_entries, redrive_next_entries}
use Rattle.esm_redrive_core.specs.RedriveView.{RedriveView}
use Rattle.esm_redrive_book.specs.Calls.{AddedAll, AddedOne, AddedSome}
use Rattle.esm_redrive_book.specs.Keeping.{FollowsFront}
use Rattle.esm_redrive_book.specs.Moments.{AreTimed, HaveMoment, IsGivenBehind, IsTimed, IsTimedView}
use Rattle.esm_redrive_run.specs.Book.{Book}

pub record AreLaws : Type 0 where
  pub ends : (s : RedriveSetting) (h : List Entry) → FoundForThese s → LegalRedrive s h → EachHasOneEnd s h
  pub once : (s : RedriveSetting) (h : List Entry) → LegalRedrive s h → MovedOnce s h
  pub received : (s : RedriveSetting) (h : List Entry) → LegalRedrive s h → MovedAfterReceives s h
  pub at_most : (s : RedriveSetting) (h : List Entry) → LegalRedrive s h → ReceivedAtMost s h
  pub few : (s : RedriveSetting) (h : List Entry) → LegalRedrive s h → CallsAreFew s h
  pub more : (s : RedriveSetting) (h : List Entry) (after : List Message) → ExtendsMessages s.queue.messages after → LegalRedrive s h → LegalRedrive (redrive_over s after) h
  pub calls : (s : QueueSetting) (sends : List ℕ → List ℕ) (later before : List Entry) (k : ℕ) → QueueCallsKept s sends later before k
  pub same : (s : RedriveSetting) (ids : List (List ℕ)) (h : List Entry) → HaveSameIds s.dead_ids ids → IsSameOver s ids h
  pub recorded : (s : RedriveSetting) (h : List Entry) (old : List (List ℕ)) → IsOpenedOver s.queue old → HasValidMessages s.queue → LegalRedrive s h → DeletionsAreRecorded old s.queue h
  pub goes : (fifo : Bool) (found : List (List ℕ)) (s : RedriveSetting) (h : List Entry) → All (HasLetter fifo) s.queue.messages → LegalRedrive s h → AreLetters fifo found (length found) → GoesOnWith fifo found (lines_of h) (moved_ids s h)
  pub leaves : (s : RedriveSetting) (h : List Entry) → LegalRedrive s h → LeavesMovesLined s h
  pub moved : (s : RedriveSetting) (h : List Entry) → FoundMovesAreLined s → HaveDifferentIds s.queue.messages → LegalRedrive s h → known s h ≡ [] → MovedWhereLined s h
  pub due : (s : RedriveSetting) (h : List Entry) (e : Entry) (line : List ℕ) → LegalRedrive s (e ∷ h) → entry_line e ≡ Some line → IsLineOfDue s h e line
  pub within : HandedWithin
  pub hand : (gave : ℕ → Bool) (v : RedriveView) (why : Option Trouble) → IsTimedView gave v → AreTimed gave (in_hand why v.owed)
  pub tried : (gave : ℕ → Bool) (v : RedriveView) (why : Option Trouble) → IsTimedView gave v → AreTimed gave (in_delivery why v.owed)
  pub front : (gave : ℕ → Bool) (s : RedriveSetting) (h : List Entry) (e : Entry) (follows : FollowsFront s h e) → IsTimed gave e → IsGivenBehind gave follows.before (moment_of e)

-- what a call at a moment adds and owes has that moment; so if the clock gave it, it gave those of all entries that the
-- book has
pub record AreMomentLaws {D : Type 0} (m : DiskMeaning D) (n : DestMeaning (JournalState D)) : Type 0 where
  pub came : (v : RedriveView) (list : List Message) (t : ℕ) → HaveMoment (moment_for v.past t) (came_entries v list t)
  pub next : (s : RedriveSetting) (h : List Entry) (t : ℕ) → HaveMoment t (redrive_next_entries s h t)
  pub ended : (s : RedriveSetting) (h : List Entry) (reply : Reply) (t : ℕ) → HaveMoment t (ended_entries s h reply t)
  pub all : (gave : ℕ → Bool) (t : ℕ) (messages : List Message) (es : List Entry) (old new : Book D) → gave t ≡ true → IsTimedView gave old.core →
      HaveMoment (moment_for old.core.past t) es → AddedAll m n messages old new es → IsTimedView gave new.core
  pub some : (gave : ℕ → Bool) (t : ℕ) (messages : List Message) (es : List Entry) (why : Trouble) (old new : Book D) → gave t ≡ true → IsTimedView gave old.core →
      HaveMoment (moment_for old.core.past t) es → AddedSome m n messages old new es why → IsTimedView gave new.core
  pub one : (gave : ℕ → Bool) (t : ℕ) (e : Entry) (old new : Book D) → gave t ≡ true → IsTimedView gave old.core →
      moment_of e ≡ moment_for old.core.past t → AddedOne old new e → IsTimedView gave new.core
