-- The clock gave the moments of all that a redrive's book has and owes, call after call.
use Rattle.std.proofs.Common.{◌≡◌, ℕ, Bool, List, ◌++◌, Some, ap, refl, subst, sym}
use Rattle.std.specs.Prelude.{Result, Ok, Err}
use Rattle.esm_io.specs.Meanings.{DiskMeaning, DestMeaning}
use Rattle.esm_journal.specs.State.{JournalState}
use Rattle.esm_model.specs.declared.book.BookError.{BookError}
use Rattle.esm_model.specs.declared.book.BookError.TheVariants as why
use Rattle.esm_model.specs.declared.book.CameError.{CameError}
use Rattle.esm_model.specs.declared.book.CameError.TheVariants as refusal
use Rattle.esm_model.specs.declared.book.Job.{Job}
use Rattle.esm_model.specs.declared.book.Next.{Next}
use Rattle.esm_model.specs.declared.book.Trouble.TheVariants as trouble
use Rattle.esm_model.specs.declared.entry.Entry.{Entry}
use Rattle.esm_model.specs.declared.entry.Entry.TheVariants.{Ended, Shut}
use Rattle.esm_model.specs.declared.entry.Reply.{Reply}
use Rattle.esm_model.specs.declared.item.Message.{Message}
use Rattle.esm_queue_core.specs.CoreView.{moment_for}
use Rattle.esm_redrive_core.specs.Adding.{came_entries, ended_entries, redrive_next_entries}
use Rattle.esm_redrive_core.specs.RedriveView.{RedriveView}
use Rattle.esm_redrive_book.specs.Moments.{IsTimedView}
use Rattle.esm_redrive_run.specs.Book.{Book}
use Rattle.esm_redrive_run.specs.Laws.{AreMomentLaws}
use Rattle.esm_redrive_run.proofs.Asking.{NextDid}
use Rattle.esm_redrive_run.proofs.Bringing.{CameDid, ShutDid}
use Rattle.esm_redrive_run.proofs.Ending.{DoneDid}
use Rattle.esm_redrive_run.proofs.Stepping.{StaysTimed}

module _ {D : Type 0} (m : DiskMeaning D) (n : DestMeaning (JournalState D)) (laws : AreMomentLaws m n) (t : ℕ) (old new : Book D) where
  abbrev now : ℕ
  now = moment_for old.core.past t

  abbrev messages : List Message
  messages = old.core.setting.queue.messages

  -- nothing was added
  unadded : (gave : ℕ → Bool) → new.core ≡ old.core → IsTimedView gave old.core → IsTimedView gave new.core
  unadded gave same timed = subst (λ (v : RedriveView). IsTimedView gave v) (sym same) timed

  pub came_timed : (list : List Message) (r : Result (Unit {0}) CameError) → CameDid m n t list old new r → StaysTimed t old new
  came_timed list (Ok x) did gave clock timed = laws.all gave t (messages ++ list) (came_entries old.core list t) old new clock timed (laws.came old.core list t) did.added
  came_timed list (Err refusal.DiskFault) did gave clock timed = laws.some gave t (messages ++ list) (came_entries old.core list t) trouble.Disk old new clock timed (laws.came old.core list t) (did.stopped refl)
  came_timed list (Err (refusal.StreamChanged change)) did gave clock timed =
      let found = did.changed change refl in
      let is : new ≡ record old { trouble = Some (trouble.Changed change) } = found.2 in
      unadded gave (ap (λ (b : Book D). b.core) is) timed
  came_timed list (Err refusal.Down) did gave clock timed = unadded gave (ap (λ (b : Book D). b.core) (did.left refl)) timed
  came_timed list (Err refusal.OutOfMemory) did gave clock timed =
      let is : new ≡ record old { pair = record old.pair { room = new.pair.room }; dest = new.dest } = (did.no_memory refl).rest in
      unadded gave (ap (λ (b : Book D). b.core) is) timed

  pub shut_timed : (r : Result (Unit {0}) BookError) → ShutDid t old new r → StaysTimed t old new
  shut_timed (Ok x) did gave clock timed = laws.one gave t (Shut now) old new clock timed refl did.added
  shut_timed (Err e) did gave clock timed = unadded gave (ap (λ (b : Book D). b.core) did.left) timed

  abbrev entries_next : List Entry
  entries_next = redrive_next_entries old.core.setting old.core.past now

  pub next_timed : (r : Result Next BookError) → NextDid m n t old new r → StaysTimed t old new
  next_timed (Ok x) did gave clock timed = laws.all gave t messages entries_next old new clock timed (laws.next old.core.setting old.core.past now) did.added
  next_timed (Err why.DiskFault) did gave clock timed = laws.some gave t messages entries_next trouble.Disk old new clock timed (laws.next old.core.setting old.core.past now) (did.stopped refl)
  next_timed (Err why.DestFault) did gave clock timed = laws.some gave t messages entries_next trouble.Dest old new clock timed (laws.next old.core.setting old.core.past now) (did.undelivered refl)
  next_timed (Err why.Down) did gave clock timed = unadded gave (ap (λ (b : Book D). b.core) (did.left refl)) timed
  next_timed (Err why.OutOfMemory) did gave clock timed =
      let is : new ≡ record old { pair = record old.pair { room = new.pair.room }; dest = new.dest } = (did.no_memory refl).rest in
      unadded gave (ap (λ (b : Book D). b.core) is) timed

  pub done_timed : (job : Job) (reply : Reply) (r : Result ℕ BookError) → DoneDid m n t job reply old new r → StaysTimed t old new
  done_timed job reply (Ok count) did gave clock timed = laws.all gave t messages (ended_entries old.core.setting old.core.past reply now) old new clock timed (laws.ended old.core.setting old.core.past reply now) did.added
  done_timed job reply (Err why.DiskFault) did gave clock timed =
      laws.some gave t messages (ended_entries old.core.setting old.core.past reply now) trouble.Disk old new clock timed (laws.ended old.core.setting old.core.past reply now) (did.stopped refl)
  done_timed job reply (Err why.DestFault) did gave clock timed = absurd (did.no_dest refl)
  done_timed job reply (Err why.Down) did gave clock timed = laws.one gave t (Ended job.lane reply now) old new clock timed refl (did.noted refl)
  done_timed job reply (Err why.OutOfMemory) did gave clock timed =
      let is : new ≡ record old { pair = record old.pair { room = new.pair.room }; dest = new.dest } = (did.no_memory refl).rest in
      unadded gave (ap (λ (b : Book D). b.core) is) timed
