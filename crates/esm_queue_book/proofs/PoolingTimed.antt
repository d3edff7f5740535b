-- What the calls of a queue's book leave of the moments that a clock gave, whatever they answer.
use Rattle.std.proofs.Common.{◌≡◌, ℕ, Bool, true, List, ◌++◌, length, refl, sym, ap, subst}
use Rattle.std.specs.Prelude.{Result, Ok, Err}
use Rattle.esm_io.specs.Meanings.{DiskMeaning}
use Rattle.esm_model.specs.declared.book.BookError.{BookError}
use Rattle.esm_model.specs.declared.book.BookError.TheVariants as why
use Rattle.esm_model.specs.declared.book.CameError.{CameError}
use Rattle.esm_model.specs.declared.book.CameError.TheVariants as refusal
use Rattle.esm_model.specs.declared.book.Job.{Job}
use Rattle.esm_model.specs.declared.book.Next.{Next}
use Rattle.esm_model.specs.declared.entry.Entry.{Entry}
use Rattle.esm_model.specs.declared.entry.Entry.TheVariants.{Ended, Shut}
use Rattle.esm_model.specs.declared.entry.Reply.{Reply}
use Rattle.esm_model.specs.declared.item.Message.{Message}
use Rattle.esm_queue_core.specs.CoreView.{moment_for}
use Rattle.esm_queue_core.specs.Coming.{came_entries}
use Rattle.esm_queue_core.specs.Ending.{ended_entries}
use Rattle.esm_queue_core.specs.Next.{next_for, next_entries}
use Rattle.esm_queue_book.specs.Books.{BookState}
use Rattle.esm_queue_book.specs.Moments.{IsTimedView}
use Rattle.esm_queue_book.proofs.PoolingCame.{CameDid, ShutDid}
use Rattle.esm_queue_book.proofs.PoolingNext.{NextDid}
use Rattle.esm_queue_book.proofs.PoolingDone.{DoneDid}
use Rattle.esm_queue_book.proofs.Timed.{all_timed, came_have, ended_have, next_has, one_timed, some_timed}

module _ {D : Type 0} (gave : ℕ → Bool) (d : DiskMeaning D) (t : ℕ) (old new : BookState D) (clock : gave t ≡ true) (timed : IsTimedView gave old.core) where
  abbrev m : ℕ
  m = moment_for old.core.past t

  as_before : new.core ≡ old.core → IsTimedView gave new.core
  as_before same = subst (IsTimedView gave) (sym same) timed

  core_of : new ≡ old → new.core ≡ old.core
  core_of same = ap (λ (b : BookState D). b.core) same

  pub came_timed : (list : List Message) (r : Result (Unit {0}) CameError) → CameDid d t list old new r → IsTimedView gave new.core
  came_timed list (Ok x) did =
      all_timed gave d t (old.core.setting.messages ++ list) (came_entries old.core list t) old new clock timed (came_have old.core.setting (length old.core.setting.messages) list m) did.added
  came_timed list (Err refusal.DiskFault) did =
      some_timed gave d t (old.core.setting.messages ++ list) (came_entries old.core list t) old new clock timed (came_have old.core.setting (length old.core.setting.messages) list m) (did.stopped refl)
  came_timed list (Err (refusal.StreamChanged change)) did = as_before (ap (λ (b : BookState D). b.core) (did.changed change refl).2)
  came_timed list (Err refusal.Down) did = as_before (core_of (did.left refl))
  came_timed list (Err refusal.OutOfMemory) did = as_before (ap (λ (b : BookState D). b.core) (did.no_memory refl))

  pub shut_timed : (r : Result (Unit {0}) BookError) → ShutDid t old new r → IsTimedView gave new.core
  shut_timed (Ok x) did = one_timed gave t (Shut m) old new clock timed refl did.added
  shut_timed (Err e) did = as_before (core_of did.left)

  pub next_timed : (k : ℕ) (r : Result Next BookError) → NextDid d k t old new r → IsTimedView gave new.core
  next_timed k (Ok x) did =
      let answer : Next = next_for old.core.setting old.core.past k m in
      all_timed gave d t old.core.setting.messages (next_entries answer m) old new clock timed (next_has answer m) did.added
  next_timed k (Err why.DiskFault) did =
      let answer : Next = next_for old.core.setting old.core.past k m in
      some_timed gave d t old.core.setting.messages (next_entries answer m) old new clock timed (next_has answer m) (did.stopped refl)
  next_timed k (Err why.DestFault) did = absurd (did.no_dest refl)
  next_timed k (Err why.Down) did = as_before (core_of (did.left refl))
  next_timed k (Err why.OutOfMemory) did = as_before (ap (λ (b : BookState D). b.core) (did.no_memory refl))

  pub done_timed : (job : Job) (reply : Reply) (r : Result ℕ BookError) → DoneDid d t job reply old new r → IsTimedView gave new.core
  done_timed job reply (Ok count) did =
      let es : List Entry = ended_entries old.core.setting old.core.past job.lane reply m in
      all_timed gave d t old.core.setting.messages es old new clock timed (ended_have old.core.setting old.core.past job.lane reply m) did.added
  done_timed job reply (Err why.DiskFault) did =
      let es : List Entry = ended_entries old.core.setting old.core.past job.lane reply m in
      some_timed gave d t old.core.setting.messages es old new clock timed (ended_have old.core.setting old.core.past job.lane reply m) (did.stopped refl)
  done_timed job reply (Err why.DestFault) did = absurd (did.no_dest refl)
  done_timed job reply (Err why.Down) did = one_timed gave t (Ended job.lane reply m) old new clock timed refl (did.noted refl)
  done_timed job reply (Err why.OutOfMemory) did = as_before (ap (λ (b : BookState D). b.core) (did.no_memory refl))
