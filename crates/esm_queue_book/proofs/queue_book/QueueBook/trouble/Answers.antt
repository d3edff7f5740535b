use Rattle.std.proofs.Common.{subst}
use Rattle.esm_io.specs.Meanings.{disk}
use Rattle.esm_queue_core.specs.CoreView.{all_messages}
use Rattle.esm_queue_book.specs.Books.{BookState, payloads_in, LeavesFirst}
use Rattle.esm_queue_book.specs.Keeping.{HasJournal, entries_left}
use Rattle.esm_queue_book.proofs.Going.{leaves_first}
use Rattle.esm_queue_book.proofs.Standing.{has_journal, left_so, legal_told}
use Rattle.esm_queue_book.proofs.queue_book.QueueBook.trouble.Goals as goal

pub returns-clause-journal : goal.returns-clause-journal
returns-clause-journal g c =
    let m = disk g.D.Disk in
    subst (HasJournal m) c.self.view_is (has_journal m _ c.self.inside.durable c.trouble.ensures.keeps)

pub returns-clause-legal : goal.returns-clause-legal
returns-clause-legal g c =
    rw (← c.self.view_is) (legal_told c.self.inside.durable c.legal_queue_is_kept.ensures c.self.invariant)

pub returns-clause-images : goal.returns-clause-images
returns-clause-images g c =
    let m = disk g.D.Disk in
    let b = c.self.inside.durable in
    subst (λ (s : BookState g.row.D.Denot). LeavesFirst m s.found s.pair (payloads_in (all_messages s.core) (entries_left s))) c.self.view_is
    (leaves_first m _ b.found b.pair b.found_dest b.dest _ (all_messages b.core) (entries_left b) (left_so b) c.trouble.ensures.images)
