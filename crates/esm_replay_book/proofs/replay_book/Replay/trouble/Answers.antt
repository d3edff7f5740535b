use Rattle.std.proofs.Common.{subst}
use Rattle.esm_io.specs.Meanings.{disk}
use Rattle.esm_replay_core.specs.View.{setting_of}
use Rattle.esm_replay_book.specs.Books.{BookState, payloads_in, LeavesFirst}
use Rattle.esm_replay_book.specs.Keeping.{HasJournal, entries_left}
use Rattle.esm_replay_book.proofs.Going.{leaves_first}
use Rattle.esm_replay_book.proofs.Standing.{has_journal, left_so}
use Rattle.esm_replay_book.proofs.replay_book.Replay.trouble.Goals as goal

pub returns-clause-journal : goal.returns-clause-journal
returns-clause-journal g c =
    let m = disk g.D.Disk in
    subst (HasJournal m) c.self.view_is (has_journal m _ c.self.inside.durable c.trouble.ensures.keeps)

pub returns-clause-images : goal.returns-clause-images
returns-clause-images g c =
    let m = disk g.D.Disk in
    let b = c.self.inside.durable in
    subst (λ (s : BookState g.row.D.Denot). LeavesFirst m s.found s.pair (payloads_in (setting_of s.core) (entries_left s))) c.self.view_is
    (leaves_first m _ b.found b.pair b.found_dest b.dest _ (payloads_in (setting_of b.core) (entries_left b)) (left_so b c.self.invariant.0) c.trouble.ensures.images)
