use Rattle.std.proofs.Common.{◌≡◌, subst}
use Rattle.esm_io.specs.Meanings.{disk, destination}
use Rattle.esm_book.specs.State.{in_hand}
use Rattle.esm_stream_core.specs.CoreView.{full_setting}
use Rattle.esm_stream_book.specs.Books.{BookState, LeavesFirst, payloads_in}
use Rattle.esm_stream_book.specs.Keeping.{HasJournal, HasLines, entries_left}
use Rattle.esm_stream_book.proofs.Going.{leaves_first}
use Rattle.esm_stream_book.proofs.Standing.{hand_alone, has_journal, has_lines, left_so, legal_told}
use Rattle.esm_stream_book.proofs.stream_book.Book.trouble.Goals as goal

pub returns-clause-journal : goal.returns-clause-journal
returns-clause-journal g c =
    let m = disk g.D.Disk in
    subst (HasJournal m) c.self.view_is (has_journal m _ c.self.inside.durable c.trouble.ensures.keeps)

pub returns-clause-lines : goal.returns-clause-lines
returns-clause-lines g c =
    let n = destination g.T.Dest in
    subst (HasLines n) c.self.view_is (has_lines _ n c.self.inside.durable c.trouble.ensures.keeps)

pub returns-clause-legal : goal.returns-clause-legal
returns-clause-legal g c =
    rw (← c.self.view_is) (legal_told c.self.inside.durable c.legal_is_kept.ensures c.self.invariant)

pub returns-clause-images : goal.returns-clause-images
returns-clause-images g c =
    let m = disk g.D.Disk in
    let n = destination g.T.Dest in
    let b = c.self.inside.durable in
    subst (λ (s : BookState g.row.D.Denot g.row.T.Denot). LeavesFirst m n (full_setting s.core) s.found s.pair s.found_dest s.dest (entries_left s)) c.self.view_is
    (leaves_first m n b.found b.pair b.found_dest b.dest _ (full_setting b.core) (entries_left b) (left_so b) c.trouble.ensures.images)

pub returns-clause-hand : goal.returns-clause-hand
returns-clause-hand g c =
    let b = c.self.inside.durable in
    subst (λ (s : BookState g.row.D.Denot g.row.T.Denot). payloads_in (full_setting s.core) (in_hand s.trouble s.core.owed) ≡ payloads_in s.core.setting (in_hand s.trouble s.core.owed)) c.self.view_is
    (hand_alone b.trouble b.core c.keeps.ensures.first)
