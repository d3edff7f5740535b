use Rattle.esm_stream_core.specs.CoreView.{full_setting}
use Rattle.esm_stream_book.specs.Keeping.{entries_left}
use Rattle.esm_stream_book.proofs.Going.{opens_first}
use Rattle.esm_stream_book.proofs.Standing.{left_so}
use Rattle.esm_stream_book.proofs.stream_book.Book.since_before.Goals as goal

pub returns : goal.returns
returns g c =
    rw (← c.self.view_is) (λ honest spare only other_only one other i j.
    let b = c.self.inside.durable in
    opens_first _ b.found.epoch b.found.payloads b.found_dest b.dest _ (full_setting b.core) (entries_left b) one other (left_so b) (c.since_before.ensures honest spare only other_only one other i j))
