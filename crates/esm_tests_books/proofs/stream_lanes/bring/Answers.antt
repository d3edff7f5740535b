use Rattle.esm_ingest.specs.Parts.{parts_of}
use Rattle.esm_stream_core.specs.Calls.{moment_for}
use Rattle.esm_tests_books.proofs.Lanes.{open_parts}
use Rattle.esm_tests_books.proofs.stream_lanes.bring.Goals as goal

pub returns : goal.returns
returns c =
    let v = c.args.book.now.core in
    open_parts (moment_for v.past c.args.moment) (parts_of v.setting v.past c.args.items.items) v.past c.came.new.self.core.past c.in_ok-came.ensures.added.added.past c.requires.no_call
