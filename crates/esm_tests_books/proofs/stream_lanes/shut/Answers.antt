use Rattle.esm_stream_core.specs.Calls.{moment_for}
use Rattle.esm_tests_books.proofs.Lanes.{shut_rests}
use Rattle.esm_tests_books.proofs.stream_lanes.shut.Goals as goal

pub returns : goal.returns
returns c = λ batcher.
    let v = c.args.book.now.core in
    let added = c.in_ok-shut.ensures.added in
    shut_rests v c.shut.new.self.core (moment_for v.past c.args.moment) batcher added.setting added.past
