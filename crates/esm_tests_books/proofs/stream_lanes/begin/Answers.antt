use Rattle.esm_tests_books.proofs.Lanes.{begun}
use Rattle.esm_tests_books.proofs.stream_lanes.begin.Goals as goal

pub returns-clause-runs : goal.returns-clause-runs
returns-clause-runs c =
    let told = c.in_ok-job.ensures in
    (begun c.args.book.now.core c.next.new.self.core c.args.batcher c.args.moment c.in_ok-job.field-0 c.in-Call.job c.in-Call.is told.answer told.runs told.added.setting told.added.added.past).0

pub returns-clause-others : goal.returns-clause-others
returns-clause-others c =
    let told = c.in_ok-job.ensures in
    (begun c.args.book.now.core c.next.new.self.core c.args.batcher c.args.moment c.in_ok-job.field-0 c.in-Call.job c.in-Call.is told.answer told.runs told.added.setting told.added.added.past).1
