use Rattle.esm_queue_core.specs.CoreView.{moment_for}
use Rattle.esm_queue_core.specs.Next.{next_for}
use Rattle.esm_tests_books.proofs.Resting.{call_runs, next_goes_on}
use Rattle.esm_tests_books.proofs.queue_book.begin.Goals as goal

pub returns-clause-runs : goal.returns-clause-runs
returns-clause-runs c = call_runs c.in_ok-job.field-0 c.in-Call.job c.next.new.self.core.past c.in-Call.is c.in_ok-job.ensures.runs

pub returns-clause-goes_on : goal.returns-clause-goes_on
returns-clause-goes_on c =
    let v = c.args.book.now.core in
    let m = moment_for v.past c.args.moment in
    next_goes_on (next_for v.setting v.past 0 m) m v.past c.next.new.self.core.past c.in_ok-job.ensures.added.added.past
