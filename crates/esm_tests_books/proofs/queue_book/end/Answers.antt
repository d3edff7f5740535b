use Rattle.std.proofs.Common.{false}
use Rattle.esm_model.specs.declared.entry.Reply.TheVariants.{Answered}
use Rattle.esm_queue_core.specs.CoreView.{moment_for}
use Rattle.esm_tests_books.proofs.Resting.{end_rests, end_goes_on}
use Rattle.esm_tests_books.proofs.queue_book.end.Goals as goal

pub returns-clause-rests : goal.returns-clause-rests
returns-clause-rests c =
    let v = c.args.book.now.core in
    end_rests v.setting v.past c.done.new.self.core.past c.args.job.lane (Answered 200 false c.from_vec.result) (moment_for v.past c.args.moment) c.requires.lane c.in_ok-done.ensures.added.added.past

pub returns-clause-goes_on : goal.returns-clause-goes_on
returns-clause-goes_on c =
    let v = c.args.book.now.core in
    end_goes_on v.setting v.past c.done.new.self.core.past c.args.job.lane (Answered 200 false c.from_vec.result) (moment_for v.past c.args.moment) c.in_ok-done.ensures.added.added.past
