use Rattle.std.proofs.Common.{sym, ◌∙◌}
use Rattle.esm_queue_core.specs.CoreView.{moment_for}
use Rattle.esm_queue_core.specs.Next.{next_for}
use Rattle.esm_tests_books.proofs.Resting.{pause_rests}
use Rattle.esm_tests_books.proofs.queue_book.pause.Goals as goal

pub returns : goal.returns
returns c =
    let v = c.args.book.now.core in
    let m = moment_for v.past c.args.moment in
    pause_rests (next_for v.setting v.past 0 m) c.in-Idle.until m v.past c.next.new.self.core.past (sym c.in_ok-until.ensures.answer ∙ c.in-Idle.is) c.in_ok-until.ensures.added.added.past c.requires
