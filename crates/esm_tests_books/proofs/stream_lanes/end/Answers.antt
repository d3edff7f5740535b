use Rattle.esm_model.specs.declared.entry.Reply.TheVariants.{Answered}
use Rattle.esm_stream_core.specs.Calls.{moment_for}
use Rattle.esm_tests_books.proofs.Lanes.{ended}
use Rattle.esm_tests_books.proofs.stream_lanes.end.Goals as goal

pub returns-clause-rests : goal.returns-clause-rests
returns-clause-rests c =
    let v = c.args.book.now.core in
    let all = c.in_ok-done.ensures.added in
    (ended v c.done.new.self.core c.args.call.batcher (moment_for v.past c.args.moment) c.args.call.job (Answered 200 c.args.error c.from_vec.result) c.requires all.setting all.added.past).0

pub returns-clause-others : goal.returns-clause-others
returns-clause-others c =
    let v = c.args.book.now.core in
    let all = c.in_ok-done.ensures.added in
    (ended v c.done.new.self.core c.args.call.batcher (moment_for v.past c.args.moment) c.args.call.job (Answered 200 c.args.error c.from_vec.result) c.requires all.setting all.added.past).1
