use Rattle.std.proofs.Common.{false}
use Rattle.esm_stream_book.proofs.PoolingCame.{has_ended}
use Rattle.esm_stream_book.proofs.PoolingRead.{read_goes_on, read_moments, shut_read, same_items}
use Rattle.esm_stream_core.specs.Told.{told_of}
use Rattle.esm_stream_book.proofs.PoolingTimed.{shut_timed}
use Rattle.esm_stream_book.proofs.pooled.BookPooled.end_input.Goals as goal

pub shut-ended-requires : goal.shut-ended-requires
shut-ended-requires g c = record { going = shut_read c.args.self.now false c.requires.going }

pub returns-clause-goes_on : goal.returns-clause-goes_on
returns-clause-goes_on g c =
    let e = c.shut-ended.ensures in
    read_goes_on g.row.D.coded g.row.T.coded g.T.Dest.lines c.args.moment c.args.self.now c.shut-ended.new.self
    (has_ended c.args.moment c.args.self.now c.shut-ended.new.self c.shut-ended.result e.added e.down e.only_down e.left).brought c.trouble-after.ensures.legal

pub returns-clause-moments : goal.returns-clause-moments
returns-clause-moments g c =
    let e = c.shut-ended.ensures in
    read_moments g.row.D.coded g.row.T.coded g.T.Dest.lines c.args.moment c.args.self.now c.shut-ended.new.self
    (has_ended c.args.moment c.args.self.now c.shut-ended.new.self c.shut-ended.result e.added e.down e.only_down e.left).brought

pub returns-clause-timed : goal.returns-clause-timed
returns-clause-timed g c = λ gave.
    let e = c.shut-ended.ensures in
    shut_timed gave c.args.moment c.args.self.now c.shut-ended.new.self c.shut-ended.result e.added e.left

pub returns-clause-same : goal.returns-clause-same
returns-clause-same g c =
    let e = c.shut-ended.ensures in
    same_items (told_of c.args.self.now.core) (told_of c.shut-ended.new.self.core)
    (has_ended c.args.moment c.args.self.now c.shut-ended.new.self c.shut-ended.result e.added e.down e.only_down e.left).same

pub returns-clause-change : goal.returns-clause-change
returns-clause-change g c =
    let e = c.shut-ended.ensures in
    (has_ended c.args.moment c.args.self.now c.shut-ended.new.self c.shut-ended.result e.added e.down e.only_down e.left).change
