use Rattle.esm_io.specs.Meanings.{disk, destination}
use Rattle.esm_stream_book.proofs.PoolingSteps.{runs_still}
use Rattle.esm_stream_book.proofs.PoolingEnded.{may_end, end_goes_on, end_moments, end_called, end_rests}
use Rattle.esm_stream_book.proofs.PoolingTimed.{ended_timed}
use Rattle.esm_stream_book.proofs.pooled.BookPooled.end_call.Goals as goal

pub done-answer-requires : goal.done-answer-requires
done-answer-requires g c = record {
  runs = may_end c.args.self.now c.args.batcher c.args.job (runs_still g.row.D.coded g.row.T.coded g.T.Dest.lines c.args.self.now c.args.batcher c.trouble-before.ensures.sound c.args.job c.requires.runs);
}

pub returns-clause-goes_on : goal.returns-clause-goes_on
returns-clause-goes_on g c =
    let e = c.done-answer.ensures in
    end_goes_on g.row.D.coded g.row.T.coded g.T.Dest.lines (disk g.D.Disk) (destination g.T.Dest)
    c.args.batcher c.args.moment c.args.job c.args.reply c.args.self.now c.done-answer.new.self c.done-answer.result
    (record { added = e.added; stopped = e.stopped; undelivered = e.undelivered; noted = e.noted; down = e.down; no_memory = e.no_memory })
    c.trouble-before.ensures.sound c.trouble-after.ensures.sound c.requires.runs c.trouble-after.ensures.legal

pub returns-clause-moments : goal.returns-clause-moments
returns-clause-moments g c =
    let e = c.done-answer.ensures in
    end_moments g.row.D.coded g.row.T.coded g.T.Dest.lines (disk g.D.Disk) (destination g.T.Dest)
    c.args.batcher c.args.moment c.args.job c.args.reply c.args.self.now c.done-answer.new.self c.done-answer.result
    (record { added = e.added; stopped = e.stopped; undelivered = e.undelivered; noted = e.noted; down = e.down; no_memory = e.no_memory })
    c.trouble-before.ensures.sound c.trouble-after.ensures.sound c.requires.runs

pub returns-clause-timed : goal.returns-clause-timed
returns-clause-timed g c = λ gave.
    let e = c.done-answer.ensures in
    ended_timed gave (disk g.D.Disk) (destination g.T.Dest) c.args.job c.args.reply c.args.moment c.args.self.now c.done-answer.new.self c.done-answer.result
    (record { added = e.added; stopped = e.stopped; undelivered = e.undelivered; noted = e.noted; down = e.down; no_memory = e.no_memory })

pub returns-clause-called : goal.returns-clause-called
returns-clause-called g c =
    let e = c.done-answer.ensures in
    end_called g.row.D.coded g.row.T.coded g.T.Dest.lines (disk g.D.Disk) (destination g.T.Dest)
    c.args.batcher c.args.moment c.args.job c.args.reply c.args.self.now c.done-answer.new.self c.done-answer.result
    (record { added = e.added; stopped = e.stopped; undelivered = e.undelivered; noted = e.noted; down = e.down; no_memory = e.no_memory })
    c.trouble-before.ensures.sound c.trouble-after.ensures.sound c.requires.runs

pub returns-clause-rests : goal.returns-clause-rests
returns-clause-rests g c =
    let e = c.done-answer.ensures in
    end_rests g.row.D.coded g.row.T.coded g.T.Dest.lines (disk g.D.Disk) (destination g.T.Dest)
    c.args.batcher c.args.moment c.args.job c.args.reply c.args.self.now c.done-answer.new.self c.done-answer.result
    (record { added = e.added; stopped = e.stopped; undelivered = e.undelivered; noted = e.noted; down = e.down; no_memory = e.no_memory })
    c.trouble-before.ensures.sound c.trouble-after.ensures.sound c.requires.runs
