use Rattle.esm_io.specs.Meanings.{disk, destination}
use Rattle.esm_stream_book.proofs.PoolingSteps.{rests_still}
use Rattle.esm_stream_book.proofs.PoolingAsked.{may_ask, ask_goes_on, ask_moments, ask_no_end, ask_answer, ask_finished, ask_spent, ask_rests}
use Rattle.esm_stream_book.proofs.PoolingTimed.{asked_timed}
use Rattle.esm_stream_book.proofs.pooled.BookPooled.ask.Goals as goal

pub next-answer-requires : goal.next-answer-requires
next-answer-requires g c = record {
  rests = may_ask c.args.self.now c.args.batcher (rests_still g.row.D.coded g.row.T.coded g.T.Dest.lines c.args.self.now c.args.batcher c.trouble-before.ensures.sound c.requires.rests);
}

pub returns-clause-goes_on : goal.returns-clause-goes_on
returns-clause-goes_on g c =
    let e = c.next-answer.ensures in
    ask_goes_on g.row.D.coded g.row.T.coded g.T.Dest.lines (disk g.D.Disk) (destination g.T.Dest)
    c.args.batcher c.args.moment c.args.self.now c.next-answer.new.self c.next-answer.result
    (record { answer = e.answer; added = e.added; stopped = e.stopped; undelivered = e.undelivered; runs = e.runs; down = e.down; left = e.left; no_memory = e.no_memory })
    c.trouble-before.ensures.sound c.trouble-after.ensures.sound c.requires.rests c.trouble-after.ensures.legal

pub returns-clause-moments : goal.returns-clause-moments
returns-clause-moments g c =
    let e = c.next-answer.ensures in
    ask_moments g.row.D.coded g.row.T.coded g.T.Dest.lines (disk g.D.Disk) (destination g.T.Dest)
    c.args.batcher c.args.moment c.args.self.now c.next-answer.new.self c.next-answer.result
    (record { answer = e.answer; added = e.added; stopped = e.stopped; undelivered = e.undelivered; runs = e.runs; down = e.down; left = e.left; no_memory = e.no_memory })
    c.trouble-before.ensures.sound c.trouble-after.ensures.sound c.requires.rests

pub returns-clause-timed : goal.returns-clause-timed
returns-clause-timed g c = λ gave.
    let e = c.next-answer.ensures in
    asked_timed gave (disk g.D.Disk) (destination g.T.Dest) c.args.batcher c.args.moment c.args.self.now c.next-answer.new.self c.next-answer.result
    (record { answer = e.answer; added = e.added; stopped = e.stopped; undelivered = e.undelivered; runs = e.runs; down = e.down; left = e.left; no_memory = e.no_memory })

pub returns-clause-no_end : goal.returns-clause-no_end
returns-clause-no_end g c =
    let e = c.next-answer.ensures in
    ask_no_end g.row.D.coded g.row.T.coded g.T.Dest.lines (disk g.D.Disk) (destination g.T.Dest)
    c.args.batcher c.args.moment c.args.self.now c.next-answer.new.self c.next-answer.result
    (record { answer = e.answer; added = e.added; stopped = e.stopped; undelivered = e.undelivered; runs = e.runs; down = e.down; left = e.left; no_memory = e.no_memory })
    c.trouble-before.ensures.sound c.trouble-after.ensures.sound c.requires.rests

pub returns-clause-answer : goal.returns-clause-answer
returns-clause-answer g c =
    let e = c.next-answer.ensures in
    ask_answer g.row.D.coded g.row.T.coded g.T.Dest.lines (disk g.D.Disk) (destination g.T.Dest)
    c.args.batcher c.args.moment c.args.self.now c.next-answer.new.self c.next-answer.result
    (record { answer = e.answer; added = e.added; stopped = e.stopped; undelivered = e.undelivered; runs = e.runs; down = e.down; left = e.left; no_memory = e.no_memory })
    c.trouble-before.ensures.sound c.trouble-after.ensures.sound c.requires.rests

pub returns-clause-finished : goal.returns-clause-finished
returns-clause-finished g c =
    let e = c.next-answer.ensures in
    ask_finished g.row.D.coded g.row.T.coded g.T.Dest.lines (disk g.D.Disk) (destination g.T.Dest)
    c.args.batcher c.args.moment c.args.self.now c.next-answer.new.self c.next-answer.result
    (record { answer = e.answer; added = e.added; stopped = e.stopped; undelivered = e.undelivered; runs = e.runs; down = e.down; left = e.left; no_memory = e.no_memory })
    c.trouble-before.ensures.sound c.trouble-after.ensures.sound c.requires.rests

pub returns-clause-spent : goal.returns-clause-spent
returns-clause-spent g c =
    let e = c.next-answer.ensures in
    ask_spent g.row.D.coded g.row.T.coded g.T.Dest.lines (disk g.D.Disk) (destination g.T.Dest)
    c.args.batcher c.args.moment c.args.self.now c.next-answer.new.self c.next-answer.result
    (record { answer = e.answer; added = e.added; stopped = e.stopped; undelivered = e.undelivered; runs = e.runs; down = e.down; left = e.left; no_memory = e.no_memory })
    c.trouble-before.ensures.sound c.trouble-after.ensures.sound c.requires.rests

pub returns-clause-rests : goal.returns-clause-rests
returns-clause-rests g c =
    let e = c.next-answer.ensures in
    ask_rests g.row.D.coded g.row.T.coded g.T.Dest.lines (disk g.D.Disk) (destination g.T.Dest)
    c.args.batcher c.args.moment c.args.self.now c.next-answer.new.self c.next-answer.result
    (record { answer = e.answer; added = e.added; stopped = e.stopped; undelivered = e.undelivered; runs = e.runs; down = e.down; left = e.left; no_memory = e.no_memory })
    c.trouble-before.ensures.sound c.trouble-after.ensures.sound c.requires.rests
