use Rattle.std.proofs.Common.{◌+◌, [], arith}
use Rattle.esm_workers.proofs.Later.{follow_other}
use Rattle.esm_workers.specs.Hands.{meanings}
use Rattle.esm_workers.proofs.Whole.{Stays, none_tells}
use Rattle.esm_workers.proofs.behind.none_begins.Goals as goal

pub returns-clause-tells : goal.returns-clause-tells
returns-clause-tells g c =
    let m = meanings g.T.Kept g.T.Pooled g.C.Clock g.F.Caller in
    let stays : Stays m = record { no_calls = c.begins.ensures.calls; at_rest = c.begins.ensures.rests; calls = c.stays.ensures.calls; rests = c.stays.ensures.rests; runs = c.stays.ensures.runs; finished = c.stays.ensures.finished; spent = c.stays.ensures.spent } in
    none_tells m stays (g.T.Kept.setup c.args.book) c.args.batchers (g.T.Kept.history c.args.book) (g.T.Kept.mark c.args.book) c.args.short c.args.callers.items c.requires.legal c.requires.moments c.requires.unused c.requires.why

pub returns-clause-later : goal.returns-clause-later
returns-clause-later g c = λ k. follow_other (g.T.Kept.author (g.T.Kept.setup c.args.book)) (k + 1) [] (g.T.Kept.history c.args.book) (c.requires.unused (k + 1) (omega arith))
