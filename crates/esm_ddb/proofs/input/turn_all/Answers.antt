use Rattle.std.proofs.Common.{[]}
use Rattle.esm_ddb.specs.Translating.{source_of}
use Rattle.esm_ddb.proofs.TurnedPieces.{at_last, begins, taken_again, taken_none}
use Rattle.esm_ddb.proofs.input.turn_all.Goals as goal

pub returns-in_err-translator-clause-taken : goal.returns-in_err-translator-clause-taken
returns-in_err-translator-clause-taken g c = ([], taken_none g.S.Source.faults g.S.Source.left c.args.source.now)

pub returns-in_err-buffer-clause-taken : goal.returns-in_err-buffer-clause-taken
returns-in_err-buffer-clause-taken g c = ([], taken_none g.S.Source.faults g.S.Source.left c.args.source.now)

pub loop-init : goal.loop-init
loop-init g c = (
  c.in_ok-buffer.ensures,
  begins g.S.Source.faults g.S.Source.left (source_of c.args.config.now) c.args.source.now c.in_ok-translator.translator c.args.text.now
      c.in_ok-translator.ensures.fed c.in_ok-translator.ensures.source c.in_ok-translator.ensures.going c.requires.empty,
)

pub returns-in_err-turned-clause-taken : goal.returns-in_err-turned-clause-taken
returns-in_err-turned-clause-taken g c =
    taken_again g.S.Source.faults g.S.Source.left (source_of c.args.config.now) c.args.source.now c.loop.source c.turn_more.new.source c.loop.translator c.loop.text c.loop.invariant.1 c.turn_more.ensures.taken

pub returns-in-Some-clause-turned : goal.returns-in-Some-clause-turned
returns-in-Some-clause-turned g c =
    at_last g.S.Source.faults g.S.Source.left (source_of c.args.config.now) c.args.source.now c.turn_more.new.source c.turn_more.new.translator c.turn_more.new.text c.in_ok-turned.turned c.in-Some.end
    c.in-Some.is (c.in_ok-turned.ensures.stands (source_of c.args.config.now) c.args.source.now c.loop.invariant.1)

pub returns-in-Some-clause-taken : goal.returns-in-Some-clause-taken
returns-in-Some-clause-taken g c =
    taken_again g.S.Source.faults g.S.Source.left (source_of c.args.config.now) c.args.source.now c.loop.source c.turn_more.new.source c.loop.translator c.loop.text c.loop.invariant.1 c.turn_more.ensures.taken
