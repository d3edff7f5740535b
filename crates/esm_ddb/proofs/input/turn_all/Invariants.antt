-- No line so far is bad.
use Rattle.std.specs.Prelude.{◌<◌, vec_len}
use Rattle.esm_ddb.specs.Translating.{source_of}
use Rattle.esm_ddb.specs.TurnedSoFar.{IsTurnedSoFar}
use Rattle.esm_ddb.proofs.input.turn_all.Given as goal

abbrev pub invariant-loop : goal.invariant-loop
invariant-loop g l = (0 < vec_len l.buffer) × IsTurnedSoFar g.S.Source.faults g.S.Source.left (source_of l.config) l.fn.source l.source l.translator l.text
