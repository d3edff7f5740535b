use Rattle.std.proofs.Common.{take}
use Rattle.esm_model.specs.Entries.{holds}
use Rattle.esm_verdict.specs.Flags.{AreFlags}
use Rattle.esm_verdict.proofs.positions.flags.Given as goal

abbrev pub invariant-loop-position : goal.invariant-loop-position
invariant-loop-position l = AreFlags (holds (take l.position-index l.reported)) l.count l.flags.items
