use Rattle.std.specs.Prelude.{vec_len}
use Rattle.esm_ledger.specs.Ledger.{setting_of}
use Rattle.esm_stream_core.proofs.Endings.{IsTurned}
use Rattle.esm_stream_core.proofs.payload.dues_owed.Given as goal

abbrev pub invariant-loop-due : goal.invariant-loop-due
invariant-loop-due l = IsTurned (setting_of l.ledger) l.lane l.moment l.fn.dues.items l.dues.items l.owed.items

abbrev pub decreases-loop-due : goal.decreases-loop-due
decreases-loop-due l = vec_len l.dues
