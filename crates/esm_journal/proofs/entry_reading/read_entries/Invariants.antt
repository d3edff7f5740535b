use Rattle.std.proofs.Common.{◌-◌}
use Rattle.esm_io.specs.Meanings.{disk}
use Rattle.esm_journal.proofs.Loops.{HasRead}
use Rattle.esm_journal.proofs.entry_reading.read_entries.Given as goal

abbrev pub invariant-loop-ahead : goal.invariant-loop-ahead
invariant-loop-ahead g l =
    HasRead (disk g.D.Disk) l.size l.fn.disk l.disk l.payloads.items l.place l.ahead

abbrev pub decreases-loop-ahead : goal.decreases-loop-ahead
decreases-loop-ahead g l = l.size - l.place
