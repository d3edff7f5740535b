use Rattle.esm_io.specs.Meanings.{disk}
use Rattle.esm_journal.specs.File.{header_of}
use Rattle.esm_journal.proofs.Rewrites.{pair_keeps}
use Rattle.esm_journal.proofs.Stops.{in_places}
use Rattle.esm_journal.proofs.pair.Pair.payloads.Goals as goal

pub returns-clause-kept : goal.returns-clause-kept
returns-clause-kept g c =
    rw (← c.self.view_is) (pair_keeps (disk g.D.Disk) g.met.D.Disk.only_now
    c.self.inside.log c.self.inside.spare c.self.inside.spare_sealed c.self.invariant.0 c.self.invariant.1)

pub returns-clause-stopped : goal.returns-clause-stopped
returns-clause-stopped g c =
    rw (← c.self.view_is) (λ h1 h2 down. in_places (disk g.D.Disk) (header_of 2) c.self.inside.log.epoch c.self.inside.log.payloads.items c.self.inside.log.disk c.self.inside.spare c.self.inside.swapped
    (c.self.invariant.1.stopped h1 h2 down))
