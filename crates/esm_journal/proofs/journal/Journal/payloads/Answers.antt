use Rattle.esm_io.specs.Meanings.{disk}
use Rattle.esm_journal.specs.File.{header_of}
use Rattle.esm_journal.proofs.States.{keeps, still_opens}
use Rattle.esm_journal.proofs.journal.Journal.payloads.Goals as goal

pub returns-clause-kept : goal.returns-clause-kept
returns-clause-kept g c =
    rw (← c.self.view_is) (keeps (disk g.D.Disk) (header_of 1) c.self.inside.log c.self.invariant.1 c.self.invariant.0)

pub returns-clause-stopped : goal.returns-clause-stopped
returns-clause-stopped g c =
    rw (← c.self.view_is) (still_opens (disk g.D.Disk) (header_of 1) c.self.inside.log c.self.invariant.1 c.self.invariant.0)
