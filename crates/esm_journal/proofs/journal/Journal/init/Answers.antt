use Rattle.std.proofs.Common.{[], refl}
use Rattle.esm_io.specs.Meanings.{disk}
use Rattle.esm_journal.specs.File.{header_of}
use Rattle.esm_journal.proofs.FreshFiles.{fresh_is_file}
use Rattle.esm_journal.proofs.States.{keeps_file}
use Rattle.esm_journal.proofs.journal.Journal.init.Goals as goal

pub returns-in-Ok-clause-kept : goal.returns-in-Ok-clause-kept
returns-in-Ok-clause-kept g c = λ h.
    keeps_file (disk g.D.Disk) (header_of 1) 1 [] c.write_fresh.new.disk refl
    (fresh_is_file (header_of 1) (g.D.Disk.content c.write_fresh.new.disk) (c.in-Ok.ensures.made h)) (c.in-Ok.ensures.durable h)
