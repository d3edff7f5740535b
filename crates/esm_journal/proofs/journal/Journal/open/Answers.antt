use Rattle.std.proofs.Common.{refl, sym, subst}
use Rattle.esm_io.specs.Meanings.{disk}
use Rattle.esm_journal.specs.File.{header_of, IsFile}
use Rattle.esm_journal.proofs.States.{opens, keeps_file}
use Rattle.esm_journal.proofs.journal.Journal.open.Goals as goal

pub returns-in-Ok-clause-opened : goal.returns-in-Ok-clause-opened
returns-in-Ok-clause-opened g c = λ h.
    opens (header_of 1) c.in-Ok.found.epoch c.in-Ok.found.payloads.items (g.D.Disk.content c.args.disk) refl (c.in-Ok.ensures.found h)

pub returns-in-Ok-clause-kept : goal.returns-in-Ok-clause-kept
returns-in-Ok-clause-kept g c = λ h.
    keeps_file (disk g.D.Disk) (header_of 1) c.in-Ok.found.epoch c.in-Ok.found.payloads.items c.read_file.new.disk refl
    (subst (IsFile (header_of 1) c.in-Ok.found.epoch c.in-Ok.found.payloads.items) (sym (c.read_file.ensures.only_read.same h)) (c.in-Ok.ensures.found h)) (c.in-Ok.ensures.durable h)
