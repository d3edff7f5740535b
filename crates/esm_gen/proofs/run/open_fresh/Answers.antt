use Rattle.std.proofs.Common.{refl}
use Rattle.esm_gen.proofs.Begun.{files_nothing}
use Rattle.esm_gen.proofs.run.open_fresh.Goals as goal

pub returns-in-Ok : goal.returns-in-Ok
returns-in-Ok c =
    files_nothing _ c.in-Ok.files c.args.disks.journal c.args.disks.spare c.keeps.ensures
    c.in-Ok.ensures.opened.0 c.in-Ok.ensures.opened.1 refl refl c.requires.journal c.requires.spare
