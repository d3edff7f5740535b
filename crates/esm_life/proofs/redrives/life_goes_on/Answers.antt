use Rattle.esm_io.specs.Meanings.{disk as meaning}
use Rattle.esm_life.proofs.RedriveFiles.{of_life}
use Rattle.esm_life.proofs.redrives.life_goes_on.Goals as goal

pub returns : goal.returns
returns g c = of_life (meaning g.D.Disk) c.run_is_stage.ensures
