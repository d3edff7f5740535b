use Rattle.esm_recorder.proofs.Logs.{log_tells}
use Rattle.esm_recorder.proofs.laws.log_tells.Goals as goal

pub returns : goal.returns
returns g c = log_tells g.F.Caller.log
