use Rattle.esm_recorder.proofs.Logs.{logs_tell, lists_tell}
use Rattle.esm_recorder.proofs.laws.logs_tell.Goals as goal

pub returns-clause-below : goal.returns-clause-below
returns-clause-below g c = logs_tell g.F.Caller.log

pub returns-clause-kept : goal.returns-clause-kept
returns-clause-kept g c = lists_tell g.F.Caller.log
