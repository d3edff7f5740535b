use Rattle.esm_replay_core.specs.Told.{owed_of}
use Rattle.esm_replay_core.proofs.Tellings.{no_lines}
use Rattle.esm_replay_core.proofs.decisions.ReplayCoreDecisions.owed_line_bound.Goals as goal

pub returns-clause-none : goal.returns-clause-none
returns-clause-none c = no_lines (owed_of c.args.self.now)
