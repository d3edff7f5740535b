use Rattle.std.proofs.Common.{take}
use Rattle.esm_replay_core.specs.Told.{owed_of}
use Rattle.esm_replay_core.proofs.Tellings.{no_lines}
use Rattle.esm_replay_core.proofs.decisions.ReplayCoreDecisions.first_line.Goals as goal

pub returns-clause-none : goal.returns-clause-none
returns-clause-none c = no_lines (take 1 (owed_of c.args.self.now))
