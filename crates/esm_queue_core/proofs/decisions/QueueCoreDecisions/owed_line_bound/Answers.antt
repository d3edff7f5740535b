use Rattle.esm_queue_core.specs.CoreView.{all_messages}
use Rattle.esm_queue_core.proofs.Tellings.{no_lines}
use Rattle.esm_queue_core.proofs.decisions.QueueCoreDecisions.owed_line_bound.Goals as goal

pub returns-clause-none : goal.returns-clause-none
returns-clause-none c = no_lines (all_messages c.args.self.now) c.args.self.now.owed
