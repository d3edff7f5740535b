use Rattle.std.proofs.Common.{length}
use Rattle.esm_queue_core.specs.CoreView.{moment_for}
use Rattle.esm_queue_book.proofs.Timed.{came_have, ended_have, next_has}
use Rattle.esm_queue_book.proofs.moments.entries_have_moment.Goals as goal

pub returns-clause-came : goal.returns-clause-came
returns-clause-came c = λ v items moment. came_have v.setting (length v.setting.messages) items (moment_for v.past moment)

pub returns-clause-next : goal.returns-clause-next
returns-clause-next c = next_has

pub returns-clause-ended : goal.returns-clause-ended
returns-clause-ended c = ended_have
