use Rattle.std.proofs.Common.{arith}
use Rattle.esm_redrive_core.proofs.Stepping.{decided_sound}
use Rattle.esm_redrive_core.proofs.laws.decided_is_sound.Goals as goal

pub returns : goal.returns
returns c = λ v asked given is sound may answered.
    decided_sound v asked given (c.due_by_queue.ensures v.setting v.past (let most = is.few_receives in omega (arith, most)) sound.legal) is sound may answered
