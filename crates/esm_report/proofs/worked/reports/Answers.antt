use Rattle.std.proofs.Common.{refl}
use Rattle.std.specs.Fmt.{digits}
use Rattle.esm_report.specs.Worked.{EmptyQueue, OneFound, ChangedMessage, NothingRan}
use Rattle.esm_report.proofs.worked.reports.Goals as goal

empty_queue : EmptyQueue
unfolding digits
empty_queue = refl

one_found : OneFound
unfolding digits
one_found = refl

changed_message : ChangedMessage
unfolding digits
changed_message = refl

nothing_ran : NothingRan
nothing_ran s h = refl

pub returns : goal.returns
returns c = record { empty_queue = empty_queue; one_found = one_found; changed_message = changed_message; nothing_ran = nothing_ran }
