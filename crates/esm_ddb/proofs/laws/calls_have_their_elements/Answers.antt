use Rattle.esm_ddb.proofs.BatchEvents.{calls_are, running_is}
use Rattle.esm_ddb.proofs.KeptStates.{kept, none_found}
use Rattle.esm_ddb.proofs.laws.calls_have_their_elements.Goals as goal

pub returns-clause-states : goal.returns-clause-states
returns-clause-states c = none_found

pub returns-clause-kept : goal.returns-clause-kept
returns-clause-kept c = kept

pub returns-clause-calls : goal.returns-clause-calls
returns-clause-calls c = calls_are

pub returns-clause-running : goal.returns-clause-running
returns-clause-running c = running_is
