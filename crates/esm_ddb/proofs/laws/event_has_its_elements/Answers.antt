use Rattle.esm_ddb.proofs.RunEvents.{first_state, has_elements, no_longer, source_of_bytes}
use Rattle.esm_ddb.proofs.laws.event_has_its_elements.Goals as goal

pub returns-clause-elements : goal.returns-clause-elements
returns-clause-elements c = has_elements

pub returns-clause-first_state : goal.returns-clause-first_state
returns-clause-first_state c = first_state

pub returns-clause-length : goal.returns-clause-length
returns-clause-length c = no_longer

pub returns-clause-source : goal.returns-clause-source
returns-clause-source c = source_of_bytes
