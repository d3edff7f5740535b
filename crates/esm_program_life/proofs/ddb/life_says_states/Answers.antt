use Rattle.esm_program_life.proofs.DdbStates.{says_states}
use Rattle.esm_program_life.proofs.ddb.life_says_states.Goals as goal

pub returns : goal.returns
returns c = says_states c.calls_have_their_elements.ensures.kept c.life_is_under_replays.ensures c.fates_and_tries_stay.ensures
