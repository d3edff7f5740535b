use Rattle.esm_tests_books.proofs.Mappings.{is_stream_config}
use Rattle.esm_tests_books.proofs.replay_opening.refusal.Goals as goal

pub open-requires-clause-config : goal.open-requires-clause-config
open-requires-clause-config c = is_stream_config _ c.in_ok-config.ensures
