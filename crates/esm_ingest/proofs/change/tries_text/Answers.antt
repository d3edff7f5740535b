use Rattle.esm_journal_state.specs.Meaning.{tries_kept}
use Rattle.esm_journal_state.specs.SaidLists.{tries_told}
use Rattle.esm_ingest.proofs.Changing.{tries_text_none, tries_text_some}
use Rattle.esm_ingest.proofs.change.tries_text.Goals as goal

pub returns-in-None : goal.returns-in-None
returns-in-None c = tries_text_none (tries_told c.args.said.now c.args.shard c.args.place) c.in-None.ensures

pub returns-in-Some : goal.returns-in-Some
returns-in-Some c = tries_text_some (tries_told c.args.said.now c.args.shard c.args.place) (tries_kept c.in-Some.found.tries c.in-Some.found.text.now) c.in-Some.ensures
