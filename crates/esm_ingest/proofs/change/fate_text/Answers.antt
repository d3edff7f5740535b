use Rattle.esm_journal_state.specs.Meaning.{fate_kept}
use Rattle.esm_journal_state.specs.SaidLists.{fate_told}
use Rattle.esm_ingest.proofs.Changing.{fate_text_none, fate_text_some}
use Rattle.esm_ingest.proofs.change.fate_text.Goals as goal

pub returns-in-None : goal.returns-in-None
returns-in-None c = fate_text_none (fate_told c.args.said.now c.args.shard c.args.place) c.in-None.ensures

pub returns-in-Some : goal.returns-in-Some
returns-in-Some c = fate_text_some (fate_told c.args.said.now c.args.shard c.args.place) (fate_kept c.in-Some.found.fate c.in-Some.found.text.now) c.in-Some.ensures
