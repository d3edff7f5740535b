use Rattle.esm_filter.proofs.TextLemmas.{judges_records, judges_messages}
use Rattle.esm_filter.proofs.criteria.Criteria.read.Goals as goal

pub returns-clause-records : goal.returns-clause-records
returns-clause-records c = judges_records c.args.kind c.args.texts.now c.read_all.result (rw (← c.is_stream.ensures) c.read_all.ensures)

pub returns-clause-messages : goal.returns-clause-messages
returns-clause-messages c = judges_messages c.args.kind c.args.texts.now c.read_all.result (rw (← c.is_stream.ensures) c.read_all.ensures)
