use Rattle.esm_ddb.proofs.RecordsTurned.{of_changes, records_of_lines}
use Rattle.esm_ddb.proofs.laws.records_are_of_lines.Goals as goal

pub returns-clause-lines : goal.returns-clause-lines
returns-clause-lines c = records_of_lines

pub returns-clause-changes : goal.returns-clause-changes
returns-clause-changes c = of_changes
