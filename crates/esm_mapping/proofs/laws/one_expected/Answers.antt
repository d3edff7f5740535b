use Rattle.esm_mapping.proofs.OneAnswer.{no_reason_expected, one_expected, one_reason_expected}
use Rattle.esm_mapping.proofs.laws.one_expected.Goals as goal

pub returns-clause-one_mapping : goal.returns-clause-one_mapping
returns-clause-one_mapping c = one_expected

pub returns-clause-no_reason : goal.returns-clause-no_reason
returns-clause-no_reason c = no_reason_expected

pub returns-clause-one_reason : goal.returns-clause-one_reason
returns-clause-one_reason c = one_reason_expected
