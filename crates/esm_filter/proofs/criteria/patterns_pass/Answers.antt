use Rattle.esm_filter.specs.Judged.{judged_view}
use Rattle.esm_filter.proofs.CriteriaLemmas.{some_patterns}
use Rattle.esm_filter.proofs.criteria.patterns_pass.Goals as goal

pub returns : goal.returns
returns c = some_patterns c.args.patterns.now (judged_view c.args.found) c.one_passes.result c.is_empty-none.result c.is_empty-none.ensures c.if-none.false c.one_passes.ensures
