use Rattle.std.proofs.Common.{option_map}
use Rattle.serde_json.specs.Read.{read}
use Rattle.esm_model.specs.Filter.{in_message}
use Rattle.esm_filter.specs.Found.{found_view}
use Rattle.esm_filter.proofs.CriteriaLemmas.{judged_message, no_patterns}
use Rattle.esm_filter.proofs.criteria.Criteria.passes_message.Goals as goal

pub returns-then-none : goal.returns-then-none
returns-then-none c =
    no_patterns c.args.self.now.patterns.items (in_message c.args.item.now (read c.args.item.now.body)) c.has_no_patterns-none.result c.has_no_patterns-none.ensures c.if-none.true

pub returns : goal.returns
returns c =
    judged_message c.args.self.now.patterns.items c.as_slice-patterns.result.now c.args.item.now c.as_str.result.now (option_map found_view c.in_ok-json.json) c.message_passes.result
    c.as_slice-patterns.ensures.value c.as_str.ensures c.in_ok-json.ensures c.message_passes.ensures
