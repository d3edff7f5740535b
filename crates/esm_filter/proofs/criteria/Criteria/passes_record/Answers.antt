use Rattle.std.proofs.Common.{option_map, ◌∙◌}
use Rattle.esm_model.specs.Filter.{in_record}
use Rattle.esm_model.specs.Json.{read_json}
use Rattle.esm_filter.specs.Found.{found_view}
use Rattle.esm_filter.proofs.CriteriaLemmas.{judged_record, of_own_fields}
use Rattle.esm_filter.proofs.criteria.Criteria.passes_record.Goals as goal

pub returns-in-Some : goal.returns-in-Some
returns-in-Some c =
    of_own_fields c.args.self.now.patterns.items c.as_slice-patterns.result.now (in_record c.args.item.now (read_json c.args.item.now.payload)) c.in-Some.passes
    c.as_slice-patterns.ensures.value (c.in-Some.ensures.right (read_json c.args.item.now.payload))

pub returns : goal.returns
returns c =
    judged_record c.args.self.now.patterns.items c.as_slice-patterns.result.now c.args.item.now c.as_slice.result.now (option_map found_view c.in_ok-json.json) c.record_passes.result
    c.as_slice-patterns.ensures.value (c.as_slice.ensures.value ∙ c.in_ok-decoded.ensures) c.in_ok-json.ensures c.record_passes.ensures
