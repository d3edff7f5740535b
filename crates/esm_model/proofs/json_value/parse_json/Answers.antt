use Rattle.std.proofs.Common.{rules, arith}
use Rattle.std.proofs.lemmas.Grind.{common_steps}
use Rattle.serde_json.specs.Errors.{IsMemory}
use Rattle.serde_json.specs.View.{view}
use Rattle.esm_model.proofs.JsonLemmas.{json_read, json_refused}
use Rattle.esm_model.proofs.json_value.parse_json.Goals as goal

pub returns-in-Ok : goal.returns-in-Ok
returns-in-Ok c = json_read c.args.bytes.now (view c.in-Ok.value) c.in-Ok.ensures.ok.0 c.in-Ok.ensures.ok.1

pub returns-else-is_memory : goal.returns-else-is_memory
returns-else-is_memory c =
    let other : ¬ IsMemory c.in-Err.error = first_of (search rules, grind (arith, common_steps)) in
    json_refused c.args.bytes.now (λ text. c.in-Err.ensures.err other text)
