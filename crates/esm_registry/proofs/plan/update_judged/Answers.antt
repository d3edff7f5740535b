use Rattle.std.proofs.Common.{sym}
use Rattle.serde_json.specs.View.{view}
use Rattle.esm_config.specs.Merge.{judge_update}
use Rattle.esm_registry.specs.Configs.{update_judged}
use Rattle.esm_registry.proofs.Results.{ok_from, err_from}
use Rattle.esm_registry.proofs.plan.update_judged.Goals as goal

pub returns-in-Ok-clause-judged : goal.returns-in-Ok-clause-judged
unfolding update_judged
returns-in-Ok-clause-judged c = sym (ok_from (judge_update c.args.old.now (view c.args.value.now)) c.in-Ok.config c.in-Ok.ensures.ok)

pub returns-in-Err-BadParam-clause-judged : goal.returns-in-Err-BadParam-clause-judged
unfolding update_judged
returns-in-Err-BadParam-clause-judged c = sym (err_from (judge_update c.args.old.now (view c.args.value.now)) c.in-Err-BadParam.param (rw c.in-Err-BadParam.field-0-is at c.in-Err-BadParam.ensures.bad))
