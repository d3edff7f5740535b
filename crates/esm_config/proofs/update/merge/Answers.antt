use Rattle.std.proofs.Common.{◌∙◌, ap, refl}
use Rattle.serde_json.specs.Data.{object}
use Rattle.serde_json.specs.View.{members_view, view}
use Rattle.esm_config.specs.Member.{members_of}
use Rattle.esm_config.specs.Merge.{judge_update, updated_fields}
use Rattle.esm_config.proofs.Telling.{of_update, tells_bad, tells_given, tells_ok}
use Rattle.esm_config.proofs.update.merge.Goals as goal

pub returns-clause-ok : goal.returns-clause-ok
returns-clause-ok c =
    let before = ap members_of c.as_slice.ensures.value ∙ c.in_ok-before.ensures.members in
    tells_ok c.judged.result (judge_update c.args.old.now (view c.args.value.now))
    (of_update c.args.old.now (members_of c.as_slice.result.now) (view c.args.value.now) (members_view c.in-Some.members.now.entries) c.judged.result before c.in-Some.ensures c.judged.ensures)

pub returns-clause-given : goal.returns-clause-given
returns-clause-given c =
    tells_given c.judged.result (updated_fields (object (members_of c.as_slice.result.now)) (view c.args.value.now)) (members_view c.in-Some.members.now.entries) refl c.judged.ensures

pub returns-clause-bad : goal.returns-clause-bad
returns-clause-bad c =
    let before = ap members_of c.as_slice.ensures.value ∙ c.in_ok-before.ensures.members in
    tells_bad c.judged.result (judge_update c.args.old.now (view c.args.value.now))
    (of_update c.args.old.now (members_of c.as_slice.result.now) (view c.args.value.now) (members_view c.in-Some.members.now.entries) c.judged.result before c.in-Some.ensures c.judged.ensures)
