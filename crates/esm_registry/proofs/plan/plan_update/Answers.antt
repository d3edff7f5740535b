use Rattle.std.proofs.Common.{◌≡◌, ◌∙◌, Some, IfOk, ap, subst, sym}
use Rattle.serde_json.specs.View.{view}
use Rattle.esm_registry.specs.Applying.{IsPlan, IsUpdate, update_step}
use Rattle.esm_registry.specs.Configs.{update_judged}
use Rattle.esm_registry.specs.Lists.{mapping_at}
use Rattle.esm_registry.specs.Machine.{updated_at, updated_by}
use Rattle.esm_registry.proofs.Planning.{found_id}
use Rattle.esm_registry.proofs.plan.plan_update.Goals as goal

pub plan_update_of-requires-clause-there : goal.plan_update_of-requires-clause-there
plan_update_of-requires-clause-there c =
    let m = c.in-Some.there.now in
    let list = c.args.table.now.mappings.list in
    let at : mapping_at c.args.id.now list ≡ Some m = sym c.in-Some.ensures in
    ap (λ i. mapping_at i list) (found_id c.args.id.now m list at) ∙ at

pub returns-in-Some : goal.returns-in-Some
returns-in-Some c =
    let m = c.in-Some.there.now in
    let s = c.args.table.now.mappings in
    let d = view c.args.value.now in
    let at : mapping_at c.args.id.now s.list ≡ Some m = sym c.in-Some.ensures in
    subst (λ st. IfOk c.plan_update_of.result (IsPlan (update_step s) (IsUpdate s) s st))
    (ap (λ i. updated_by s i m c.args.moment (update_judged m.config d)) (found_id c.args.id.now m s.list at) ∙ sym (ap (updated_at s c.args.id.now d c.args.moment) at))
    c.plan_update_of.ensures
