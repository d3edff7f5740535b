use Rattle.std.proofs.Common.{◌∙◌, sym}
use Rattle.esm_registry.proofs.Planning.{deleted_is, deleted_says}
use Rattle.esm_registry.proofs.plan.plan_delete.Goals as goal

pub returns-in_ok-written-in-Some : goal.returns-in_ok-written-in-Some
returns-in_ok-written-in-Some c =
    let s = c.args.table.now.mappings in
    let m = c.in-Some.there.now in
    let id = c.args.id.now in
    let there = sym c.in-Some.ensures in
    let payload = c.in_ok-payload-in-Some.payload.items in (
      deleted_is s id m c.args.moment payload c.from_vec-text.result there (c.from_vec-text.ensures ∙ c.in_ok-written-in-Some.ensures) c.in_ok-payload-in-Some.ensures.bytes,
      record {
        payload = record { short = c.in_ok-payload-in-Some.ensures.short; says = deleted_says s payload id m c.args.moment c.in_ok-payload-in-Some.ensures.reads there };
        its = record { mapping = m; there = there; pair = c.in_ok-pair-in-Some.ensures };
      },
    )
