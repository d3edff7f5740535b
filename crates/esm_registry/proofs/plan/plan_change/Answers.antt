use Rattle.std.proofs.Common.{◌∙◌, ◌<◌, ◌≤◌, sym, ap, subst}
use Rattle.esm_registry.specs.Pairs.{arns}
use Rattle.esm_registry.specs.Machine.{answered}
use Rattle.esm_registry.proofs.Planning.{updated_refused, updated_is, updated_says}
use Rattle.esm_registry.proofs.plan.plan_change.Goals as goal

pub returns-then-alike-gt0 : goal.returns-then-alike-gt0
returns-then-alike-gt0 c =
    let s = c.args.table.now.mappings in
    updated_refused s c.args.there.now c.args.config c.args.moment (arns c.in_ok-pair.pair) c.in_ok-pair.ensures
    (subst (λ n. 0 < n) c.count_beside-alike.ensures c.if-alike-gt0.true)
    ∙ ap (answered s) (sym c.in_ok-answer.ensures)

pub returns : goal.returns
returns c =
    let s = c.args.table.now.mappings in
    let m = c.args.there.now in
    let payload = c.in_ok-payload.payload.items in (
      updated_is s m c.args.config c.args.moment (arns c.in_ok-pair.pair) payload c.from_vec-text.result c.in_ok-pair.ensures
          (subst (λ n. n ≤ 0) c.count_beside-alike.ensures c.if-alike-gt0.false) (c.from_vec-text.ensures ∙ c.in_ok-written.ensures) c.in_ok-payload.ensures.bytes,
      record {
        payload = record { short = c.in_ok-payload.ensures.short; says = updated_says s payload m c.args.moment c.args.config c.in_ok-payload.ensures.reads c.requires.there };
        its = record { mapping = m; there = c.requires.there; pair = c.in_ok-old.ensures };
        pair = c.in_ok-pair.ensures;
        given = c.requires.given;
      },
    )
