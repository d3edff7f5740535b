use Rattle.std.proofs.Common.{◌∙◌, ◌+◌, sym, ap, arith}
use Rattle.esm_registry.specs.Lists.{uuid_of}
use Rattle.esm_registry.specs.Machine.{answered}
use Rattle.esm_registry.proofs.Planning.{created_refused, created_is, created_new, created_says}
use Rattle.esm_registry.proofs.plan.plan_creation.Goals as goal

pub returns-then-refused : goal.returns-then-refused
returns-then-refused c =
    let s = c.args.table.now.mappings in
    created_refused s c.args.config c.args.moment (sym c.has_conflict-refused.ensures ∙ c.if-refused.true)
    ∙ ap (answered s) (sym c.in_ok-answer.ensures)

pub returns : goal.returns
returns c =
    let s = c.args.table.now.mappings in
    let id = c.in_ok-id.id in
    let payload = c.in_ok-payload.payload.items in
    let free = sym c.has_conflict-refused.ensures ∙ c.if-refused.false in
    let id_is = c.in_ok-id.ensures ∙ ap (λ n. uuid_of c.args.config (n + 1)) c.created-number.ensures.created in
    let none = created_new s c.args.config id free id_is in (
      created_is s c.args.config c.args.moment id payload c.from_vec-text.result free id_is (c.from_vec-text.ensures ∙ c.in_ok-written.ensures) c.in_ok-payload.ensures.bytes,
      record {
        payload = record { short = c.in_ok-payload.ensures.short; says = created_says s payload id c.args.moment c.args.config c.in_ok-payload.ensures.reads none };
        is_new = none;
        pair = c.in_ok-pair.ensures;
        undo = c.in_ok-undo.ensures;
        given = c.requires.given;
        counts = omega (arith, c.created-number.ensures.created);
      },
    )
