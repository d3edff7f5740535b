use Rattle.std.proofs.Common.{List, [], ◌∷◌, ◌++◌, sym, ap, ◌∙◌, arith}
use Rattle.esm_lanes.specs.declared.run.Run.{Run}
use Rattle.esm_lanes.specs.Run.{total, one_added, one}
use Rattle.esm_lanes.proofs.Runs.{one_added-joins, one_added-opens, count_le-total}
use Rattle.esm_lanes.proofs.run.add_one.Goals as goal

pub overflow_add-last : goal.overflow_add-last
overflow_add-last c =
    let before = ap total c.in-Some.ensures.items in
    omega (arith, count_le-total c.pop_back.new.self.items c.in-Some.last)

pub returns-then-takes-clause-runs : goal.returns-then-takes-clause-runs
returns-then-takes-clause-runs c =
    c.push_back_reserved-then-takes.ensures.items
    ∙ sym (one_added-joins c.args.standing c.pop_back.new.self.items c.in-Some.last (sym c.takes.ensures ∙ c.if-takes.true))
    ∙ ap (one_added c.args.standing) (sym c.in-Some.ensures.items)

pub returns-else-takes-clause-runs : goal.returns-else-takes-clause-runs
returns-else-takes-clause-runs c =
    c.push_back_reserved-else-takes-2.ensures.items
    ∙ ap (λ (xs : List Run). xs ++ one c.args.standing ∷ []) c.push_back_reserved-else-takes.ensures.items
    ∙ sym (one_added-opens c.args.standing c.pop_back.new.self.items c.in-Some.last (sym c.takes.ensures ∙ c.if-takes.false))
    ∙ ap (one_added c.args.standing) (sym c.in-Some.ensures.items)
