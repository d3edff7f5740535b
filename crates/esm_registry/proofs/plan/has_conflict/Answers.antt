use Rattle.std.proofs.Common.{◌<◌, ◌≤◌, ◌∙◌, sym, subst}
use Rattle.esm_registry.specs.Pairs.{arns}
use Rattle.esm_registry.proofs.Planning.{conflict_taken, conflict_found}
use Rattle.esm_registry.proofs.plan.has_conflict.Goals as goal

pub returns-then-alike-gt0 : goal.returns-then-alike-gt0
returns-then-alike-gt0 c =
    sym (conflict_taken c.args.table.now.mappings c.args.config.now (arns c.args.pair.now) c.requires.pair
    (subst (λ n. 0 < n) c.count-alike.ensures c.if-alike-gt0.true))

pub returns : goal.returns
returns c =
    c.is_some.ensures ∙ conflict_found c.args.table.now.mappings c.args.config.now (arns c.args.pair.now) c.args.id.now c.find.result c.requires.pair
    (subst (λ n. n ≤ 0) c.count-alike.ensures c.if-alike-gt0.false) c.requires.id c.find.ensures
