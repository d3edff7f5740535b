use Rattle.std.proofs.Common.{◌∙◌, ap, refl, sym}
use Rattle.std.specs.BTreeMap.{is_at}
use Rattle.std.specs.Map.{lookup, values_of}
use Rattle.esm_registry.specs.Places.{id_cmp}
use Rattle.esm_registry.proofs.IndexChanges.{index_added, list_added}
use Rattle.esm_registry.proofs.IndexCounts.{absent, index_like, restored}
use Rattle.esm_registry.proofs.Results.{on_ok_at, on_err_at, on_err}
use Rattle.esm_registry.proofs.places.place.Goals as goal

pub returns-in_err-insert-clause-index_kept : goal.returns-in_err-insert-clause-index_kept
returns-in_err-insert-clause-index_kept c =
    on_err c.from_residual.result
    (index_like c.args.mappings.now c.args.mappings.now c.args.places.now c.insert.new.self c.args.next c.requires.index refl
    (λ q. ap (lookup (is_at (id_cmp q))) c.in_err-insert.ensures.err))

pub returns-clause-index : goal.returns-clause-index
returns-clause-index c =
    let fine = sym c.is_err.ensures.value ∙ c.if-is_err.false in
    index_added c.args.mappings.now c.insert-2.new.self c.args.places.now c.insert.new.self c.args.next c.args.mapping c.requires.index c.requires.is_new c.requires.given
    c.in_ok-insert.ensures.updates (on_ok_at c.insert-2.result fine c.insert-2.ensures.entries) (on_ok_at c.insert-2.result fine c.insert-2.ensures.updates)
    c.insert-2.ensures.ordered

pub returns-clause-list : goal.returns-clause-list
returns-clause-list c =
    let fine = sym c.is_err.ensures.value ∙ c.if-is_err.false in
    list_added c.args.mappings.now c.insert-2.new.self c.args.places.now c.args.next c.args.mapping c.requires.index (on_ok_at c.insert-2.result fine c.insert-2.ensures.entries)

pub returns-then-is_err-clause-index_kept : goal.returns-then-is_err-clause-index_kept
returns-then-is_err-clause-index_kept c =
    let failed = sym c.is_err.ensures.value ∙ c.if-is_err.true in
    index_like c.args.mappings.now c.insert-2.new.self c.args.places.now c.remove.new.self c.args.next c.requires.index (on_err_at c.insert-2.result failed c.insert-2.ensures.err)
    (restored c.args.places.now c.insert.new.self c.remove.new.self c.args.mapping.id c.args.next
    (absent c.args.mappings.now c.args.places.now c.args.next c.args.mapping.id c.requires.index c.requires.is_new)
    c.in_ok-insert.ensures.updates c.remove.ensures.updates)

pub returns-then-is_err-clause-list_kept : goal.returns-then-is_err-clause-list_kept
returns-then-is_err-clause-list_kept c = ap values_of (on_err_at c.insert-2.result (sym c.is_err.ensures.value ∙ c.if-is_err.true) c.insert-2.ensures.err)
