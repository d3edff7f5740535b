use Rattle.std.proofs.Common.{◌==◌, ◌||◌, eqb, ◌∙◌, ap}
use Rattle.std.specs.List.{list_any}
use Rattle.std.specs.Ordering.{nat_cmp, is_eq}
use Rattle.std.specs.BTreeSet as set
use Rattle.std.proofs.lemmas.Result.{IfOk-weaker}
use Rattle.esm_journal_state.proofs.Finding.{any_number}
use Rattle.esm_journal_state.proofs.Gathering.{four_added}
use Rattle.esm_journal_state.proofs.gather.shards_of.Goals as goal

pub returns-clause-all : goal.returns-clause-all
returns-clause-all c =
    IfOk-weaker c.numbers_of.result _ _
    (λ v e n.
    ap (λ ks. list_any (eqb n) ks) e
    ∙ any_number c.add_shards-4.new.shards.keys n
    ∙ four_added (list_any (λ k. k.0.0 == n) c.args.fates.now.entries) (list_any (λ k. k.0.0 == n) c.args.tries.now.entries)
    (list_any (λ k. k.0.0 == n) c.args.states.now.entries) (list_any (λ k. k.0.0 == n) c.args.window_tries.now.entries)
    (set.contains nat_cmp c.add_shards-3.new.shards n) (set.contains nat_cmp c.add_shards-2.new.shards n) (set.contains nat_cmp c.add_shards.new.shards n) (set.contains nat_cmp c.add_shards-4.new.shards n)
    (c.in_ok-add_shards-4.ensures n) (c.in_ok-add_shards-3.ensures n) (c.in_ok-add_shards-2.ensures n)
    (c.in_ok-add_shards.ensures n ∙ ap (λ ks. list_any (λ k. k.0.0 == n) c.args.window_tries.now.entries || list_any (λ k. is_eq (nat_cmp n k)) ks) c.new-shards.ensures.empty))
    c.numbers_of.ensures.items
