use Rattle.std.proofs.Common.{◌≡◌, ◌<◌, ◌^◌, ◌∙◌, ℕ, true, None, length, sym, ap, arith, eqb}
use Rattle.std.specs.Prelude.{is_some, nat_eq}
use Rattle.std.specs.List.{list_any}
use Rattle.std.specs.Map.{count_at}
use Rattle.std.specs.Ordering.{nat_cmp}
use Rattle.std.specs.BTreeMap as map
use Rattle.std.proofs.lemmas.List.{length-map}
use Rattle.esm_model.specs.declared.setup.FoundFate.{FoundFate}
use Rattle.esm_journal_state.specs.SaidLists.{SaidLists, IsInOrder, fate_told, fates_count, has_shard}
use Rattle.esm_journal_state.specs.Tells.{Tells, fate_of_found}
use Rattle.esm_journal_state.specs.View.{found_fate, found_deletion}
use Rattle.esm_journal_state.proofs.Finding.{count-made, fate_found, is_some-option_map, None-from_option_map}
use Rattle.esm_journal_state.proofs.Gathering.{with_row, told_in_order, told_tells, told_shards}
use Rattle.esm_journal_state.proofs.gather.gathered.Goals as goal

pub invariant_of-result : goal.invariant_of-result
invariant_of-result c =
    let t = c.args.table in
    let row = c.in_ok-row.row.items in
    let states = c.in_ok-states.states.items in
    let same = c.in_ok-row.ensures in
    let counts : ℕ → ℕ = λ n. count_at (map.get nat_cmp c.in_ok-counts.counts) n in
    let frontier : ℕ → ℕ = λ n. count_at (map.get nat_cmp c.in_ok-frontiers.frontiers) n in
    record {
      order = with_row IsInOrder t row states same (told_in_order t states c.in_order.ensures c.in_ok-states.ensures);
      rising = c.in_ok-shards.ensures.rising;
      shards = λ n.
          with_row (λ (l : SaidLists). list_any (nat_eq n) c.in_ok-shards.shards.items ≡ has_shard l n) t row states same (c.in_ok-shards.ensures.all n ∙ told_shards t states n c.in_ok-states.ensures);
      counts = λ n. with_row (λ (l : SaidLists). counts n ≡ fates_count l n) t row states same (c.in_ok-counts.ensures n ∙ sym (count-made found_fate (λ (f : FoundFate). eqb f.shard n) t.fates.entries));
      below = λ n i lt. with_row (λ (l : SaidLists). is_some (fate_told l n i) ≡ true) t row states same (is_some-option_map fate_of_found _ ∙ ap is_some (fate_found t.fates.entries n i) ∙ c.in_ok-frontiers.ensures.below n i lt);
      end = λ n. with_row (λ (l : SaidLists). fate_told l n (frontier n) ≡ None) t row states same (None-from_option_map fate_of_found _ (fate_found t.fates.entries n (frontier n) ∙ c.in_ok-frontiers.ensures.end n));
      fates = with_row (λ (l : SaidLists). length l.fates < 2 ^ 32) t row states same (omega (arith, length-map t.fates.entries found_fate));
      deletions = omega (arith, length-map t.deletions.entries found_deletion);
    }

pub returns-clause-told : goal.returns-clause-told
returns-clause-told c = λ h table.
    with_row (λ (l : SaidLists). Tells l h) c.args.table c.in_ok-row.row.items c.in_ok-states.states.items c.in_ok-row.ensures
    (told_tells c.args.table c.in_ok-states.states.items h c.in_ok-states.ensures table)

pub returns-clause-order : goal.returns-clause-order
returns-clause-order c =
    with_row IsInOrder c.args.table c.in_ok-row.row.items c.in_ok-states.states.items c.in_ok-row.ensures
    (told_in_order c.args.table c.in_ok-states.states.items c.in_order.ensures c.in_ok-states.ensures)
