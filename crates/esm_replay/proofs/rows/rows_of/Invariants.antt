use Rattle.std.proofs.Common.{◌≡◌, ℕ, [], List}
use Rattle.std.specs.Ordering.{nat_cmp}
use Rattle.std.specs.BTreeMap.{get}
use Rattle.esm_model.specs.declared.config.Config.{Config}
use Rattle.esm_journal_state.specs.SaidLists.{SaidLists}
use Rattle.esm_replay_model.specs.declared.range.Range.{Range}
use Rattle.esm_replay.specs.Records.{setting_with, are_named}
use Rattle.esm_replay.specs.Rows.{count_in, came_in, IsRowAt}
use Rattle.esm_replay.proofs.rows.rows_of.Given as goal

abbrev pub invariant-loop-i : goal.invariant-loop-i
invariant-loop-i l = record {
  came : (q : ℕ) → came_in (get nat_cmp l.rows q) ≡ count_in q l.records l.i;
  rows : (told : SaidLists) (ranges : List Range) → l.named ≡ are_named told ranges [] l.records → (config : Config) (calls q : ℕ) → IsRowAt (setting_with config calls told ranges l.records) l.records q (count_in q l.records l.i) (get nat_cmp l.rows q);
}
