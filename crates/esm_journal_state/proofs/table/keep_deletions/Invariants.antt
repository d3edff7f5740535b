use Rattle.std.proofs.Common.{◌≡◌, ◌≤◌, ℕ, length, take, drop}
use Rattle.std.specs.Prelude.{option_map}
use Rattle.std.specs.Option.{option_or}
use Rattle.std.specs.Ordering.{nat_cmp}
use Rattle.std.specs.BTreeMap as map
use Rattle.esm_journal_state.specs.Meaning.{text_named, fate_kept}
use Rattle.esm_journal_state.proofs.table.keep_deletions.Given as goal

abbrev pub invariant-loop-text : goal.invariant-loop-text
invariant-loop-text l = record {
  within : length l.texts.items ≤ length l.places;
  first : l.texts.items ≡ take (length l.texts.items) l.fn.texts.items;
  kept : (i : ℕ) → map.get nat_cmp l.deletions i ≡ option_or (option_map (fate_kept l.fate) (text_named (drop (length l.texts.items) l.places) (drop (length l.texts.items) l.fn.texts.items) i)) (map.get nat_cmp l.initial.deletions i);
}

abbrev pub decreases-loop-text : goal.decreases-loop-text
decreases-loop-text l = length l.texts.items
