use Rattle.std.proofs.Common.{◌≡◌, true, take}
use Rattle.std.specs.Prelude.{reverse}
use Rattle.esm_journal_state.specs.Growing.{IsGrown}
use Rattle.esm_journal_state.specs.Meaning.{history, are_good}
use Rattle.esm_journal_state.proofs.history.table_of.Given as goal

abbrev pub invariant-loop-index : goal.invariant-loop-index
invariant-loop-index l = record {
  table : IsGrown l.growing (history (reverse (take l.index l.payloads)));
  good : are_good (reverse (take l.index l.payloads)) ≡ true;
}
