use Rattle.std.proofs.Common.{◌≡◌, ◌++◌, List, take, drop}
use Rattle.esm_model.specs.Records.{Record}
use Rattle.esm_replay.specs.Records.{are_named}
use Rattle.esm_replay.specs.Coming.{first_change}
use Rattle.esm_replay_core.specs.Counts.{AreCounted, AreTallied}
use Rattle.esm_replay_core.proofs.changes.first_change.Given as goal

abbrev pub invariant-loop-item : goal.invariant-loop-item
invariant-loop-item l = record {
  tallied : AreTallied l.counts l.tally (take l.item-index l.items);
  named : (before : List Record) → AreCounted l.counts before → l.named.items ≡ are_named l.said l.ranges before (take l.item-index l.items);
  rest : (before : List Record) → AreCounted l.counts before → first_change l.said before l.items ≡ first_change l.said (before ++ take l.item-index l.items) (drop l.item-index l.items);
}
