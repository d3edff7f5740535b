use Rattle.std.proofs.Common.{◌≤◌, vec_len}
use Rattle.std.specs.List.{All}
use Rattle.esm_ledger.specs.Chunks.{HasMemory}
use Rattle.esm_ledger.proofs.slots.reserve_spare.Given as goal

abbrev pub invariant-loop : goal.invariant-loop
invariant-loop l = record {
  memory : All HasMemory l.spare.items;
  more : vec_len l.initial.spare ≤ vec_len l.spare;
  enough : l.counter ≤ vec_len l.spare;
}
