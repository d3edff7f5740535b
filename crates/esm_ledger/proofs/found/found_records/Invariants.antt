use Rattle.std.proofs.Common.{◌≡◌, ◌+◌, ◌++◌, drop}
use Rattle.esm_ledger.specs.Measuring.{fates_from, landings_from}
use Rattle.esm_ledger.proofs.found.found_records.Given as goal

-- what was found of the records so far, and of the rest
abbrev pub invariant-loop-i : goal.invariant-loop-i
invariant-loop-i l = record {
  fates : l.fates.items ++ fates_from l.found.said.now l.found.shard (l.first + l.i) (drop l.i l.records) ≡ fates_from l.found.said.now l.found.shard l.first l.records;
  landings : l.landings.items ++ landings_from l.factor l.found.said.now l.found.shard (l.first + l.i) (drop l.i l.records) (drop l.i l.passing) ≡ landings_from l.factor l.found.said.now l.found.shard l.first l.records l.passing;
}
