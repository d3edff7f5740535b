use Rattle.std.proofs.Common.{◌≡◌, ◌++◌, drop}
use Rattle.esm_ledger.specs.Measuring.{measures_of, open_of, last_of}
use Rattle.esm_ledger.proofs.measuring.measured.Given as goal

abbrev pub invariant-loop-i : goal.invariant-loop-i
invariant-loop-i l = record {
  measures : l.measures.items ++ measures_of l.config l.last (drop l.i l.records) ≡ measures_of l.config l.fn.before l.records;
  windows : l.windows.items ++ open_of l.config l.last (drop l.i l.records) (drop l.i l.fates) ≡ open_of l.config l.fn.before l.records l.fates;
  last : last_of l.config l.last (drop l.i l.records) ≡ last_of l.config l.fn.before l.records;
}
