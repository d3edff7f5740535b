use Rattle.std.proofs.Common.{◌≡◌, ◌≤◌, ◌<◌}
use Rattle.esm_io.specs.Faults.{Rose}
use Rattle.esm_invoke.proofs.http_caller.connect.Given as goal

abbrev pub invariant-loop-pauses : goal.invariant-loop-pauses
invariant-loop-pauses g l = record {
  limit : l.link.limit ≡ l.initial.link.limit;
  not_fallen : l.initial.link.faults ≤ l.link.faults;
  tried : 0 < l.pauses → Rose l.initial.link.faults l.link.faults;
}
