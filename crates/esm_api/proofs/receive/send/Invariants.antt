use Rattle.std.proofs.Common.{◌≤◌, ◌-◌, length, take}
use Rattle.esm_io.specs.Faults.{MAX_FAULTS}
use Rattle.esm_io.specs.Talks.{Writes}
use Rattle.esm_api.proofs.receive.send.Given as goal

abbrev pub invariant-loop-sent : goal.invariant-loop-sent
invariant-loop-sent g l = record {
  within : l.sent ≤ length l.bytes;
  written : Writes (g.L.Link.told l.initial.link) (g.L.Link.told l.link) (take l.sent l.bytes);
  not_fallen : g.L.Link.faults l.initial.link ≤ g.L.Link.faults l.link;
  counted : g.L.Link.faults l.link ≤ MAX_FAULTS;
}

abbrev pub decreases-loop-sent : goal.decreases-loop-sent
decreases-loop-sent g l = length l.bytes - l.sent
