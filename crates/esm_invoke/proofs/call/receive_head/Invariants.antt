use Rattle.std.proofs.Common.{◌≡◌, ◌≤◌, ◌+◌, ◌-◌, length, take, vec_len}
use Rattle.esm_model.specs.declared.limits.TheConstants.{MAX_RESPONSE}
use Rattle.esm_io.specs.Faults.{MAX_FAULTS}
use Rattle.esm_io.specs.Talks.{Reads}
use Rattle.esm_invoke.specs.Exchange.{GrowsFor}
use Rattle.esm_invoke.specs.ResponseRead.{HasNoHead}
use Rattle.esm_invoke.proofs.call.receive_head.Given as goal

abbrev pub invariant-loop-filled : goal.invariant-loop-filled
invariant-loop-filled g l = record {
  within : l.filled ≤ vec_len l.buffer;
  room : vec_len l.buffer ≤ MAX_RESPONSE + 1;
  read : Reads (g.L.Link.told l.initial.link) (g.L.Link.told l.link) (take l.filled l.buffer.items);
  front : length (take l.filled l.buffer.items) ≡ l.filled;
  grows : GrowsFor (vec_len l.initial.buffer) (vec_len l.buffer) l.filled;
  none : HasNoHead l.filled (take l.filled l.buffer.items);
  not_fallen : g.L.Link.faults l.initial.link ≤ g.L.Link.faults l.link;
  counted : g.L.Link.faults l.link ≤ MAX_FAULTS;
}

abbrev pub decreases-loop-filled : goal.decreases-loop-filled
decreases-loop-filled g l = MAX_RESPONSE + 1 - l.filled
