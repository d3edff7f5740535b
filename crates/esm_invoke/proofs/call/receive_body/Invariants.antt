use Rattle.std.proofs.Common.{◌≡◌, ◌≤◌, ◌+◌, ◌-◌, length, take, drop, vec_len}
use Rattle.esm_model.specs.declared.limits.TheConstants.{MAX_RESPONSE}
use Rattle.esm_io.specs.Faults.{MAX_FAULTS}
use Rattle.esm_invoke.specs.Exchange.{GrowsFor}
use Rattle.esm_invoke.specs.Receiving.{ReadsMore}
use Rattle.esm_invoke.specs.Response.{BeginsWith}
use Rattle.esm_invoke.specs.ResponseRead.{Awaits}
use Rattle.esm_invoke.proofs.call.receive_body.Given as goal

abbrev pub invariant-loop-body : goal.invariant-loop-body
invariant-loop-body g l = record {
  within : l.filled ≤ vec_len l.buffer;
  room : vec_len l.buffer ≤ MAX_RESPONSE + 1;
  read : ReadsMore (g.L.Link.told l.initial.link) (g.L.Link.told l.link) (take l.first l.initial.buffer.items) (take l.filled l.buffer.items);
  first : length (take l.first l.initial.buffer.items) ≡ l.first;
  front : length (take l.filled l.buffer.items) ≡ l.filled;
  grows : GrowsFor (vec_len l.initial.buffer) (vec_len l.buffer) l.filled;
  begins : BeginsWith (take l.filled l.buffer.items) l.body.head (drop l.body.head.len (take l.filled l.buffer.items));
  len : l.body.head.len ≤ l.filled;
  awaits : Awaits (take l.filled l.buffer.items) l.body;
  not_fallen : g.L.Link.faults l.initial.link ≤ g.L.Link.faults l.link;
  counted : g.L.Link.faults l.link ≤ MAX_FAULTS;
}

abbrev pub decreases-loop-body : goal.decreases-loop-body
decreases-loop-body g l = MAX_RESPONSE + 1 - l.filled
