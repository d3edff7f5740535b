use Rattle.std.proofs.Common.{◌≡◌, ◌≤◌, ◌-◌, length, take, vec_len}
use Rattle.esm_model.specs.declared.limits.TheConstants.{MAX_HEAD}
use Rattle.esm_io.specs.Talks.{Reads}
use Rattle.esm_api.specs.Head.{AwaitsHead}
use Rattle.esm_api.proofs.receive.receive_head.Given as goal

abbrev pub invariant-loop-count : goal.invariant-loop-count
invariant-loop-count g l = record {
  room : vec_len l.buffer ≡ MAX_HEAD;
  read : Reads (g.L.Link.told l.initial.link) (g.L.Link.told l.link) (take l.filled l.buffer.items);
  front : length (take l.filled l.buffer.items) ≡ l.filled;
  awaits : AwaitsHead (take l.filled l.buffer.items);
  not_fallen : g.L.Link.faults l.initial.link ≤ g.L.Link.faults l.link;
}

abbrev pub decreases-loop-count : goal.decreases-loop-count
decreases-loop-count g l = MAX_HEAD - l.filled
