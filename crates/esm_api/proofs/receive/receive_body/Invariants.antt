use Rattle.std.proofs.Common.{◌≡◌, ◌≤◌, ◌-◌, length, take, vec_len}
use Rattle.esm_io.specs.Faults.{MAX_FAULTS}
use Rattle.esm_api.specs.HeadRead.{IsPlanned}
use Rattle.esm_api.specs.Receiving.{ReadsMore}
use Rattle.esm_api.proofs.receive.receive_body.Given as goal

abbrev pub invariant-loop-filled : goal.invariant-loop-filled
invariant-loop-filled g l = record {
  within : l.filled ≤ vec_len l.buffer;
  room : vec_len l.buffer ≡ vec_len l.initial.buffer;
  more : ReadsMore (g.L.Link.told l.initial.link) (g.L.Link.told l.link) (take l.first l.initial.buffer.items) (take l.filled l.buffer.items);
  front : length (take l.filled l.buffer.items) ≡ l.filled;
  planned : IsPlanned (take l.filled l.buffer.items) l.fn.head;
  len : l.fn.head.len ≤ l.filled;
  not_fallen : g.L.Link.faults l.initial.link ≤ g.L.Link.faults l.link;
  counted : g.L.Link.faults l.link ≤ MAX_FAULTS;
}

abbrev pub decreases-loop-filled : goal.decreases-loop-filled
decreases-loop-filled g l = l.end - l.filled
