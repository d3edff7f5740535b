use Rattle.std.proofs.Common.{◌+◌, ◌≤◌, length, map, vec_len, vec_capacity}
use Rattle.std.specs.Prelude.{IfSome, is_some, option_map}
use Rattle.esm_recorder.proofs.Taking.{AreTaken}
use Rattle.esm_recorder.proofs.recorders.take_apart.Given as goal

abbrev pub invariant-loop-recorder : goal.invariant-loop-recorder
invariant-loop-recorder g l = record {
  room : vec_len l.callers + length l.recorders.items ≤ vec_capacity l.callers;
  lists_room : IfSome l.lists (λ v. vec_len v + length l.recorders.items ≤ vec_capacity v);
  taken : AreTaken g.F.Caller.log (is_some l.fn.room) l.fn.recorders.items l.recorders.items l.callers.items (option_map (λ v. map (λ rs. rs.items) v.items) l.lists);
}

abbrev pub decreases-loop-recorder : goal.decreases-loop-recorder
decreases-loop-recorder g l = length l.recorders.items
