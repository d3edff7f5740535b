use Rattle.std.proofs.Common.{rules, ◌∙◌, ◌≤◌, [], ◌∷◌, ◌++◌, ap, map, length, vec_capacity}
use Rattle.std.specs.Prelude.{option_map}
use Rattle.esm_recorder.specs.Lists.{with_last}
use Rattle.esm_recorder.proofs.Taking.{no_lists, none_taken, take_one}
use Rattle.esm_recorder.proofs.recorders.take_apart.Goals as goal

pub loop-recorder-init : goal.loop-recorder-init
loop-recorder-init g c = record {
  room = Prim.search rules;
  lists_room = Prim.search rules;
  taken = none_taken g.F.Caller.log _ _ _ _ _ c.reverse.ensures.items c.requires.callers.0
      (no_lists (λ v. v.items) (λ rs. rs.items) (λ v. length c.args.recorders.items ≤ vec_capacity v) c.args.room c.requires.room);
}

pub loop-recorder-preserved : goal.loop-recorder-preserved
loop-recorder-preserved g c = record {
  room = Prim.search rules;
  lists_room = Prim.search rules;
  taken = take_one g.F.Caller.log _ _ _ _ c.in-Some.recorder _ _ _ _ c.loop-recorder.invariant.taken c.in-Some.ensures.items c.into_parts-caller.ensures.recorded
      (c.push_reserved.ensures.items ∙ ap (λ x. c.loop-recorder.callers.items ++ x ∷ []) c.into_parts-caller.ensures.caller)
      (c.with_list-lists.ensures.lists ∙ ap (λ o. with_last (option_map (λ v. map (λ rs. rs.items) v.items) c.loop-recorder.lists) o) c.into_parts-caller.ensures.kept);
}
