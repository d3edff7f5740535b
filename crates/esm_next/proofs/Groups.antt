-- The front of a lane, and what is left to say once its calls and its delay leave it free.
use Rattle.std.proofs.Common.{◌≡◌, ℕ, ◌≤◌, Bool, List, [], ◌∷◌, length, take_while, refl, sym, ap, ◌∙◌, Some, None, arith}
use Rattle.esm_model.specs.declared.lane.LaneId.{LaneId}
use Rattle.esm_model.specs.declared.book.Next.{Next}
use Rattle.esm_model.specs.declared.book.Next.TheVariants as next
use Rattle.esm_model.specs.declared.entry.Entry.{Entry}
use Rattle.esm_model.specs.Setting.{Setting}
use Rattle.esm_model.specs.Fates.{open_places}
use Rattle.esm_model.specs.Batches.{same_piece, group_of, group}
use Rattle.esm_shard_index.specs.LaneSteps.{IsGroupOf}
use Rattle.esm_ledger.specs.Reading.{IsLeastDueWindow}
use Rattle.esm_next.specs.Following.{job_of, due_windows, least, next_batch, next_call, next_allowed}
use Rattle.esm_next.specs.Gathering.{IsFrontOf}
use Rattle.esm_next.proofs.Told.{least_due_is}
use Rattle.esm_next.proofs.Fronts.{group_first}

module _ (s : Setting) (h : List Entry) (lane : LaneId) where
  group_long : (xs : List ℕ) → open_places s h lane ≡ xs → (open_places s h lane ≡ [] → ⊥) → 1 ≤ length (group s h lane)
  group_long [] is some = absurd (some is)
  group_long (x ∷ xs) is some =
      let starts : group s h lane ≡ x ∷ take_while (same_piece s h lane.shard x) xs = ap (group_of s h lane.shard) is ∙ group_first s h lane.shard x xs in
      let long : length (group s h lane) ≡ length (x ∷ take_while (same_piece s h lane.shard x) xs) = ap length starts in
      omega (arith, long)

  -- where a record of the lane is open, its group has one
  pub front_of : (places : List ℕ) (fresh : Bool) (count : ℕ) → IsGroupOf s h lane places fresh count → (open_places s h lane ≡ [] → ⊥) → IsFrontOf s h lane places fresh
  front_of places fresh count is some =
      let long = group_long (open_places s h lane) refl some in
      let same : length (group s h lane) ≡ length places = ap length is.group in
      record {
        group_is = is.group;
        fresh_is = is.fresh_is;
        some = omega (arith, long, same);
      }

  pub free_batch : (m : ℕ) (d : Next) → next_allowed s h lane m ≡ next_call s h lane m (least (due_windows s h lane.shard)) → IsLeastDueWindow s h lane.shard None → d ≡ next_batch s h lane m → d ≡ next_allowed s h lane m
  free_batch m d free none is = is ∙ sym (free ∙ ap (next_call s h lane m) (least_due_is s h lane.shard None none))

  pub free_due : (m w : ℕ) (d : Next) → next_allowed s h lane m ≡ next_call s h lane m (least (due_windows s h lane.shard)) → IsLeastDueWindow s h lane.shard (Some w) → d ≡ next.Call (job_of s h lane [] (Some w)) → d ≡ next_allowed s h lane m
  free_due m w d free due is = is ∙ sym (free ∙ ap (next_call s h lane m) (least_due_is s h lane.shard (Some w) due))
