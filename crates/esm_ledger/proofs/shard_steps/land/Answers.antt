use Rattle.std.proofs.Common.{ℕ, ◌+◌, ◌<◌, ◌≤◌, length, get_or, drop, None, sym, ap, ◌∙◌, subst, refl, arith}
use Rattle.esm_lanes.specs.Piece.{open_places}
use Rattle.esm_shard_index.specs.LaneView.{LaneView, lane_in}
use Rattle.esm_ledger.specs.Arriving.{landed, landing_count, IsWithin}
use Rattle.esm_ledger.proofs.Landings.{some_room, some_few, one_lands, room_left, few_left}
use Rattle.esm_ledger.proofs.shard_steps.land.Goals as goal

pub land_one-requires-clause-within : goal.land_one-requires-clause-within
land_one-requires-clause-within c =
    subst (λ (n : ℕ). IsWithin n (get_or c.args.landings.now c.loop-landing.landing-index None)) (sym c.loop-landing.invariant.lanes)
    (c.requires.within c.loop-landing.landing-index None c.loop-landing-test.true)

pub land_one-requires-clause-room : goal.land_one-requires-clause-room
land_one-requires-clause-room c =
    some_room (get_or c.args.landings.now c.loop-landing.landing-index None) c.loop-landing.landing-index c.args.landings.now c.loop-landing.lanes c.loop-landing-test.true refl
    (subst (λ (n : ℕ). IsWithin n (get_or c.args.landings.now c.loop-landing.landing-index None)) (sym c.loop-landing.invariant.lanes)
    (c.requires.within c.loop-landing.landing-index None c.loop-landing-test.true))
    c.loop-landing.invariant.room

pub land_one-requires-clause-few : goal.land_one-requires-clause-few
land_one-requires-clause-few c =
    some_few (get_or c.args.landings.now c.loop-landing.landing-index None) c.loop-landing.landing-index c.args.landings.now c.loop-landing.lanes c.loop-landing-test.true refl
    (subst (λ (n : ℕ). IsWithin n (get_or c.args.landings.now c.loop-landing.landing-index None)) (sym c.loop-landing.invariant.lanes)
    (c.requires.within c.loop-landing.landing-index None c.loop-landing-test.true))
    c.loop-landing.invariant.few

pub loop-landing-preserved : goal.loop-landing-preserved
loop-landing-preserved c =
    let i = c.loop-landing.landing-index in
    let place = c.loop-landing.place in
    let ls = c.args.landings.now in
    let l = get_or c.args.landings.now c.loop-landing.landing-index None in
    record {
      place = omega (arith, c.loop-landing.invariant.place);
      lanes = c.land_one.ensures.lanes ∙ c.loop-landing.invariant.lanes;
      landed = λ k. ap (λ (v : LaneView). landed k (place + 1) (drop (i + 1) ls) v) (c.land_one.ensures.lane k)
          ∙ sym (one_lands k place i ls l (lane_in c.loop-landing.lanes k) c.loop-landing-test.true refl) ∙ c.loop-landing.invariant.landed k;
      room = λ k low. subst (λ (v : LaneView). landing_count k (drop (i + 1) ls) ≤ v.kept.adds) (sym (c.land_one.ensures.lane k))
          (room_left k place i ls l (lane_in c.loop-landing.lanes k) c.loop-landing-test.true refl
          (c.loop-landing.invariant.room k (subst (λ (n : ℕ). k < n) c.land_one.ensures.lanes low)));
      few = λ k low. subst (λ (v : LaneView). length (open_places v.kept.pieces) + length (drop (i + 1) ls) ≤ 4294967295) (sym (c.land_one.ensures.lane k))
          (few_left k place i 4294967295 ls l (lane_in c.loop-landing.lanes k) c.loop-landing-test.true refl
          (c.loop-landing.invariant.few k (subst (λ (n : ℕ). k < n) c.land_one.ensures.lanes low)));
    }
