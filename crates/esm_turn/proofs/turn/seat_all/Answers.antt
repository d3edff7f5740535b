use Rattle.std.proofs.Common.{◌≡◌, ℕ, ◌+◌, ◌<◌, List, [], ◌∷◌, refl, sym, ap, ◌∙◌, subst, arith, get_or, length, length-append, Option}
use Rattle.esm_turn.specs.declared.part.Part.{Part}
use Rattle.esm_model.specs.Kept.{meaning}
use Rattle.esm_turn.specs.Parts.{first_part, begun_part, first_of_parts, but_first}
use Rattle.esm_turn.specs.Seats.{SeatView, begun_seat, turn_view, seat_view, IsSeat}
use Rattle.esm_turn.proofs.PartLemmas.{cut_begun, first_begun, each_more}
use Rattle.esm_turn.proofs.Steps.{cuts}
use Rattle.esm_turn.proofs.turn.seat_all.Goals as goal

pub split_seat-inner-requires : goal.split_seat-inner-requires
split_seat-inner-requires g c =
    let m = meaning g.T.Kept in
    let shared = c.args.shared.now in (
      c.loop-i.invariant.0,
      (let h = c.requires.at.1 in omega arith),
      cuts m (g.T.Kept.setup shared.key.made.value) shared.key.seats c.loop-i.first.id c.loop-i.first.me.0,
    )

pub loop-i-preserved : goal.loop-i-preserved
loop-i-preserved g c =
    let shared = c.args.shared.now in
    let author = g.T.Kept.author in
    let setup = g.T.Kept.setup shared.key.made.value in
    let seen = g.T.Kept.history shared.key.made.value in
    let change = g.T.Kept.change shared.key.made.value in
    let i = c.loop-i._i in
    let n = c.args.seats in
    let inside : i < n = c.loop-i-test.true in
    let old = c.loop-i.invariant in
    let split = c.split_seat-inner.ensures in
    let first = c.loop-i.first in
    let inner = c.split_seat-inner.result in
    let part : first_part inner.me.0 ≡ begun_part author setup seen change i = ap (λ z. first_part z.0) split.4 ∙ (ap (λ z. first_part (first_of_parts z.0)) old.1 ∙ ap first_part (first_begun author setup seen change i n inside)) in
    let made : SeatView = seat_view inner.table_id (first_part inner.me.0) in
    let is : made ≡ begun_seat author seen change (turn_view shared.table_id setup n) i = (λ k. seat_view ((split.3 ∙ old.0) k) (part k)) in (
      split.0 ∙ old.0,
      split.2 ∙ (ap (λ (z : List Part × List (ℕ × Option g.row.T.Denot)). (but_first z.0, z.1)) old.1 ∙ (λ k. (cut_begun author setup seen change i n inside k, []))),
      c.push_reserved.ensures.len ∙ ap (λ k. k + 1) old.2,
      (let cap = c.push_reserved.ensures.capacity in let room = old.3 in omega (arith, cap, room)),
      (λ k d h. ap (λ l. get_or l k d) c.push_reserved.ensures.items ∙ each_more (begun_seat author seen change (turn_view shared.table_id setup n)) c.loop-i.all.items made i old.5 old.4 is k d h),
      ap length c.push_reserved.ensures.items ∙ (length-append c.loop-i.all.items (made ∷ []) ∙ ap (λ k. k + 1) old.5),
    )

pub invariant_of-push_reserved : goal.invariant_of-push_reserved
invariant_of-push_reserved g c =
    let T = g.row.T.Denot in
    let author = g.T.Kept.author in
    let setup = g.T.Kept.setup c.args.shared.now.key.made.value in
    let seen = g.T.Kept.history c.args.shared.now.key.made.value in
    let change = g.T.Kept.change c.args.shared.now.key.made.value in
    let first : List Part × List (ℕ × Option T) → List Part × List (ℕ × Option T) = λ z. (first_of_parts z.0, []) in
    let begun : c.split_seat-inner.result.me ≡ (begun_part author setup seen change c.loop-i._i ∷ [], []) =
    c.split_seat-inner.ensures.4 ∙ (ap first c.loop-i.invariant.1 ∙ ap (λ l. (l, [])) (first_begun author setup seen change c.loop-i._i c.args.seats c.loop-i-test.true)) in
    subst (λ (z : List Part × List (ℕ × Option T)). IsSeat (first_part z.0) z) (sym begun) refl
