use Rattle.std.proofs.Common.{◌≡◌, false, [], ◌∷◌, ◌++◌, length, ap, sym, ◌∙◌, subst, arith, append_assoc, inl}
use Rattle.esm_model.specs.Kept.{meaning}
use Rattle.esm_turn.specs.declared.part.Part.{Part}
use Rattle.esm_turn.specs.Parts.{first_part, Each}
use Rattle.esm_turn.specs.Seats.{SeatView, part_of, slot_in_hand}
use Rattle.esm_turn.proofs.PartLemmas.{each_append, within_right}
use Rattle.esm_turn.proofs.Steps.{glues}
use Rattle.esm_turn.proofs.Closing.{AllWithin, at_seam, all_within_left, within_at, no_items}
use Rattle.esm_turn.proofs.turn.join_all.Goals as goal

pub join_seat-requires : goal.join_seat-requires
join_seat-requires g c =
    let m = meaning g.T.Kept in
    let shared = c.args.shared.now in
    let seat : SeatView = c.in-Some.seat in
    let more = c.loop-seat.invariant.3 in
    let new = c.pop-in-loop-seat.new.self.items in
    let whole : c.args.seats.items ≡ new ++ seat ∷ more.0 = sym more.1 ∙ (ap (λ l. l ++ more.0) c.in-Some.ensures.items ∙ append_assoc new (seat ∷ []) more.0) in
    let inner = c.seat.inside.inner in
    let p : Part = first_part inner.me.0 in
    let holds : p.holds ≡ false = ap (λ v. v.holds) c.seat.view_is ∙ at_seam (λ (s : SeatView). s.holds ≡ false) c.args.seats.items new more.0 seat whole c.requires.free in (
      c.loop-seat.invariant.0,
      ap (λ v. v.at) c.seat.view_is ∙ at_seam (λ (s : SeatView). s.at ≡ shared.table_id) c.args.seats.items new more.0 seat whole c.requires.here,
      ap (λ z. z.1) c.seat.invariant ∙ ap slot_in_hand holds,
      (let h = c.requires.at in omega arith),
      glues m (g.T.Kept.setup shared.key.made.value) shared.key.seats c.loop-seat.all.id c.loop-seat.all.me.0 inner.id inner.me.0,
    )

pub loop-seat-preserved : goal.loop-seat-preserved
loop-seat-preserved g c =
    let seat : SeatView = c.in-Some.seat in
    let old = c.loop-seat.invariant in
    let more = old.3 in
    let new = c.pop-in-loop-seat.new.self.items in
    let whole : c.args.seats.items ≡ new ++ seat ∷ more.0 = sym more.1 ∙ (ap (λ l. l ++ more.0) c.in-Some.ensures.items ∙ append_assoc new (seat ∷ []) more.0) in
    let inner = c.seat.inside.inner in
    let p : Part = first_part inner.me.0 in
    let one : inner.me.0 ≡ p ∷ [] = ap (λ z. z.0) c.seat.invariant in
    let p_is : p ≡ part_of seat = ap part_of c.seat.view_is in
    let holds : p.holds ≡ false = ap (λ (q : Part). q.holds) p_is ∙ at_seam (λ (s : SeatView). s.holds ≡ false) c.args.seats.items new more.0 seat whole c.requires.free in
    let v = c.loop-seat.all.me.0 in
    let joined : c.join_seat.new.seat.me.0 ≡ v ++ p ∷ [] = ap (λ z. z.0) c.join_seat.ensures.2 ∙ ap (λ l. v ++ l) one in (
      c.join_seat.ensures.0 ∙ old.0,
      ap (λ z. z.1) c.join_seat.ensures.2 ∙ old.1,
      subst (Each (λ q. q.holds ≡ false)) (sym joined) (each_append (λ q. q.holds ≡ false) v (p ∷ []) old.2 (holds, tt)),
      (
        seat ∷ more.0,
        sym whole,
        subst (AllWithin (seat ∷ more.0)) (sym joined) (within_right (part_of seat) v (p ∷ []) (inl (sym p_is)), all_within_left more.0 v (p ∷ []) more.2),
      ),
    )

pub returns-clause-all : goal.returns-clause-all
returns-clause-all g c =
    let more = c.loop-seat.invariant.3 in
    let short : length c.loop-seat.seats.items ≡ 0 = sym c.loop-seat.seats.ok.0 ∙ c.in_default.ensures.cases.0 in
    let none : c.loop-seat.seats.items ≡ [] = no_items c.loop-seat.seats.items short in
    let whole : more.0 ≡ c.args.seats.items = ap (λ l. l ++ more.0) (sym none) ∙ more.1 in
    within_at c.args.seats.items c.loop-seat.all.me.0 (subst (λ l. AllWithin l c.loop-seat.all.me.0) whole more.2)
