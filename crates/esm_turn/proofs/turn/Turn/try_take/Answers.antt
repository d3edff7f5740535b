use Rattle.std.proofs.Common.{◌≡◌, ◌+◌, ◌%◌, false, List, [], ◌∷◌, Option, Some, ap, sym, ◌∙◌, subst, arith, eqb, refl}
use mathlib.Core.Option.{none}
use prog.Atomic.{either}
use Rattle.atomic_table.specs.Table.{Me, Allows, step, rest}
use Rattle.esm_turn.specs.declared.part.Part.{Part}
use Rattle.esm_model.specs.Kept.{meaning}
use Rattle.esm_turn.specs.Parts.{first_part}
use Rattle.esm_turn.specs.Rule.{IsKept, Took}
use Rattle.esm_turn.specs.Seats.{slot_in_hand}
use Rattle.esm_turn.proofs.Steps.{takes_turn}
use Rattle.esm_turn.proofs.turn.Turn.try_take.Goals as goal

pub compare_exchange-found-requires : goal.compare_exchange-found-requires
compare_exchange-found-requires g c =
    let T = g.row.T.Denot in
    let m = meaning g.T.Kept in
    let shared = c.self.inside.table.shared in
    let inner = c.seat.inside.inner in
    let setup = g.T.Kept.setup shared.key.made.value in
    let p : Part = first_part inner.me.0 in
    let word = c.peek-word.result in
    let free : p.holds ≡ false = ap (λ v. v.holds) c.seat.view_is ∙ c.requires.free in
    let me : inner.me ≡ (p ∷ [], []) = c.seat.invariant ∙ ap (λ b. (p ∷ [], slot_in_hand b)) free in
    let even : word % 2 ≡ 0 = (let h = c.if-word-eq1.false in omega arith) in (
      ap (λ v. v.at) c.seat.view_is ∙ (c.requires.at ∙ sym (ap (λ v. v.at) c.self.view_is)),
      (let h = c.self.invariant.0 in omega arith),
      subst (λ (x : Me (Option T) (List Part)). Allows (IsKept m setup shared.key.seats) shared.table_id.slots inner.id x 0 (λ n. either (eqb n word) (word + 1) n) (Took m (step shared.table_id.slots 0 word (word + 1) none) x))
          (sym me) (takes_turn m setup shared.key.seats shared.table_id.slots inner.id p word (word + 1) even refl),
    )

pub exchange-requires : goal.exchange-requires
exchange-requires g c =
    let inner = c.seat.inside.inner in
    let p : Part = first_part inner.me.0 in
    let took = c.compare_exchange-found.ensures.2.0 c.if-found-word.false p (ap (λ z. z.0) c.seat.invariant) in
    let slot = ap (λ z. z.1) took.2 in (
      c.compare_exchange-found.ensures.0 ∙ (ap (λ v. v.at) c.seat.view_is ∙ (c.requires.at ∙ sym (ap (λ v. v.at) c.self.view_is))),
      (Some took.0, slot ∙ ap (λ l. (0, Some took.0) ∷ rest l) (sym slot)),
    )
