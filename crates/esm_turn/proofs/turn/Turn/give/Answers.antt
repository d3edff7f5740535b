use Rattle.std.proofs.Common.{◌≡◌, true, List, [], ◌∷◌, Option, Some, None, ap, sym, ◌∙◌, subst, arith}
use Rattle.atomic_table.specs.Table.{Me, Allows, rest}
use Rattle.esm_turn.specs.declared.part.Part.{Part}
use Rattle.esm_model.specs.Kept.{meaning}
use Rattle.esm_turn.specs.Parts.{first_part}
use Rattle.esm_turn.specs.Rule.{IsKept, word_of, Gave}
use Rattle.esm_turn.specs.Seats.{part_of, slot_in_hand}
use Rattle.esm_turn.proofs.Steps.{MayGive, gives_turn}
use Rattle.esm_turn.proofs.turn.Turn.give.Goals as goal

pub store-requires : goal.store-requires
store-requires g c =
    let T = g.row.T.Denot in
    let m = meaning g.T.Kept in
    let shared = c.self.inside.table.shared in
    let inner = c.seat.inside.inner in
    let seat = c.exchange-empty.new.seat in
    let setup = g.T.Kept.setup shared.key.made.value in
    let p : Part = first_part inner.me.0 in
    let value = c.args.held.value in
    let word = c.word_at_home-word.result in
    let holds : p.holds ≡ true = ap (λ v. v.holds) c.seat.view_is ∙ c.requires.holds in
    let out : inner.me ≡ (p ∷ [], (0, None) ∷ []) = c.seat.invariant ∙ ap (λ b. (p ∷ [], slot_in_hand b)) holds in
    let me : seat.me ≡ (p ∷ [], (0, Some value) ∷ []) = c.exchange-empty.ensures.3 ∙ ap (λ (z : Me (Option T) (List Part)). (z.0, (0, Some value) ∷ rest z.1)) out in
    let may : MayGive m p value = subst (λ (q : Part). MayGive m q value) (sym (ap part_of c.seat.view_is)) (
    record { setup_is = c.requires.setup; goes_on = c.requires.goes_on; legal = c.requires.legal; own = c.requires.own; marked = c.requires.marked; unchanged = c.requires.unchanged }
    ) in
    let word_is : word ≡ word_of (m.history value) (m.mark value) None = c.word_at_home-word.ensures in (
      c.exchange-empty.ensures.0 ∙ (ap (λ v. v.at) c.seat.view_is ∙ (c.requires.at ∙ sym (ap (λ v. v.at) c.self.view_is))),
      (let h = c.self.invariant.0 in omega arith),
      subst (λ (x : Me (Option T) (List Part)). Allows (IsKept m setup shared.key.seats) shared.table_id.slots seat.id x 0 (λ _. word) (λ _ after. Gave m x after))
          (sym me) (gives_turn m setup shared.key.seats shared.table_id.slots seat.id p value word holds may word_is),
    )
