use Rattle.std.proofs.Common.{◌≡◌, ◌≤◌, ◌++◌, ℕ, List, [], ◌∷◌, Option, Some, None, ap, sym, ◌∙◌, subst}
use Rattle.atomic_table.specs.Table.{opening}
use Rattle.esm_model.specs.Kept.{meaning, entries_of, IsLegal}
use Rattle.esm_turn.specs.Parts.{begun_parts}
use Rattle.esm_turn.specs.Rule.{IsKept, word_of}
use Rattle.esm_turn.proofs.Steps.{starts}
use Rattle.esm_turn.proofs.turn.Turn.new.Goals as goal

pub new-made-requires : goal.new-made-requires
new-made-requires g c =
    let T = g.row.T.Denot in
    let m = meaning g.T.Kept in
    let value : T = c.args.value in
    let made : T = c.of.result.value in
    let same : value ≡ made = sym c.of.ensures in
    let seats = c.args.seats in
    let word = c.word_at_home-word.result in
    let word_is : word ≡ word_of (m.history made) (m.mark value) None = c.word_at_home-word.ensures ∙ ap (λ x. word_of (m.history x) (m.mark value) None) same in
    let legal : IsLegal (m.may_follow (m.setup made)) (m.history made) = subst (λ x. IsLegal (m.may_follow (m.setup x)) (m.history x)) same c.requires.legal in
    let others : (n : ℕ) → seats ≤ n → entries_of (m.author (m.setup made)) n (m.history made) ≡ []
    = λ n h. ap (λ x. entries_of (m.author (m.setup x)) n (m.history x)) (sym same) ∙ c.requires.others n h in
    let items : c.push_reserved.new.self.items ≡ Some value ∷ [] = c.push_reserved.ensures.items ∙ ap (λ l. l ++ Some value ∷ []) c.in-Ok-with_capacity.ensures.items in
    subst (λ (l : List (Option T)). IsKept m (m.setup made) seats (opening (word ∷ []) l (begun_parts m.author (m.setup made) (m.history made) (m.change made) 0 seats))) (sym items)
    (starts m (m.setup made) seats value (m.history made) (m.change made) word (ap m.setup same) (ap m.history same) (ap m.change same) legal others word_is)
