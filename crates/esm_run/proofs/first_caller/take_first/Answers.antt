use Rattle.std.proofs.Common.{◌≡◌, ◌∙◌, List, [], ◌∷◌, ◌++◌, Option, ap, reverse, sym}
use Rattle.std.specs.Option.{option_to_list}
use Rattle.std.proofs.lemmas.List.{reverse-append, reverse-reverse}
use Rattle.esm_run.proofs.first_caller.take_first.Goals as goal

first_of : {A : Type 0} (xs ys : List A) (x : A) → reverse xs ≡ ys ++ x ∷ [] → xs ≡ x ∷ reverse ys
first_of xs ys x is = sym (reverse-reverse xs) ∙ ap reverse is ∙ reverse-append ys (x ∷ [])

pub returns-clause-first : goal.returns-clause-first
returns-clause-first g c =
    first_of c.args.callers.now.items c.pop.new.self.items c.unwrap.result
    (sym c.reverse.ensures.items ∙ c.pop.ensures.items ∙ ap (λ (o : Option _). c.pop.new.self.items ++ option_to_list o) c.unwrap.ensures)
