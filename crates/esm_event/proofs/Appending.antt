-- One append after another.
use Rattle.std.proofs.Common.{◌≡◌, List, ◌++◌, append_assoc, ap, ◌∙◌}

-- b after a
pub then : {X : Type 0} (old one two a b : List X) → one ≡ old ++ a → two ≡ one ++ b → two ≡ old ++ (a ++ b)
then {X} old one two a b first second = second ∙ ap (λ (front : List X). front ++ b) first ∙ append_assoc old a b
