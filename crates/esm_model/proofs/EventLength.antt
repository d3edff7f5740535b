-- How long an event's text is.
use Rattle.std.proofs.Common.{◌≡◌, ℕ, ◌+◌, ◌-◌, ◌≤◌, List, [], ◌∷◌, ◌++◌, length, codes, Option, sum_by, refl, arith, length-append}
use Rattle.std.specs.List.{join_by, flat_map}
use Rattle.std.proofs.lemmas.List.Concat.{length-flat_map}
use Rattle.std.proofs.lemmas.List.Sums.{sum_by-cons, sum_by-append}
use Rattle.esm_model.specs.EventText.{record_text, event_text}
use Rattle.esm_model.specs.declared.config.Config.{Config}
use Rattle.esm_model.specs.Records.{Record}
use Rattle.esm_model.specs.declared.event.WindowCall.{WindowCall}

-- pieces with a comma before each
sum_by-with_comma : {X : Type 0} (f : X → List ℕ) (xs : List X) → sum_by (λ x. length (codes "," ++ f x)) xs ≡ sum_by (λ x. length (f x)) xs + length xs
sum_by-with_comma f [] = refl
sum_by-with_comma f (x ∷ xs) =
    omega (arith, sum_by-cons (λ x. length (codes "," ++ f x)) x xs, sum_by-cons (λ x. length (f x)) x xs, sum_by-with_comma f xs, length-append (codes ",") (f x))

-- pieces joined by commas: one comma fewer than pieces
pub length-join_by : {X : Type 0} (f : X → List ℕ) (xs : List X) → length (join_by f (codes ",") xs) ≡ sum_by (λ x. length (f x)) xs + (length xs - 1)
length-join_by f [] = refl
length-join_by f (x ∷ xs) =
    omega (arith, length-append (f x) (flat_map (λ y. codes "," ++ f y) xs), length-flat_map (λ y. codes "," ++ f y) xs, sum_by-with_comma f xs, sum_by-cons (λ x. length (f x)) x xs)

-- the event of no records, the records' texts, and a comma between each two
pub length-event_text : (c : Config) (rs : List Record) (w : Option WindowCall) → length (event_text c rs w) ≡ length (event_text c [] w) + sum_by (λ r. length (record_text c r)) rs + (length rs - 1)
unfolding event_text
length-event_text c rs w = simp length-append (omega (arith, length-join_by (record_text c) rs))

-- one more record makes no event shorter
pub length-event_text-push : (c : Config) (rs : List Record) (r : Record) (w : Option WindowCall) → length (event_text c rs w) ≤ length (event_text c (rs ++ r ∷ []) w)
length-event_text-push c rs r w =
    omega (arith, length-event_text c rs w, length-event_text c (rs ++ r ∷ []) w, sum_by-append (λ r. length (record_text c r)) rs (r ∷ []), length-append rs (r ∷ []))
