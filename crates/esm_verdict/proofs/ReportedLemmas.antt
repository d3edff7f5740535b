-- Reading the failures of an answer one after another.
use Rattle.std.proofs.Common.{◌≡◌, ℕ, suc, ◌+◌, ◌<◌, ◌≤◌, List, [], ◌∷◌, ◌++◌, length, get_or, drop, Option, Some, None, option_map, refl, ap, ◌∙◌, sym, append_assoc, append-nil, add-one, drop-cons, drop_of_length-le}
use Rattle.std.specs.Option.{option_and_then}
use Rattle.serde_json.specs.View.{view, items_view}
use Rattle.serde_json.specs.declared.value.Value.{Value}
use Rattle.esm_model.specs.Reading.{reported, all_reported}
use Rattle.esm_verdict.specs.Reported.{then_positions}

pub no_positions_yet : (more : Option (List ℕ)) → more ≡ then_positions [] more
no_positions_yet (Some ps) = refl
no_positions_yet None = refl

next_position : (found : List ℕ) (p : ℕ) (more : Option (List ℕ)) → then_positions found (option_map (λ ps. p ∷ ps) more) ≡ then_positions (found ++ p ∷ []) more
next_position found p (Some ps) = ap Some (sym (append_assoc found (p ∷ []) ps))
next_position found p None = refl

abbrev and_positions : List (List ℕ) → List ℕ → List Value → Option ℕ → Option (List ℕ)
and_positions ids found left o = then_positions found (option_and_then (λ p. option_map (λ ps. p ∷ ps) (all_reported ids (items_view left))) o)

pub more_positions : (ids : List (List ℕ)) (found : List ℕ) (vs : List Value) (i : ℕ) (v : Value) (p : ℕ) → i < length vs → v ≡ get_or vs i v → Some p ≡ reported ids (view v)
    → then_positions found (all_reported ids (items_view (drop i vs))) ≡ then_positions (found ++ p ∷ []) (all_reported ids (items_view (drop (i + 1) vs)))
more_positions ids found vs i v p within is e =
    ap (λ ws. then_positions found (all_reported ids (items_view ws))) (drop-cons vs i v within ∙ ap (λ w. w ∷ drop (suc i) vs) (sym is))
    ∙ ap (and_positions ids found (drop (suc i) vs)) (sym e)
    ∙ next_position found p (all_reported ids (items_view (drop (suc i) vs)))
    ∙ ap (λ n. then_positions (found ++ p ∷ []) (all_reported ids (items_view (drop n vs)))) (sym (add-one i))

pub no_position : (ids : List (List ℕ)) (found : List ℕ) (vs : List Value) (i : ℕ) (v : Value) → i < length vs → v ≡ get_or vs i v → None ≡ reported ids (view v)
    → then_positions found (all_reported ids (items_view (drop i vs))) ≡ None
no_position ids found vs i v within is e =
    ap (λ ws. then_positions found (all_reported ids (items_view ws))) (drop-cons vs i v within ∙ ap (λ w. w ∷ drop (suc i) vs) (sym is))
    ∙ ap (and_positions ids found (drop (suc i) vs)) (sym e)

pub all_positions : (ids : List (List ℕ)) (found : List ℕ) (vs : List Value) (i : ℕ) → length vs ≤ i → then_positions found (all_reported ids (items_view (drop i vs))) ≡ Some found
all_positions ids found vs i past =
    ap (λ ws. then_positions found (all_reported ids (items_view ws))) (drop_of_length-le vs past) ∙ ap Some (append-nil found)
