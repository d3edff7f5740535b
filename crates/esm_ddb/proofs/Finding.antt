-- One element more of an event's `Records`.
use Rattle.std.proofs.Common.{◌≡◌, ◌∙◌, ℕ, ◌+◌, ◌-◌, ◌<◌, arith, refl, sym, ap, List, [], ◌∷◌, ◌++◌, append_assoc, length, get_or, drop, Option, Some, None, option_map, option_and_then}
use Rattle.std.specs.declared.alloc.Global.{Global}
use Rattle.json.specs.Json.{Json, Items, item}
use Rattle.json.specs.Value.{items_view, value_view}
use Rattle.json.specs.declared.value.Value.{Value}
use Rattle.esm_model.specs.State.{size}
use Rattle.esm_ddb.specs.Event.{element_at, elements_at, payload_of}
use Rattle.esm_ddb.specs.declared.elements.Element.{Element}
use Rattle.esm_ddb.proofs.Loops.{next}

one_more : (found : List Element) (e : Element) (r : Option (List Element)) → option_map (λ more. found ++ more) (option_map (λ more. e ∷ more) r) ≡ option_map (λ more. (found ++ e ∷ []) ++ more) r
one_more found e None = refl
one_more found e (Some more) = ap Some (sym (append_assoc found (e ∷ []) more))

abbrev made : List ℕ → ℕ → ℕ → List ℕ → Element
made places at end payload = record { first = get_or places at 0; end = get_or places (end - 1) 0 + 1; payload = payload }

element_is : (places : List ℕ) (at : ℕ) (j : Json) (payload : List ℕ) (end : ℕ) (e : Element) → end ≡ at + size j + 0 → e ≡ made places at end payload → element_at places at j payload ≡ e
element_is places at j payload end e sum is =
    let same : at + size j ≡ end = omega (arith, sum) in
    ap (λ (n : ℕ). made places at n payload) same ∙ sym is

first_found : (places : List ℕ) (at : ℕ) (j : Json) (js : Items) (payload : List ℕ) → payload_of j ≡ Some payload
    → elements_at places at (item j js) ≡ option_map (λ more. element_at places at j payload ∷ more) (elements_at places (at + size j + 1) js)
first_found places at j js payload h =
    ap (λ (o : Option (List ℕ)). option_and_then (λ p. option_map (λ more. element_at places at j p ∷ more) (elements_at places (at + size j + 1) js)) o) h

pub found_more : (places : List ℕ) (all : Option (List Element)) (found longer : List Element) (at end after : ℕ) (vs : List (Value Global)) (i : ℕ) (v : Value Global) (payload : List ℕ) (e : Element)
    → i < length vs → v ≡ get_or vs i v → payload_of (value_view v) ≡ Some payload → end ≡ at + size (value_view v) + 0 → e ≡ made places at end payload
    → longer ≡ found ++ e ∷ [] → after ≡ end + 1 + 0
    → all ≡ option_map (λ more. found ++ more) (elements_at places at (items_view (drop i vs)))
    → all ≡ option_map (λ more. longer ++ more) (elements_at places after (items_view (drop (i + 1) vs)))
found_more places all found longer at end after vs i v payload e within is said sum made_so grown further so_far =
    let j = value_view v in
    let js = items_view (drop (i + 1) vs) in
    let place : at + size j + 1 ≡ after = omega (arith, sum, further) in
    so_far
    ∙ ap (λ (ws : List (Value Global)). option_map (λ more. found ++ more) (elements_at places at (items_view ws))) (next vs i v within is)
    ∙ ap (λ (o : Option (List Element)). option_map (λ more. found ++ more) o) (first_found places at j js payload said)
    ∙ one_more found (element_at places at j payload) (elements_at places (at + size j + 1) js)
    ∙ ap (λ (x : Element). option_map (λ more. (found ++ x ∷ []) ++ more) (elements_at places (at + size j + 1) js)) (element_is places at j payload end e sum made_so)
    ∙ ap (λ (n : ℕ). option_map (λ more. (found ++ e ∷ []) ++ more) (elements_at places n js)) place
    ∙ ap (λ (xs : List Element). option_map (λ more. xs ++ more) (elements_at places after js)) (sym grown)
