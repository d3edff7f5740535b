-- Which records are held, as records come and get fates.
use Rattle.std.proofs.Common.{◌≡◌, ℕ, ◌<◌, Bool, true, false, not, ◌&&◌, ◌||◌, List, [], ◌∷◌, ◌++◌, length, map, get_or, refl, sym, ap, ◌∙◌, Option, Some, None, is_some, is_none, arith}
use Rattle.std.proofs.lemmas.List.{map-append, length-map, get_or-map, ext_get_or}
use Rattle.esm_model.specs.declared.entry.Fate.{Fate}
use Rattle.esm_model.specs.Entries.{holds}

unfated : (fates : List (Option Fate)) → map is_none fates ≡ map not (map is_some fates)
unfated [] = refl
unfated (None ∷ fates) = ap (λ bs. true ∷ bs) (unfated fates)
unfated (Some f ∷ fates) = ap (λ bs. false ∷ bs) (unfated fates)

-- records came
pub held_came : (was now fated after : List Bool) (fates : List (Option Fate)) → was ≡ map not fated → now ≡ was ++ map is_none fates → after ≡ fated ++ map is_some fates → now ≡ map not after
held_came was now fated after fates is came more =
    came ∙ ap (λ bs. bs ++ map is_none fates) is ∙ ap (λ bs. map not fated ++ bs) (unfated fates) ∙ sym (map-append not fated (map is_some fates)) ∙ sym (ap (map not) more)

neither : (a b : Bool) → (not a && not b) ≡ not (a || b)
neither true b = refl
neither false b = refl

-- records got a fate
pub held_gone : (was now fated after : List Bool) (places : List ℕ) → was ≡ map not fated → length now ≡ length was → ((i : ℕ) → get_or now i false ≡ (get_or was i false && not (holds places i)))
    → length after ≡ length fated → ((i : ℕ) → i < length fated → get_or after i false ≡ (get_or fated i false || holds places i)) → now ≡ map not after
held_gone was now fated after places is len gone same given =
    let slots : length was ≡ length fated = ap length is ∙ length-map fated not in
    let all : length (map not after) ≡ length after = length-map after not in
    ext_get_or false now (map not after) (omega (arith, len, slots, all, same)) (λ i low.
    let within : i < length fated = omega (arith, low, len, slots) in
    gone i
    ∙ ap (λ b. b && not (holds places i)) (ap (λ bs. get_or bs i false) is ∙ get_or-map not fated i false false within)
    ∙ neither (get_or fated i false) (holds places i)
    ∙ sym (get_or-map not after i false false (omega (arith, within, same)) ∙ ap not (given i within)))

-- a record without a fate is held

pub open_held : (held fated : List Bool) (i : ℕ) (o : Option Fate) → held ≡ map not fated → i < length fated → get_or fated i false ≡ is_some o → is_none o ≡ true → get_or held i false ≡ true
open_held held fated i o is low has none = ap (λ bs. get_or bs i false) is ∙ get_or-map not fated i false false low ∙ ap not has ∙ by_fate o none
  where
    by_fate : (x : Option Fate) → is_none x ≡ true → not (is_some x) ≡ true
    by_fate None e = refl
    by_fate (Some f) e = absurd cc
