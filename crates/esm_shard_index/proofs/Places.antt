-- Lists of places.
use Rattle.std.proofs.Common.{◌≡◌, ℕ, zero, suc, ◌+◌, ◌<◌, Bool, true, false, List, [], ◌∷◌, ◌++◌, length, get_or, refl, sym, ap, ◌∙◌, arith, append_assoc, append-nil}
use Rattle.std.specs.Prelude.{map, filter, slice_get, if◌then◌else◌, Some}
use Rattle.std.proofs.lemmas.List.{ext_get_or}
use Rattle.esm_model.specs.Entries.{holds}
use Rattle.esm_model.specs.Fates.{below}
use Rattle.esm_model.proofs.Lists.{In-here, In-there}
use Rattle.esm_shard_index.specs.Places.{places_from}
use Rattle.esm_model.proofs.Counts.{length-below, get_below}

-- the place at an index is one of the places
pub holds_at : (xs : List ℕ) (k : ℕ) → k < length xs → holds xs (get_or xs k 0) ≡ true
holds_at [] k low = absurd (omega arith)
holds_at (x ∷ xs) zero low = In-here x xs x refl
holds_at (x ∷ xs) (suc k) low = In-there x xs (get_or xs k 0) (holds_at xs k (omega arith))

pub below_from : (n k : ℕ) → below (k + n) ≡ below n ++ places_from n k
below_from n zero = (let e : 0 + n ≡ n = omega arith in rw e (sym (append-nil (below n))))
below_from n (suc k) =
    let e : suc k + n ≡ k + suc n = omega arith in
    rw e (below_from (suc n) k ∙ append_assoc (below n) (n ∷ []) (places_from (suc n) k))

get_from_slice : (xs : List ℕ) (i x : ℕ) → slice_get xs i ≡ Some x → get_or xs i 0 ≡ x
get_from_slice [] i x is = cc
get_from_slice (y ∷ xs) zero x is = cc
get_from_slice (y ∷ xs) (suc i) x is = get_from_slice xs i x is

length-map : (f : ℕ → Bool) (xs : List ℕ) → length (map f xs) ≡ length xs
length-map f [] = refl
length-map f (x ∷ xs) = ap suc (length-map f xs)

get-map : (f : ℕ → Bool) (xs : List ℕ) (i : ℕ) → i < length xs → get_or (map f xs) i false ≡ f (get_or xs i 0)
get-map f [] i low = absurd (omega arith)
get-map f (x ∷ xs) zero low = refl
get-map f (x ∷ xs) (suc i) low = get-map f xs i (omega arith)

-- a list that has at each place what f says of it
pub map_below : (f : ℕ → Bool) (n : ℕ) (bs : List Bool) → length bs ≡ n → ((i : ℕ) → i < n → get_or bs i false ≡ f i) → bs ≡ map f (below n)
map_below f n bs long each =
    ext_get_or false bs (map f (below n)) (long ∙ sym (length-below n) ∙ sym (length-map f (below n)))
    (λ i low. let l : i < n = omega (arith, long) in
    each i l ∙ sym (get-map f (below n) i (omega (arith, length-below n)) ∙ ap f (get_from_slice (below n) i i (get_below n i l))))

one_more : {A : Type 0} (b : Bool) (y : ℕ) (z : A) (ys : List ℕ) (zs : List A) → length ys ≡ length zs → length (if b then y ∷ ys else ys) ≡ length (if b then z ∷ zs else zs)
one_more true y z ys zs e = ap suc e
one_more false y z ys zs e = e

-- what passes of a list that has at each place what g says of the places from n on
pub passes_from : {A : Type 0} (p : A → Bool) (g : ℕ → A) (d : A) (xs : List A) (n : ℕ) → ((k : ℕ) → k < length xs → get_or xs k d ≡ g (n + k))
    → length (filter (λ i. p (g i)) (places_from n (length xs))) ≡ length (filter p xs)
passes_from p g d [] n each = refl
passes_from p g d (x ∷ xs) n each =
    let here : g n ≡ x = (let e : n + 0 ≡ n = omega arith in ap g (sym e) ∙ sym (each 0 (omega arith))) in
    let rest : length (filter (λ i. p (g i)) (places_from (suc n) (length xs))) ≡ length (filter p xs) =
    passes_from p g d xs (suc n) (λ k low. let e : n + suc k ≡ suc n + k = omega arith in each (suc k) (omega arith) ∙ ap g e) in
    rw here (one_more (p x) n x (filter (λ i. p (g i)) (places_from (suc n) (length xs))) (filter p xs) rest)
