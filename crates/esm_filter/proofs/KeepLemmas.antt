-- What is kept of a document's values: scalars, the leaves of lists, and the whole.
use Rattle.std.proofs.Common.{◌≡◌, ℕ, List, [], ◌∷◌, ◌++◌, filter, Bool, true, Option, Some, None, append_assoc, refl, sym, ap, subst, ◌∙◌}
use Rattle.json.specs.Token.{Token}
use Rattle.json.specs.Json.{value}
use Rattle.serde_json.specs.Data.{Data, null, boolean, number, string, array, object, Items, item}
use Rattle.serde_json.specs.Read.{of_json, converted}
use Rattle.esm_model.specs.Leaves.{is_leaf, items_list}
use Rattle.esm_filter.specs.Found.{found_view, items_view}
use Rattle.esm_filter.specs.declared.found.Found.{Found}
use Rattle.esm_filter.specs.Named.{KeepsValue, Like}
use Rattle.esm_filter.proofs.LikeLemmas.{itself}

pub like_value : (names : List ℕ → Bool) (d e : Data) → e ≡ d → Like names (Some d) (Some e)
like_value names d e same = subst (λ (x : Data). Like names (Some d) (Some x)) (sym same) (itself names (Some d))

pub like_none : (names : List ℕ → Bool) (o : Option Data) → o ≡ None → Like names o None
like_none names o none = subst (λ (x : Option Data). Like names x None) (sym none) (itself names None)

pub like_some : (names : List ℕ → Bool) (o : Option Data) (d e : Data) → o ≡ Some d → Like names (Some d) (Some e) → Like names o (Some e)
like_some names o d e is like = subst (λ (x : Option Data). Like names x (Some e)) (sym is) like

pub keeps_as : (names : List ℕ → Bool) (kept : Bool) (depth : ℕ) (old new : List Token) (d e : Data) → converted of_json (value depth old) ≡ Some (d, new) → (kept ≡ true → e ≡ d) → KeepsValue names kept depth old e new
keeps_as names kept depth old new d e reads same = record { found = d; reads = reads; like = λ k. like_value names d e (same k) }

-- ---- the leaves of a list

abbrev pub leaves_in : Items → List Data
leaves_in ds = filter is_leaf (items_list ds)

split_leaf : (d : Data) (ds : List Data) → filter is_leaf (d ∷ ds) ≡ filter is_leaf (d ∷ []) ++ filter is_leaf ds
split_leaf null ds = refl
split_leaf (boolean b) ds = refl
split_leaf (number n) ds = refl
split_leaf (string s) ds = refl
split_leaf (array es) ds = refl
split_leaf (object ms) ds = refl

one_more : (vs : List Found) (v : Found) → leaves_in (items_view (vs ++ v ∷ [])) ≡ leaves_in (items_view vs) ++ filter is_leaf (found_view v ∷ [])
one_more [] v = refl
one_more (w ∷ vs) v =
    let first : List Data = filter is_leaf (found_view w ∷ []) in
    split_leaf (found_view w) (items_list (items_view (vs ++ v ∷ [])))
    ∙ ap (λ (xs : List Data). first ++ xs) (one_more vs v)
    ∙ sym (append_assoc first (leaves_in (items_view vs)) (filter is_leaf (found_view v ∷ [])))
    ∙ ap (λ (xs : List Data). xs ++ filter is_leaf (found_view v ∷ [])) (sym (split_leaf (found_view w) (items_list (items_view vs))))

pub no_more : (xs : List Data) → xs ++ [] ≡ xs
no_more [] = refl
no_more (x ∷ xs) = ap (λ (ys : List Data). x ∷ ys) (no_more xs)

abbrev pub Leaves : (Items → Items) → List Found → Type 0
Leaves before vs = (rest : Items) → leaves_in (before rest) ≡ leaves_in (items_view vs) ++ leaves_in rest

pub next_leaf : (before : Items → Items) (vs ws : List Found) (v : Found) (d : Data) → filter is_leaf (d ∷ []) ≡ filter is_leaf (found_view v ∷ []) → ws ≡ vs ++ v ∷ [] → Leaves before vs → Leaves (λ ds. before (item d ds)) ws
next_leaf before vs ws v d same pushed were rest =
    let last : List Data = filter is_leaf (found_view v ∷ []) in
    were (item d rest)
    ∙ ap (λ (xs : List Data). leaves_in (items_view vs) ++ xs) (split_leaf d (items_list rest) ∙ ap (λ (xs : List Data). xs ++ leaves_in rest) same)
    ∙ sym (append_assoc (leaves_in (items_view vs)) last (leaves_in rest))
    ∙ ap (λ (xs : List Data). xs ++ leaves_in rest) (sym (one_more vs v))
    ∙ ap (λ (us : List Found). leaves_in (items_view us) ++ leaves_in rest) (sym pushed)
