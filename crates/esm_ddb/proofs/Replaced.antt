-- The elements of a text that is put together from elements, and the text with others in their place.
use Rattle.std.proofs.Common.{◌≡◌, ◌∙◌, ℕ, ◌+◌, ◌-◌, ◌<◌, ◌≤◌, arith, refl, sym, ap, ap₂, List, [], ◌∷◌, ◌++◌, append_assoc, codes, length, length-append, length-drop, take, drop, get_or, Option, Some, option_map, option_and_then}
use Rattle.std.specs.Prelude.{slice_range}
use Rattle.std.specs.List.{All, flat_map}
use Rattle.std.proofs.lemmas.List.{drop-append-le, drop_at, take_at, get_or_append_left, get_or-append-add}
use Rattle.std.proofs.lemmas.List.Elements.{All-head, All-tail}
use Rattle.json.specs.Lex.{between}
use Rattle.json.specs.Json.{Json, Items, no_items, item}
use Rattle.esm_model.specs.State.{size}
use Rattle.esm_window.specs.Layout.{mode_at}
use Rattle.esm_ddb.specs.Event.{element_at, elements_at, payload_of, replaced}
use Rattle.esm_ddb.specs.Lexemes.{places_from}
use Rattle.esm_ddb.specs.declared.elements.Element.{Element}
use Rattle.esm_ddb.proofs.Laid.{places_append}

-- a text that is one element with this data
pub record IsElement (text : List ℕ) (j : Json) (payload : List ℕ) : Type 0 where
  pub some : 0 < size j
  pub count : (p : ℕ) → length (places_from between p text) ≡ size j
  pub first : (p : ℕ) → get_or (places_from between p text) 0 0 ≡ p
  pub last : (p : ℕ) → get_or (places_from between p text) (size j - 1) 0 + 1 ≡ p + length text
  pub mode : mode_at between text ≡ between
  pub data_is : payload_of j ≡ Some payload

abbrev made : ℕ → ℕ → List ℕ → Element
made first end payload = record { first = first; end = end; payload = payload }

one_placed : (front text more payload : List ℕ) (p : ℕ) (j : Json) → IsElement text j payload
    → element_at (front ++ (places_from between p text ++ more)) (length front) j payload ≡ made p (p + length text) payload
one_placed front text more payload p j is =
    let own = places_from between p text in
    let places = front ++ (own ++ more) in
    let zero : length front ≡ length front + 0 = omega arith in
    let place : length front + size j - 1 ≡ length front + (size j - 1) = omega (arith, is.some) in
    let some : 0 < length own = omega (arith, is.count p, is.some) in
    let within : size j - 1 < length own = omega (arith, is.count p, is.some) in
    let first : get_or places (length front) 0 ≡ p =
    ap (λ n. get_or places n 0) zero ∙ get_or-append-add front (own ++ more) 0 0 ∙ get_or_append_left own more 0 0 some ∙ is.first p in
    let last : get_or places (length front + size j - 1) 0 + 1 ≡ p + length text =
    ap (λ n. get_or places n 0 + 1) place ∙ ap (λ n. n + 1) (get_or-append-add front (own ++ more) (size j - 1) 0 ∙ get_or_append_left own more 0 (size j - 1) within) ∙ is.last p in
    ap₂ (λ a b. made a b payload) first last

module _ {R : Type 0} (text : R → List ℕ) (json : R → Json) (data_of : R → List ℕ) where
  abbrev Is : R → Type 0
  Is r = IsElement (text r) (json r) (data_of r)

  abbrev pub items_of : List R → Items
  items_of [] = no_items
  items_of (r ∷ rs) = item (json r) (items_of rs)

  -- where they stand from this place on, each with a comma behind it
  abbrev pub placed : ℕ → List R → List Element
  placed p [] = []
  placed p (r ∷ rs) = made p (p + length (text r)) (data_of r) ∷ placed (p + length (text r) + 1) rs

  abbrev pub others : List R → List ℕ
  others rs = flat_map (λ r. codes "," ++ text r) rs

  abbrev pub other_data : List R → List ℕ
  other_data rs = flat_map (λ r. codes "," ++ data_of r) rs

  step_found : (places : List ℕ) (at : ℕ) (r : R) (js : Items) (found : List Element) → Is r → elements_at places (at + size (json r) + 1) js ≡ Some found
      → elements_at places at (item (json r) js) ≡ Some (element_at places at (json r) (data_of r) ∷ found)
  step_found places at r js found is more =
      ap (λ (o : Option (List ℕ)). option_and_then (λ payload. option_map (λ es. element_at places at (json r) payload ∷ es) (elements_at places (at + size (json r) + 1) js)) o) is.data_is
      ∙ ap (λ (o : Option (List Element)). option_map (λ es. element_at places at (json r) (data_of r) ∷ es) o) more

  comma_place : (p : ℕ) (xs : List ℕ) → places_from between p (44 ∷ xs) ≡ p ∷ places_from between (p + 1) xs
  unfolding places_from
  comma_place p xs = refl

  -- the elements of the list are found where they stand
  pub elements_found : (front : List ℕ) (p : ℕ) (r : R) (rs : List R) (end : List ℕ) → All Is (r ∷ rs)
      → elements_at (front ++ places_from between p (text r ++ (others rs ++ end))) (length front) (items_of (r ∷ rs)) ≡ Some (placed p (r ∷ rs))
  elements_found front p r [] end all =
      let is = All-head Is r [] all in
      let own = places_from between p (text r) in
      let rest = places_from (mode_at between (text r)) (p + length (text r)) end in
      let split : front ++ places_from between p (text r ++ ([] ++ end)) ≡ front ++ (own ++ rest) = ap (λ l. front ++ l) (places_append between p (text r) end) in
      ap (λ l. elements_at l (length front) (item (json r) no_items)) split
      ∙ step_found (front ++ (own ++ rest)) (length front) r no_items [] is refl
      ∙ ap (λ (e : Element). Some (e ∷ [])) (one_placed front (text r) rest (data_of r) p (json r) is)
  elements_found front p r (s ∷ rs) end all =
      let is = All-head Is r (s ∷ rs) all in
      let own = places_from between p (text r) in
      let q = p + length (text r) in
      let next : List ℕ = text s ++ (others rs ++ end) in
      let longer : List ℕ = front ++ (own ++ q ∷ []) in
      let rest = places_from between (q + 1) next in
      let further : places_from between p (text r ++ (others (s ∷ rs) ++ end)) ≡ own ++ q ∷ rest =
      places_append between p (text r) (others (s ∷ rs) ++ end)
      ∙ ap (λ m. own ++ places_from m q (44 ∷ ((text s ++ others rs) ++ end))) is.mode
      ∙ ap (λ l. own ++ l) (comma_place q ((text s ++ others rs) ++ end))
      ∙ ap (λ l. own ++ q ∷ places_from between (q + 1) l) (append_assoc (text s) (others rs) end) in
      let split : front ++ places_from between p (text r ++ (others (s ∷ rs) ++ end)) ≡ front ++ (own ++ q ∷ rest) = ap (λ l. front ++ l) further in
      let regrouped : front ++ (own ++ q ∷ rest) ≡ longer ++ rest =
      ap (λ l. front ++ l) (sym (append_assoc own (q ∷ []) rest)) ∙ sym (append_assoc front (own ++ q ∷ []) rest) in
      let long : length longer ≡ length front + size (json r) + 1 = omega (arith, length-append front (own ++ q ∷ []), length-append own (q ∷ []), is.count p) in
      let more : elements_at (front ++ (own ++ q ∷ rest)) (length front + size (json r) + 1) (items_of (s ∷ rs)) ≡ Some (placed (q + 1) (s ∷ rs)) =
      ap₂ (λ l n. elements_at l n (items_of (s ∷ rs))) regrouped (sym long) ∙ elements_found longer (q + 1) s rs end (All-tail Is r (s ∷ rs) all) in
      ap (λ l. elements_at l (length front) (items_of (r ∷ s ∷ rs))) split
      ∙ step_found (front ++ (own ++ q ∷ rest)) (length front) r (items_of (s ∷ rs)) (placed (q + 1) (s ∷ rs)) is more
      ∙ ap (λ (e : Element). Some (e ∷ placed (q + 1) (s ∷ rs))) (one_placed front (text r) (q ∷ rest) (data_of r) p (json r) is)

  part_before : (from : ℕ) (before rest : List ℕ) → from ≤ length before → slice_range (before ++ rest) from (length before) ≡ drop from before
  part_before from before rest within =
      ap (take (length before - from)) (drop-append-le from before rest within) ∙ take_at (drop from before) rest (length before - from) (length-drop from before)

  rest_after : (before t end : List ℕ) → drop (length before + length t) (before ++ (t ++ end)) ≡ end
  rest_after before t end = ap (drop (length before + length t)) (sym (append_assoc before t end)) ∙ drop_at (before ++ t) end (length before + length t) (length-append before t)

  -- each is replaced by its data
  pub all_replaced : (from : ℕ) (before : List ℕ) (r : R) (rs : List R) (end : List ℕ) → from ≤ length before
      → replaced from (before ++ (text r ++ (others rs ++ end))) (placed (length before) (r ∷ rs)) ≡ drop from before ++ (data_of r ++ (other_data rs ++ end))
  all_replaced from before r [] end within =
      ap₂ (λ a b. a ++ (data_of r ++ b)) (part_before from before (text r ++ end) within) (rest_after before (text r) end)
  all_replaced from before r (s ∷ rs) end within =
      let next : List ℕ = text s ++ (others rs ++ end) in
      let whole : List ℕ = before ++ (text r ++ (others (s ∷ rs) ++ end)) in
      let q = length before + length (text r) in
      let longer : List ℕ = before ++ (text r ++ 44 ∷ []) in
      let long : length longer ≡ q + 1 = omega (arith, length-append before (text r ++ 44 ∷ []), length-append (text r) (44 ∷ [])) in
      let same : whole ≡ longer ++ next =
      ap (λ l. before ++ (text r ++ 44 ∷ l)) (append_assoc (text s) (others rs) end)
      ∙ ap (λ l. before ++ l) (sym (append_assoc (text r) (44 ∷ []) next)) ∙ sym (append_assoc before (text r ++ 44 ∷ []) next) in
      let comma : drop q longer ≡ 44 ∷ [] = rest_after before (text r) (44 ∷ []) in
      let more : replaced q whole (placed (q + 1) (s ∷ rs)) ≡ 44 ∷ (data_of s ++ (other_data rs ++ end)) =
      ap₂ (λ l n. replaced q l (placed n (s ∷ rs))) same (sym long) ∙ all_replaced q longer s rs end (omega (arith, long)) ∙ ap (λ l. l ++ (data_of s ++ (other_data rs ++ end))) comma in
      ap₂ (λ a b. a ++ (data_of r ++ b)) (part_before from before (text r ++ (others (s ∷ rs) ++ end)) within)
      (more ∙ ap (λ l. 44 ∷ l) (sym (append_assoc (data_of s) (other_data rs) end)))
