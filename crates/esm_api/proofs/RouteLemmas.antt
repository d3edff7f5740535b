-- What the router's routes make of a path.
use Rattle.std.proofs.Common.{◌≡◌, ℕ, ◌-◌, ◌⊎◌, Bool, true, false, not, cond, eqb, ltb, ◌&&◌, ◌||◌, List, [], ◌∷◌, ◌++◌, length, drop, Option, Some, None, sym, refl, ap, ◌∙◌, subst, inl, inr, arith, append-nil}
use Rattle.std.specs.Prelude.{nat_eq, bytes_eq, option_map}
use Rattle.std.specs.List.{list_all, starts_with}
use Rattle.std.proofs.lemmas.Bool.{cases_eq, ne_eqb, eq-eqb, eqb-true, lt-ltb, ltb-true, and_parts, false≢true, false_from_ne_true, cond-true, cond-false}
use Rattle.std.proofs.lemmas.List.{drop_all}
use Rattle.std.proofs.lemmas.Slice.Eq.{bytes_eq-Decides, starts_is}
use Rattle.std.specs.Bool.{Decides}
use Rattle.matchit.specs.Rows.{Rows}
use Rattle.matchit.specs.Seek.{first, seek, or_else, param_step, has_slash}
use Rattle.matchit.specs.Router.{RouteOf, map_key}
use Rattle.matchit.specs.Level.{IsText}
use Rattle.matchit.proofs.SeekLemmas.{first-prefix, seek-empty, seek-drop, param_step-empty, or_else-none}
use Rattle.matchit.proofs.RenameLemmas.{first-rename}
use Rattle.esm_api.specs.declared.route.Route.{Route}
use Rattle.esm_api.specs.declared.route.Route.TheVariants.{Mappings, Mapping}
use Rattle.esm_api.specs.Plan.{mappings_path, is_mapping_path, is_segment, last_part, route_of}
use Rattle.esm_api.specs.Routes.{routes, mapping_row, slash_row, mappings_row}

-- ---- the routes' ends, by number

abbrev one_end : Rows
one_end = ([], 0) ∷ []

abbrev two_ends : Rows
two_ends = (256 ∷ [], 0) ∷ ([], 1) ∷ []

abbrev three_ends : Rows
three_ends = (47 ∷ 256 ∷ [], 0) ∷ (47 ∷ [], 1) ∷ ([], 2) ∷ []

nothing_more : (q : List ℕ) → (seek {K = ℕ} 0 one_end q ≡ None) ⊎ (q ≡ [])
unfolding seek
nothing_more [] = inr refl
nothing_more (d ∷ q) = inl (simp (seek-empty 0 q, param_step-empty (d ∷ q), seek-empty ((param_step {K = ℕ} [] (d ∷ q)).0 - 1) q))

no_literal : (c : ℕ) (q : List ℕ) → (seek {K = ℕ} 0 (cond (eqb 256 c) one_end []) q ≡ None) ⊎ ((c ≡ 256) × (q ≡ []))
no_literal c q =
    elim (cases_eq 256 c) [
      | inl e ↦
          elim (nothing_more q) [
            | inl none ↦ inl (ap (λ v. seek {K = ℕ} 0 (cond v one_end []) q) (eq-eqb 256 c e) ∙ none)
            | inr empty ↦ inr (sym e, empty)
          ]
      | inr other ↦ inl (ap (λ v. seek {K = ℕ} 0 (cond v one_end []) q) (ne_eqb 256 c other) ∙ seek-empty 0 q)
    ]

-- one segment takes all that is left
abbrev rest_of : Bool → ℕ → List ℕ → ℕ × Rows
rest_of slash c q = cond slash (0, []) (length (c ∷ q), one_end)

own_end : seek {K = ℕ} 0 one_end [] ≡ Some 0
unfolding seek
own_end = refl

segment_taken : (slash : Bool) (c : ℕ) (q : List ℕ) → or_else (seek {K = ℕ} ((rest_of slash c q).0 - 1) (rest_of slash c q).1 q) None ≡ cond slash None (Some 0)
segment_taken true c q = ap (λ o. or_else o None) (seek-empty (0 - 1) q)
segment_taken false c q =
    ap (λ o. or_else o None) (seek-drop (length (c ∷ q) - 1) one_end q ∙ ap (λ t. seek {K = ℕ} 0 one_end t) (drop_all (length (c ∷ q) - 1) q (omega arith)) ∙ own_end)

segment_seek : (c : ℕ) (q : List ℕ) → seek {K = ℕ} 0 two_ends (c ∷ q) ≡ cond (has_slash (c ∷ q)) None (Some 0)
unfolding seek param_step
segment_seek c q =
    elim (no_literal c q) [
      | inl none ↦ ap (λ o. or_else o (or_else (seek {K = ℕ} ((rest_of (has_slash (c ∷ q)) c q).0 - 1) (rest_of (has_slash (c ∷ q)) c q).1 q) None)) none ∙ segment_taken (has_slash (c ∷ q)) c q
      | inr both ↦
          let P : ℕ → List ℕ → Type 0 = λ c q. seek {K = ℕ} 0 two_ends (c ∷ q) ≡ cond (has_slash (c ∷ q)) None (Some 0) in
          subst (λ c. P c q) (sym both.0) (subst (P 256) (sym both.1) refl)
    ]

abbrev behind_slash : List ℕ → Option ℕ
behind_slash [] = Some 1
behind_slash (c ∷ q) = cond (has_slash (c ∷ q)) None (Some 0)

slash_seek : (p : List ℕ) → seek {K = ℕ} 0 two_ends p ≡ behind_slash p
unfolding seek
slash_seek [] = refl
slash_seek (c ∷ q) = segment_seek c q

abbrev key_of : List ℕ → Option ℕ
key_of [] = Some 2
key_of (b ∷ p) = cond (eqb 47 b) (behind_slash p) None

ends_step : (slash : Bool) (p : List ℕ) → seek {K = ℕ} 0 (cond slash ((256 ∷ [], 0) ∷ cond slash (([], 1) ∷ []) []) (cond slash (([], 1) ∷ []) [])) p ≡ cond slash (behind_slash p) None
ends_step true p = slash_seek p
ends_step false p = seek-empty 0 p

ends_seek : (r : List ℕ) → seek {K = ℕ} 0 three_ends r ≡ key_of r
unfolding seek
ends_seek [] = refl
ends_seek (b ∷ p) =
    simp (param_step-empty (b ∷ p), seek-empty ((param_step {K = ℕ} [] (b ∷ p)).0 - 1) p, or_else-none) (ends_step (eqb 47 b) p)

-- ---- by the path

abbrev keyed : Rows
keyed = (mappings_path ++ 47 ∷ 256 ∷ [], 0) ∷ (mappings_path ++ 47 ∷ [], 1) ∷ (mappings_path, 2) ∷ []

abbrev row_at : ℕ → RouteOf Route
row_at n = cond (eqb n 0) mapping_row (cond (eqb n 1) slash_row mappings_row)

abbrev route_at : Option ℕ → Option Route
route_at key = option_map (λ e. e.value) (map_key row_at key)

slash_is : (xs : List ℕ) → has_slash xs ≡ not (list_all (λ b. not (eqb b 47)) xs)
slash_is [] = refl
slash_is (x ∷ xs) =
    elim (eqb x 47) as (λ v. cond v true (has_slash xs) ≡ not (not v && list_all (λ b. not (eqb b 47)) xs)) [
      | true ↦ refl
      | false ↦ slash_is xs
    ]

segment_route : (all : Bool) → route_at (cond (not all) None (Some 0)) ≡ cond all (Some Mapping) None
segment_route true = refl
segment_route false = refl

-- what the path of the mappings and something behind it name
behind_path : (r : List ℕ) → route_at (key_of r) ≡ route_of (mappings_path ++ r)
behind_path [] = refl
behind_path (b ∷ p) =
    elim (cases_eq 47 b) [
      | inl e ↦ subst (λ b. route_at (key_of (b ∷ p)) ≡ route_of (mappings_path ++ b ∷ p)) e (slashed p)
      | inr other ↦
          let back : eqb b 47 ≡ false = ne_eqb b 47 (λ e. other (sym e)) in
          let forth : eqb 47 b ≡ false = ne_eqb 47 b other in
          simp (back, forth)
    ]
  where
    slashed : (p : List ℕ) → route_at (key_of (47 ∷ p)) ≡ route_of (mappings_path ++ 47 ∷ p)
    slashed [] = refl
    slashed (c ∷ q) =
        ap (λ v. route_at (cond v None (Some 0))) (slash_is (c ∷ q)) ∙ segment_route (list_all (λ b. not (eqb b 47)) (c ∷ q))
        ∙ sym (ap (λ v. cond (v && list_all (λ b. not (eqb b 47)) (c ∷ q)) (Some Mapping) None) (lt-ltb 0 (length (c ∷ q)) (omega arith)))

eqb-Decides : (a b : ℕ) → Decides (nat_eq a b) (a ≡ b)
eqb-Decides a b = (λ e. eqb-true a b e, λ e. eq-eqb a b e)

abbrev begins_path : List ℕ → Bool
begins_path path = starts_with nat_eq path mappings_path

begins_if : (path rest : List ℕ) → path ≡ mappings_path ++ rest → begins_path path ≡ true
begins_if path rest e = (starts_is eqb-Decides path mappings_path (begins_path path) refl).1 rest e

no_route : (path : List ℕ) → begins_path path ≡ false → route_of path ≡ None
no_route path other =
    let never : (rest : List ℕ) → path ≡ mappings_path ++ rest → ⊥ = λ rest e. false≢true (sym other ∙ begins_if path rest e) in
    let plain : bytes_eq path mappings_path ≡ false =
    false_from_ne_true _ (λ is. never [] ((bytes_eq-Decides path mappings_path).0 is ∙ sym (append-nil mappings_path))) in
    let slash : bytes_eq path (mappings_path ++ 47 ∷ []) ≡ false =
    false_from_ne_true _ (λ is. never (47 ∷ []) ((bytes_eq-Decides path (mappings_path ++ 47 ∷ [])).0 is)) in
    let part : starts_with nat_eq path (mappings_path ++ 47 ∷ []) ≡ false =
    false_from_ne_true _ (λ is. never (47 ∷ drop 34 path) ((starts_is eqb-Decides path (mappings_path ++ 47 ∷ []) _ refl).0 is)) in
    ap (λ v. cond (v || bytes_eq path (mappings_path ++ 47 ∷ [])) (Some Mappings) (cond (is_mapping_path path) (Some Mapping) None)) plain
    ∙ ap (λ v. cond v (Some Mappings) (cond (is_mapping_path path) (Some Mapping) None)) slash
    ∙ ap (λ v. cond (v && is_segment (last_part path)) (Some Mapping) None) part

text_if : (w : List ℕ) → list_all (λ b. ltb b 256) w ≡ true → IsText w
text_if [] e = tt
text_if (b ∷ w) e =
    let parts = and_parts (ltb b 256) (list_all (λ b. ltb b 256) w) e in
    (ltb-true b 256 parts.0, text_if w parts.1)

path_is_text : IsText mappings_path
path_is_text = text_if mappings_path refl

pub route_is : (path : List ℕ) → option_map (λ e. e.value) (first routes path) ≡ route_of path
route_is path =
    ap (option_map (λ (e : RouteOf Route). e.value)) (first-rename row_at keyed path)
    ∙ ap route_at (first-prefix mappings_path three_ends path path_is_text)
    ∙ by (begins_path path) refl
  where
    by : (v : Bool) → begins_path path ≡ v → route_at (cond (begins_path path) (first three_ends (drop 33 path)) None) ≡ route_of path
    by true is =
        let whole : path ≡ mappings_path ++ drop 33 path = (starts_is eqb-Decides path mappings_path (begins_path path) refl).0 is in
        ap route_at (cond-true (begins_path path) (first three_ends (drop 33 path)) None is ∙ ends_seek (drop 33 path))
        ∙ behind_path (drop 33 path) ∙ ap route_of (sym whole)
    by false other =
        ap route_at (cond-false (begins_path path) (first three_ends (drop 33 path)) None other) ∙ sym (no_route path other)
