-- The counts of sources and functions under the change of one of them.
use Rattle.std.proofs.Common.{◌≡◌, ◌∙◌, ◌+◌, ◌-◌, ◌&&◌, ℕ, List, Option, Some, unwrap_or, refl, sym, ap, arith, inl, inr, string_bytes}
use Rattle.std.specs.BTreeMap.{BTreeMap, get, get_by, is_at, UpdatesBy}
use Rattle.std.specs.Ordering.{nat_cmp, is_eq, ordering_then}
use Rattle.std.specs.Cmp.Lexicographic.{slice_cmp}
use Rattle.std.specs.declared.cmp.Ordering.{Ordering}
use Rattle.std.specs.declared.cmp.Ordering.TheVariants.{Less, Equal, Greater}
use Rattle.std.specs.String.{string_cmp}
use Rattle.std.proofs.lemmas.Bool.{cases_Bool, and_parts, cond-true, cond-false}
use Rattle.std.proofs.lemmas.Map.Text.{is_eq-slice_cmp}
use Rattle.std.proofs.lemmas.Slice.Eq.{bytes_eq-Decides}
use Rattle.std.specs.Str.{bytes_eq}
use Rattle.esm_registry.specs.Index.{Arns, is_same, one_of}
use Rattle.esm_registry.specs.Pairs.{ArnTexts, arns, pair_cmp, count_at}

is_eq-then : (a b : Ordering) → is_eq (ordering_then a b) ≡ (is_eq a && is_eq b)
is_eq-then Less b = refl
is_eq-then Equal b = refl
is_eq-then Greater b = refl

-- the keys' order tells a source and a function apart
pair_test : (q p : ArnTexts) → is_at (pair_cmp q) p ≡ is_same (arns p) (arns q)
pair_test q p =
    is_eq-then (string_cmp q.0 p.0) (string_cmp q.1 p.1)
    ∙ ap (λ b. b && is_eq (string_cmp q.1 p.1)) (is_eq-slice_cmp (string_bytes q.0) (string_bytes p.0))
    ∙ ap (λ b. bytes_eq (string_bytes q.0) (string_bytes p.0) && b) (is_eq-slice_cmp (string_bytes q.1) (string_bytes p.1))

-- a look-up reads the two texts alone
by_arns : Arns → ArnTexts → Ordering
by_arns a k = ordering_then (slice_cmp nat_cmp a.source (string_bytes k.0)) (slice_cmp nat_cmp a.function (string_bytes k.1))

same_count : (counts : BTreeMap ArnTexts ℕ) (p q : ArnTexts) → arns p ≡ arns q → count_at counts p ≡ count_at counts q
unfolding by_arns
same_count counts p q same = ap (λ a. unwrap_or (get_by (by_arns a) counts) 0) same

-- a count is the one that was written, or as before
pub data At (old new : BTreeMap ArnTexts ℕ) (q : ArnTexts) (w : Option ℕ) (p : ArnTexts) : Type 0 where
  here : one_of (arns p) (arns q) ≡ 1 → count_at new p ≡ unwrap_or w 0 → count_at old p ≡ count_at old q → At old new q w p
  there : one_of (arns p) (arns q) ≡ 0 → count_at new p ≡ count_at old p → At old new q w p

pub at : (old new : BTreeMap ArnTexts ℕ) (q : ArnTexts) (w : Option ℕ) → UpdatesBy pair_cmp (pair_cmp q) old new w → (p : ArnTexts) → At old new q w p
unfolding one_of
at old new q w updates p =
    elim (cases_Bool (is_at (pair_cmp q) p)) [
      | inl is ↦
          let same = sym (pair_test q p) ∙ is in
          let parts = and_parts (bytes_eq (string_bytes q.0) (string_bytes p.0)) (bytes_eq (string_bytes q.1) (string_bytes p.1)) same in
          let sources : string_bytes q.0 ≡ string_bytes p.0 = (bytes_eq-Decides (string_bytes q.0) (string_bytes p.0)).0 parts.0 in
          let functions : string_bytes q.1 ≡ string_bytes p.1 = (bytes_eq-Decides (string_bytes q.1) (string_bytes p.1)).0 parts.1 in
          let equal : arns p ≡ arns q =
          ap (λ (s : List ℕ). let a : Arns = record { source = s; function = string_bytes p.1 } in a) (sym sources)
          ∙ ap (λ (f : List ℕ). let a : Arns = record { source = string_bytes q.0; function = f } in a) (sym functions) in
          here (cond-true (is_same (arns p) (arns q)) 1 0 same)
          (ap (λ o. unwrap_or o 0) (updates.0 p ∙ cond-true (is_at (pair_cmp q) p) w (get pair_cmp old p) is))
          (same_count old p q equal)
      | inr away ↦
          there (cond-false (is_same (arns p) (arns q)) 1 0 (sym (pair_test q p) ∙ away))
          (ap (λ o. unwrap_or o 0) (updates.0 p ∙ cond-false (is_at (pair_cmp q) p) w (get pair_cmp old p) away))
    ]

pub raised_at : (old new : BTreeMap ArnTexts ℕ) (q : ArnTexts) (n : ℕ) → n ≡ count_at old q → UpdatesBy pair_cmp (pair_cmp q) old new (Some (n + 1))
    → (p : ArnTexts) → count_at new p ≡ count_at old p + one_of (arns p) (arns q)
raised_at old new q n was updates p =
    elim (at old new q (Some (n + 1)) updates p) [
      | here one now before ↦ now ∙ sum (count_at old p) (one_of (arns p) (arns q)) n (before ∙ sym was) one
      | there none now ↦ now ∙ none_more (count_at old p) (one_of (arns p) (arns q)) none
    ]
  where
    sum : (a b n : ℕ) → a ≡ n → b ≡ 1 → n + 1 ≡ a + b
    sum a b n h one = omega arith

    none_more : (a b : ℕ) → b ≡ 0 → a ≡ a + b
    none_more a b none = omega arith

pub lowered_at : (old new : BTreeMap ArnTexts ℕ) (q : ArnTexts) (w : Option ℕ) → unwrap_or w 0 ≡ count_at old q - 1 → UpdatesBy pair_cmp (pair_cmp q) old new w
    → (p : ArnTexts) → count_at new p ≡ count_at old p - one_of (arns p) (arns q)
lowered_at old new q w is updates p =
    elim (at old new q w updates p) [
      | here one now before ↦ now ∙ difference (count_at old p) (one_of (arns p) (arns q)) (count_at old q) (unwrap_or w 0) is before one
      | there none now ↦ now ∙ none_less (count_at old p) (one_of (arns p) (arns q)) none
    ]
  where
    difference : (a b c v : ℕ) → v ≡ c - 1 → a ≡ c → b ≡ 1 → v ≡ a - b
    difference a b c v is before one = omega arith

    none_less : (a b : ℕ) → b ≡ 0 → a ≡ a - b
    none_less a b none = omega arith
