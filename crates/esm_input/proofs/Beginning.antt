-- Items from their starting positions on, list after list.
use Rattle.std.proofs.Common.{◌≡◌, ℕ, true, false, List, [], ◌∷◌, ◌++◌, reverse, refl, sym, ap, ◌∙◌, append_assoc}
use Rattle.std.specs.Prelude.{All, if◌then◌else◌}
use Rattle.std.proofs.lemmas.List.{reverse-append}
use Rattle.std.proofs.lemmas.List.Elements.{All-cons, All-head, All-tail}
use Rattle.esm_model.specs.declared.config.Start.{Start}
use Rattle.esm_model.specs.declared.config.Start.TheVariants.{TrimHorizon, Latest, At}
use Rattle.esm_model.specs.declared.item.Item.{Item}
use Rattle.esm_input.specs.Limits.{shards_with}
use Rattle.esm_input.specs.Positions.{has_begun, from_moment, from_start}
use Rattle.esm_input.specs.Begun.{begun_after, kept_from, begun_from}

from_more : (m : ℕ) (b : List ℕ) (xs ys : List Item) → from_moment m b (xs ++ ys) ≡ from_moment m b xs ++ from_moment m (begun_after m b xs) ys
from_more m b [] ys = refl
from_more m b (x ∷ xs) ys =
    elim (has_begun m b x) as (λ t. (if t then x ∷ from_moment m (shards_with b x) (xs ++ ys) else from_moment m b (xs ++ ys))
    ≡ (if t then x ∷ from_moment m (shards_with b x) xs else from_moment m b xs) ++ from_moment m (if t then begun_after m (shards_with b x) xs else begun_after m b xs) ys)
    [ true ↦ ap (λ l. x ∷ l) (from_more m (shards_with b x) xs ys) | false ↦ from_more m b xs ys ]

begun_more : (m : ℕ) (b : List ℕ) (xs ys : List Item) → begun_after m b (xs ++ ys) ≡ begun_after m (begun_after m b xs) ys
begun_more m b [] ys = refl
begun_more m b (x ∷ xs) ys =
    elim (has_begun m b x) as (λ t. (if t then begun_after m (shards_with b x) (xs ++ ys) else begun_after m b (xs ++ ys))
    ≡ begun_after m (if t then begun_after m (shards_with b x) xs else begun_after m b xs) ys)
    [ true ↦ begun_more m (shards_with b x) xs ys | false ↦ begun_more m b xs ys ]

pub kept_more : (s : Start) (b : List ℕ) (xs ys : List Item) → kept_from s b (xs ++ ys) ≡ kept_from s b xs ++ kept_from s (begun_from s b xs) ys
kept_more TrimHorizon b xs ys = refl
kept_more Latest b xs ys = refl
kept_more (At m) b xs ys = from_more m b xs ys

pub begun_from_more : (s : Start) (b : List ℕ) (xs ys : List Item) → begun_from s b (xs ++ ys) ≡ begun_from s (begun_from s b xs) ys
begun_from_more TrimHorizon b xs ys = refl
begun_from_more Latest b xs ys = refl
begun_from_more (At m) b xs ys = begun_more m b xs ys

pub begun_of_none : (s : Start) (b : List ℕ) → begun_from s b [] ≡ b
begun_of_none TrimHorizon b = refl
begun_of_none Latest b = refl
begun_of_none (At m) b = refl

pub start_is : (s : Start) (xs : List Item) → from_start s xs ≡ kept_from s [] xs
start_is TrimHorizon xs = refl
start_is Latest xs = refl
start_is (At m) xs = refl

all_from : (P : Item → Type 0) (m : ℕ) (b : List ℕ) (xs : List Item) → All P xs → All P (from_moment m b xs)
all_from P m b [] all = all
all_from P m b (x ∷ xs) all =
    elim (has_begun m b x) as (λ t. All P (if t then x ∷ from_moment m (shards_with b x) xs else from_moment m b xs)) [
      | true ↦ All-cons P x (from_moment m (shards_with b x) xs) (All-head P x xs all) (all_from P m (shards_with b x) xs (All-tail P x xs all))
      | false ↦ all_from P m b xs (All-tail P x xs all)
    ]

-- what holds of all holds of those that are kept
pub all_kept : (P : Item → Type 0) (s : Start) (b : List ℕ) (xs : List Item) → All P xs → All P (kept_from s b xs)
all_kept P TrimHorizon b xs all = all
all_kept P Latest b xs all = all
all_kept P (At m) b xs all = all_from P m b xs all

-- one item more, where the last of a list in reverse is the next

pub record IsKeeping (m : ℕ) (first now : List ℕ) (given kept rest : List Item) : Type 0 where
  pub items : from_moment m first given ≡ kept ++ from_moment m now (reverse rest)
  pub shards : begun_after m first given ≡ begun_after m now (reverse rest)

pub keeping_more : (m : ℕ) (first now next : List ℕ) (given kept more rest less : List Item) (x : Item) → rest ≡ less ++ x ∷ [] → more ≡ kept ++ from_moment m now (x ∷ []) → next ≡ begun_after m now (x ∷ [])
    → IsKeeping m first now given kept rest → IsKeeping m first next given more less
keeping_more m first now next given kept more rest less x pop push begin was =
    let split : reverse rest ≡ (x ∷ []) ++ reverse less = ap reverse pop ∙ reverse-append less (x ∷ []) in
    record {
      items = was.items ∙ ap (λ l. kept ++ from_moment m now l) split ∙ ap (λ l. kept ++ l) (from_more m now (x ∷ []) (reverse less))
          ∙ sym (append_assoc kept (from_moment m now (x ∷ [])) (from_moment m (begun_after m now (x ∷ [])) (reverse less)))
          ∙ ap (λ l. l ++ from_moment m (begun_after m now (x ∷ [])) (reverse less)) (sym push) ∙ ap (λ b. more ++ from_moment m b (reverse less)) (sym begin);
      shards = was.shards ∙ ap (begun_after m now) split ∙ begun_more m now (x ∷ []) (reverse less) ∙ ap (λ b. begun_after m b (reverse less)) (sym begin);
    }
