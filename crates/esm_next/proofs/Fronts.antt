-- The front of a lane: its group begins with its first open record.
use Rattle.std.proofs.Common.{◌≡◌, ℕ, zero, suc, ◌<◌, ◌≤◌, Bool, true, false, cond, ◌||◌, List, [], ◌∷◌, length, take, take_while, refl, sym, ap, ◌∙◌, subst, inl, inr, Option, Some, None, arith}
use Rattle.std.specs.Prelude.{◌==◌, slice_index}
use Rattle.std.specs.List.{list_any}
use Rattle.std.proofs.lemmas.Bool.{cases_Bool, and_from, eq-eqb}
use Rattle.std.proofs.lemmas.List.{length-take-le}
use Rattle.std.proofs.lemmas.List.Sums.{take_while-cons}
use Rattle.esm_model.specs.declared.limits.TheConstants.{MAX_EXPIRED}
use Rattle.esm_model.specs.declared.lane.LaneId.{LaneId}
use Rattle.esm_model.specs.declared.entry.Entry.{Entry}
use Rattle.esm_model.specs.Setting.{Setting}
use Rattle.esm_model.specs.Entries.{came_count}
use Rattle.esm_model.specs.Fates.{open_places}
use Rattle.esm_model.specs.Tries.{tries, mark, same_mark}
use Rattle.esm_model.specs.Batches.{same_piece, group_of, group, is_expired}
use Rattle.esm_model.specs.Step.{is_front_expired}
use Rattle.esm_model.proofs.Lists.{In}
use Rattle.esm_model.proofs.Records.{covered_open, group_In}
use Rattle.esm_next.specs.Following.{expiring}

same_mark-refl : (o : Option (ℕ × ℕ)) → same_mark o o ≡ true
same_mark-refl None = refl
same_mark-refl (Some a) = and_from (a.0 == a.0) (a.1 == a.1) (eq-eqb a.0 a.0 refl) (eq-eqb a.1 a.1 refl)

same_piece-refl : (s : Setting) (h : List Entry) (n i : ℕ) → same_piece s h n i i ≡ true
same_piece-refl s h n i = and_from (same_mark (mark s h n i) (mark s h n i)) (tries s h n i == tries s h n i) (same_mark-refl (mark s h n i)) (eq-eqb (tries s h n i) (tries s h n i) refl)

take_while-first : (p : ℕ → Bool) (x : ℕ) (xs : List ℕ) → p x ≡ true → take_while p (x ∷ xs) ≡ x ∷ take_while p xs
take_while-first p x xs passes = take_while-cons p x xs ∙ ap (λ b. cond b (x ∷ take_while p xs) []) passes

take_while-none : (p : ℕ → Bool) (x : ℕ) (xs : List ℕ) → p x ≡ false → take_while p (x ∷ xs) ≡ []
take_while-none p x xs fails = take_while-cons p x xs ∙ ap (λ b. cond b (x ∷ take_while p xs) []) fails

-- the group of open records begins with the first of them
pub group_first : (s : Setting) (h : List Entry) (n x : ℕ) (xs : List ℕ) → group_of s h n (x ∷ xs) ≡ x ∷ take_while (same_piece s h n x) xs
group_first s h n x xs = take_while-first (same_piece s h n x) x xs (same_piece-refl s h n x)

pub covered_group : (s : Setting) (h : List Entry) (lane : LaneId) (places : List ℕ) → group s h lane ≡ places → (i : ℕ) → In places i → i < came_count h lane.shard
covered_group s h lane places is i member = covered_open s h lane i (group_In s h lane i (subst (λ xs. In xs i) (sym is) member))

nothing_taken : (k : ℕ) → take {A = ℕ} k [] ≡ []
nothing_taken zero = refl
nothing_taken (suc k) = refl

something_taken : (k y : ℕ) (ys : List ℕ) → 0 < k → 1 ≤ length (take k (y ∷ ys))
something_taken zero y ys some = absurd (omega arith)
something_taken (suc k) y ys some = omega arith

or_false : (b : Bool) → (b || false) ≡ b
or_false true = refl
or_false false = refl

-- so many of the group's first records expire; the lane's first record is expired exactly where there are some
pub record ExpiresSo (s : Setting) (h : List Entry) (lane : LaneId) (m : ℕ) (places : List ℕ) (count : ℕ) : Type 0 where
  pub are : take count places ≡ expiring s h lane m
  pub some : 0 < count → is_front_expired s h lane m ≡ true
  pub none : count ≡ 0 → is_front_expired s h lane m ≡ false
  pub young : count ≡ 0 → is_expired s lane.shard m (slice_index places 0) ≡ false

pub expires_so : (s : Setting) (h : List Entry) (lane : LaneId) (m : ℕ) (places : List ℕ) (count : ℕ) → group s h lane ≡ places → (open_places s h lane ≡ [] → ⊥) → count ≤ length places
    → take count places ≡ take MAX_EXPIRED (take_while (is_expired s lane.shard m) places) → ExpiresSo s h lane m places count
expires_so s h lane m places count is some within taken = at (open_places s h lane) refl
  where
    p : ℕ → Bool
    p = is_expired s lane.shard m

    at : (xs : List ℕ) → open_places s h lane ≡ xs → ExpiresSo s h lane m places count
    at [] none = absurd (some none)
    at (x ∷ xs) opens =
        let rest = take_while (same_piece s h lane.shard x) xs in
        let starts : places ≡ x ∷ rest = sym is ∙ ap (group_of s h lane.shard) opens ∙ group_first s h lane.shard x xs in
        let front : is_front_expired s h lane m ≡ p x = ap (λ ys. list_any p (take 1 ys)) opens ∙ or_false (p x) in
        let long : length (take count places) ≡ count = length-take-le count places within in
        let taken' : take count places ≡ take MAX_EXPIRED (take_while p (x ∷ rest)) = taken ∙ ap (λ ys. take MAX_EXPIRED (take_while p ys)) starts in
        let not_old : count ≡ 0 → p x ≡ false = λ zero'. elim (cases_Bool (p x)) [
          | inr young ↦ young
          | inl old ↦ (
              let one : 1 ≤ length (take MAX_EXPIRED (x ∷ take_while p rest)) = something_taken MAX_EXPIRED x (take_while p rest) (omega arith) in
              let same : length (take count places) ≡ length (take MAX_EXPIRED (x ∷ take_while p rest)) = ap length (taken' ∙ ap (take MAX_EXPIRED) (take_while-first p x rest old)) in
              absurd (omega (arith, long, same, one, zero')))
        ] in
        record {
          are = taken ∙ ap (λ ys. take MAX_EXPIRED (take_while p ys)) (sym is);
          some = λ more. front ∙ elim (cases_Bool (p x)) [
            | inl old ↦ old
            | inr young ↦ (
                let none : take count places ≡ [] = taken' ∙ ap (take MAX_EXPIRED) (take_while-none p x rest young) ∙ nothing_taken MAX_EXPIRED in
                let short : length (take count places) ≡ 0 = ap length none in
                absurd (omega (arith, long, short, more)))
          ];
          none = λ zero'. front ∙ not_old zero';
          young = λ zero'. ap (λ (ys : List ℕ). p (slice_index ys 0)) starts ∙ not_old zero';
        }
