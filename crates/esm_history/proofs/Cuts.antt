-- A batch that fails is cut before a record that no cut stood before. Only this crate's proofs cite this.
use Rattle.std.proofs.Common.{◌≡◌, ℕ, zero, suc, ◌+◌, ◌<◌, ◌≤◌, Bool, true, false, ◌&&◌, List, [], ◌∷◌, ◌++◌, length, take, drop, refl, sym, ap, ◌∙◌, subst, inl, inr, arith, Some, None, append_assoc}
use Rattle.std.specs.Prelude.{slice_index, if◌then◌else◌}
use Rattle.std.proofs.lemmas.List.{take_more, drop_more, take-append-drop, take-append-le}
use Rattle.std.proofs.lemmas.Bool.{cases_order, and_from, eq-eqb, both_ways}
use Rattle.std.proofs.lemmas.Option.{same_Some}
use Rattle.esm_model.specs.declared.lane.LaneId.{LaneId}
use Rattle.esm_model.specs.declared.entry.Reply.{Reply}
use Rattle.esm_model.specs.declared.entry.Entry.{Entry}
use Rattle.esm_model.specs.declared.entry.Entry.TheVariants.{Ended}
use Rattle.esm_model.specs.declared.verdict.Rest.TheVariants as rest
use Rattle.esm_model.specs.Setting.{Setting, is_in_lane}
use Rattle.esm_model.specs.Entries.{holds, came_count, last_call, batch_of}
use Rattle.esm_model.specs.Fates.{lacks_fate, open_places}
use Rattle.esm_model.specs.Tries.{side, mark, marked_by, verdict_after}
use Rattle.esm_model.proofs.Lists.{In, In-here, In-none, In-one, In-take, Distinct, In-append_left, In-append_right, In-append_cases, IsFront, Distinct-apart, not_in, front_In, front_closed}
use Rattle.esm_model.proofs.Steps.{mark_ended}
use Rattle.esm_model.proofs.Sound.{open_In, open_distinct}
use Rattle.esm_history.proofs.Spent.{IsCut}
use Rattle.esm_history.proofs.Marks.{new_side, marks_merged, marked_In}

-- an end whose batch is marked alike leaves what is apart
pub cut_stays : (s : Setting) (h : List Entry) (at : LaneId) (reply : Reply) (m : ℕ)
    → ((i j : ℕ) → In (batch_of (last_call h at)) i → In (batch_of (last_call h at)) j → mark s h at.shard i ≡ mark s h at.shard j)
    → (n i : ℕ) → IsCut s h n i → IsCut s (Ended at reply m ∷ h) n i
cut_stays s h at reply m alike n i cut j low same =
    elim (marks_merged s h (Ended at reply m) n j i same) [
      | inl before ↦ cut j low before
      | inr both ↦ (
          let one = marked_In s h at reply m n j both.0 both.1 in
          let other = marked_In s h at reply m n i both.0 both.2 in
          cut j low (subst (λ k. mark s h k j ≡ mark s h k i) one.0 (alike j i one.1 other.1)))
    ]

-- a place within a batch that begins what is open in its lane
pub record IsWithin (s : Setting) (h : List Entry) (lane : LaneId) (places : List ℕ) (k : ℕ) : Type 0 where
  pub front : IsFront places (open_places s h lane)
  pub past : 1 ≤ k
  pub within : k < length places

-- it is not among those before it
pub not_before : (s : Setting) (h : List Entry) (lane : LaneId) (places : List ℕ) (k : ℕ) → IsWithin s h lane places k → In (take k places) (slice_index places k) → ⊥
not_before s h lane places k is member =
    let parts : open_places s h lane ≡ take k places ++ (drop k places ++ is.front.0) =
    is.front.1 ∙ ap (λ xs. xs ++ is.front.0) (sym (take-append-drop k places)) ∙ append_assoc (take k places) (drop k places) is.front.0 in
    let behind : In (drop k places) (slice_index places k) = subst (λ xs. In xs (slice_index places k)) (sym (drop_more places k 0 is.within)) (In-here (slice_index places k) (drop (k + 1) places) (slice_index places k) refl) in
    Distinct-apart (take k places) (drop k places ++ is.front.0) (slice_index places k) (subst (λ xs. Distinct xs) parts (open_distinct s h lane)) member
    (In-append_left (drop k places) is.front.0 (slice_index places k) behind)

pub place_In : (s : Setting) (h : List Entry) (lane : LaneId) (places : List ℕ) (k : ℕ) → IsWithin s h lane places k → In (take (k + 1) places) (slice_index places k)
place_In s h lane places k is =
    subst (λ xs. In xs (slice_index places k)) (sym (take_more places k 0 is.within)) (In-append_right (take k places) (slice_index places k ∷ []) (slice_index places k) (In-here (slice_index places k) [] (slice_index places k) refl))

-- each smaller place of the batch is
pub before_In : (s : Setting) (h : List Entry) (lane : LaneId) (places : List ℕ) (k j : ℕ) → IsWithin s h lane places k → In places j → j < slice_index places k → In (take k places) j
before_In s h lane places k j is member low =
    let same : take (k + 1) (open_places s h lane) ≡ take (k + 1) places = ap (take (k + 1)) is.front.1 ∙ take-append-le (k + 1) places is.front.0 (let w = is.within in omega (arith, w)) in
    let place : In (take (k + 1) (open_places s h lane)) (slice_index places k) = subst (λ xs. In xs (slice_index places k)) (sym same) (place_In s h lane places k is) in
    let facts = open_In s h lane j (front_In places (open_places s h lane) j is.front member) in
    let there : In (take (k + 1) (open_places s h lane)) j =
    front_closed (λ i. is_in_lane s lane i && lacks_fate s h lane.shard i) (came_count h lane.shard) (k + 1) (slice_index places k) j place low (and_from (is_in_lane s lane j) (lacks_fate s h lane.shard j) facts.1 facts.2) in
    elim (In-append_cases (take k places) (slice_index places k ∷ []) j (subst (λ xs. In xs j) (same ∙ take_more places k 0 is.within) there)) [
      | inl before ↦ before
      | inr here ↦ (let e : slice_index places k ≡ j = In-one (slice_index places k) j here in absurd (omega (arith, e, low)))
    ]

first_before : (places : List ℕ) (k : ℕ) → 1 ≤ k → 1 ≤ length places → In (take k places) (slice_index places 0)
first_before [] k past some = absurd (omega arith)
first_before (x ∷ xs) zero past some = absurd (omega arith)
first_before (x ∷ xs) (suc k) past some = In-here x (take k xs) x refl

-- the first record of the batch stands before it
pub first_low : (s : Setting) (h : List Entry) (lane : LaneId) (places : List ℕ) (k : ℕ) → IsWithin s h lane places k → slice_index places 0 < slice_index places k
first_low s h lane places k is =
    elim (cases_order (slice_index places 0) (slice_index places k)) [
      | inl same ↦ absurd (not_before s h lane places k is (subst (λ i. In (take k places) i) same (first_before places k is.past (let w = is.within in omega (arith, w)))))
      | inr (inl low) ↦ low
      | inr (inr high) ↦ absurd (high_not high)
    ]
  where
    high_not : slice_index places k < slice_index places 0 → ⊥
    high_not high =
        let p : ℕ → Bool = λ i. is_in_lane s lane i && lacks_fate s h lane.shard i in
        let inside : In places (slice_index places k) = In-all k (place_In s h lane places k is) in
        let facts = open_In s h lane (slice_index places k) (front_In places (open_places s h lane) (slice_index places k) is.front inside) in
        let some : 1 ≤ length places = (let w = is.within in omega (arith, w)) in
        let same : take 1 (open_places s h lane) ≡ take 1 places = ap (take 1) is.front.1 ∙ take-append-le 1 places is.front.0 some in
        let head : In (take 1 (open_places s h lane)) (slice_index places 0) = subst (λ xs. In xs (slice_index places 0)) (sym same) (first_before places 1 (omega arith) some) in
        let there : In (take 1 (open_places s h lane)) (slice_index places k) =
        front_closed (λ i. is_in_lane s lane i && lacks_fate s h lane.shard i) (came_count h lane.shard) 1 (slice_index places 0) (slice_index places k) head high (and_from (is_in_lane s lane (slice_index places k)) (lacks_fate s h lane.shard (slice_index places k)) facts.1 facts.2) in
        let one : slice_index places 0 ≡ slice_index places k = alone places (subst (λ xs. In xs (slice_index places k)) same there) in
        omega (arith, one, high)
      where
        alone : (xs : List ℕ) → In (take 1 xs) (slice_index places k) → slice_index xs 0 ≡ slice_index places k
        alone [] member = absurd (In-none (slice_index places k) member)
        alone (x ∷ xs) member = In-one x (slice_index places k) member

        In-all : (k' : ℕ) → In (take (k' + 1) places) (slice_index places k) → In places (slice_index places k)
        In-all k' member = In-take (k' + 1) places (slice_index places k) member

-- the cut is new

halved_side : (k : ℕ) (places : List ℕ) (i : ℕ) → side (rest.Split k) places i ≡ Some 1 → (In places i) × (holds (take k places) i ≡ false)
halved_side k places i is = at_side (holds places i) (holds (take k places) i) 0 1 refl is
  where
    at_side : (a b : Bool) (x y : ℕ) → x ≡ 0 → (if a then (if b then Some x else Some y) else None) ≡ Some 1 → (a ≡ true) × (b ≡ false)
    at_side true true x y none e = (let clash : x ≡ 1 = same_Some x 1 e in absurd (omega (arith, none, clash)))
    at_side true false x y none e = (refl, refl)
    at_side false b x y none e = cc

pub cut_made : (s : Setting) (h : List Entry) (at : LaneId) (reply : Reply) (m : ℕ) (places : List ℕ) (k : ℕ)
    → batch_of (last_call h at) ≡ places → (verdict_after s h at reply).succeeded ≡ 0 → (verdict_after s h at reply).rest ≡ rest.Split k
    → IsWithin s h at places k → IsCut s (Ended at reply m ∷ h) at.shard (slice_index places k)
cut_made s h at reply m places k batch none split is j low same =
    let v = verdict_after s h at reply in
    let sides : (i : ℕ) → side v.rest (drop v.succeeded (batch_of (last_call h at))) i ≡ side (rest.Split k) places i = λ i. ap (λ r. side r (drop v.succeeded (batch_of (last_call h at))) i) split ∙ ap (λ p. side (rest.Split k) (drop p (batch_of (last_call h at))) i) none ∙ ap (λ xs. side (rest.Split k) xs i) batch in
    let inside : In places (slice_index places k) = In-take (k + 1) places (slice_index places k) (place_In s h at places k is) in
    let outside : holds (take k places) (slice_index places k) ≡ false = not_in (take k places) (slice_index places k) (not_before s h at places k is) in
    let own : side (rest.Split k) places (slice_index places k) ≡ Some 1 = rw (inside, outside) refl in
    let marked : mark s (Ended at reply m ∷ h) at.shard (slice_index places k) ≡ Some (length h, 1) = mark_ended s at reply m h (slice_index places k) 1 (sides (slice_index places k) ∙ own) in
    let theirs : marked_by s h at.shard j (Ended at reply m) ≡ Some 1 = new_side s h (Ended at reply m) at.shard j 1 (same ∙ marked) in
    let sided : side v.rest (drop v.succeeded (batch_of (last_call h at))) j ≡ Some 1 = rw (eq-eqb at.shard at.shard refl) at theirs in
    let half = halved_side k places j (sym (sides j) ∙ sided) in
    both_ways (holds (take k places) j) half.1 (before_In s h at places k j is half.0 low)
