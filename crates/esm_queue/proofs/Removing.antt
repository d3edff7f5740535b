-- Groups of messages of which one is deleted, and of messages that are not.
use Rattle.std.proofs.Common.{◌≡◌, ℕ, ◌<◌, ◌≤◌, ◌&&◌, ◌==◌, Bool, true, cond, List, length, set, sym, ap, ap₂, ◌∙◌, subst, inl, inr, arith, Option}
use Rattle.std.specs.Prelude.{slice_index}
use Rattle.std.proofs.lemmas.Bool.{cases_lt, cases_eq, cond-true, cond-false, eq-eqb, ne_eqb}
use Rattle.std.proofs.lemmas.List.{length-set}
use Rattle.esm_queue_model.specs.declared.stored.Stored.{Stored}
use Rattle.esm_queue_model.specs.Queue.{is_group, deleted_once}
use Rattle.esm_queue.specs.declared.links.Link.{Link}
use Rattle.esm_queue.specs.declared.links.TheConstants.{NONE}
use Rattle.esm_queue.specs.Links.{founder_at, next_at, prev_at, last_at, earlier_at, alive_at, group_at, IsFounded, IsLinked}
use Rattle.esm_queue.specs.Names.{bucket_of, bucket_at, IsChained}
use Rattle.esm_queue.proofs.Places.{alive_within, alive_kept, alive_left}
use Rattle.esm_queue.proofs.Linking.{Removed}

-- other messages of the same groups

pub founded_same : (fifo : Bool) (xs ys : List Stored) (links new : List Link) → length ys ≡ length xs → length new ≡ length links → ((k : ℕ) → group_at ys k ≡ group_at xs k) → ((k : ℕ) → founder_at new k ≡ founder_at links k) → IsFounded fifo xs links → IsFounded fifo ys new
founded_same fifo xs ys links new sized size groups founders h =
    record {
      sized = size ∙ (h.sized ∙ sym sized);
      low = λ i l. (let e = founders i in let low = h.low i (omega arith) in omega arith);
      founder = λ i l. founders (founder_at new i) ∙ (ap (λ k. founder_at links k) (founders i) ∙ (h.founder i (omega arith) ∙ sym (founders i)));
      same = λ i j li lj ne. ap₂ (λ (f g : Option (List ℕ)). fifo && is_group f g) (groups i) (groups j) ∙ (h.same i j (omega arith) (omega arith) ne ∙ ap₂ (λ (k l : ℕ). k == l) (sym (founders i)) (sym (founders j)));
    }

pub chained_same : (count : ℕ) (xs ys : List Stored) (links new : List Link) (buckets : List ℕ) → length ys ≡ length xs → ((k : ℕ) → group_at ys k ≡ group_at xs k) → ((k : ℕ) → founder_at new k ≡ founder_at links k) → ((k : ℕ) → earlier_at new k ≡ earlier_at links k) → IsChained count xs links buckets → IsChained count ys new buckets
chained_same count xs ys links new buckets sized groups founders earliers h =
    record {
      sized = h.sized;
      some = h.some;
      bucket_is = λ b l some. (let step = h.bucket_is b l some in let under = step.0 in (omega arith, founders (slice_index buckets b) ∙ step.1, bucket (slice_index buckets b) ∙ step.2));
      bucket_high = λ j l own. (let step = h.bucket_high j (omega arith) (sym (founders j) ∙ own) in let under = step.1 in
          subst (λ c. (j ≤ slice_index buckets c) × (slice_index buckets c < length ys)) (sym (bucket j)) (step.0, omega arith));
      earlier_is = λ i l own some. (let e = earliers i in let step = h.earlier_is i (omega arith) (sym (founders i) ∙ own) (λ none. some (e ∙ none)) in
          subst (λ k. (k < i) × (founder_at new k ≡ k) × (bucket_at count ys k ≡ bucket_at count ys i)) (sym e)
          (step.0, founders (earlier_at links i) ∙ step.1, bucket (earlier_at links i) ∙ (step.2 ∙ sym (bucket i))));
      earlier_high = λ i j l own ownj same less. subst (λ k. (j ≤ k) × (k < i)) (sym (earliers i))
          (h.earlier_high i j (omega arith) (sym (founders i) ∙ own) (sym (founders j) ∙ ownj) (sym (bucket j) ∙ (same ∙ bucket i)) less);
    }
  where
    bucket : (k : ℕ) → bucket_at count ys k ≡ bucket_at count xs k
    bucket k = ap (λ g. bucket_of count g) (groups k)

pub linked_same : (xs ys : List Stored) (links : List Link) → length ys ≡ length xs → ((k : ℕ) → alive_at ys k ≡ alive_at xs k) → IsLinked xs links → IsLinked ys links
linked_same xs ys links sized same h =
    record {
      next_is = λ i is some. (let step = h.next_is i (sym (same i) ∙ is) some in (step.0, same (next_at links i) ∙ step.1, step.2));
      next_low = λ i j isi isj. h.next_low i j (sym (same i) ∙ isi) (sym (same j) ∙ isj);
      prev_is = λ i is some. (let step = h.prev_is i (sym (same i) ∙ is) some in (step.0, same (prev_at links i) ∙ step.1, step.2));
      prev_high = λ i j isi isj. h.prev_high i j (sym (same i) ∙ isi) (sym (same j) ∙ isj);
      last_is = λ f l some. (let step = h.last_is f (omega arith) some in (same (last_at links f) ∙ step.0, step.1));
      last_high = λ j is. (let step = h.last_high j (sym (same j) ∙ is) in let under = step.1 in (step.0, omega arith));
    }

-- a message is deleted

-- the message x at place p, which is not deleted
pub record Removal (fifo : Bool) (xs : List Stored) (p g : ℕ) (links new : List Link) : Type 0 where
  pub alive : alive_at xs p ≡ true
  pub few : length xs ≤ NONE
  pub founded : IsFounded fifo xs links
  pub linked : IsLinked xs links
  pub last : g ≡ cond (next_at links p == NONE) (founder_at links p) NONE
  pub made : Removed (length xs) (prev_at links p) (next_at links p) g links new

pub linked_remove : (fifo : Bool) (xs : List Stored) (x : Stored) (p g : ℕ) (links new : List Link) → Removal fifo xs p g links new → IsLinked (set xs p (deleted_once x)) new
linked_remove fifo xs x p g links new r =
    record { next_is = next_is; next_low = next_low; prev_is = prev_is; prev_high = prev_high; last_is = last_is; last_high = last_high }
  where
    low : (k : ℕ) → alive_at xs k ≡ true → k < length xs
    low k is = alive_within xs k is

    size : length (set xs p (deleted_once x)) ≡ length xs
    size = length-set xs p (deleted_once x)

    kept : (k : ℕ) → (k ≡ p → ⊥) → alive_at xs k ≡ true → alive_at (set xs p (deleted_once x)) k ≡ true
    kept k ne is = alive_kept xs p k x ne is

    f : (k : ℕ) → founder_at new k ≡ founder_at links k
    f k = r.made.founder_same k

    next_is : (i : ℕ) → alive_at (set xs p (deleted_once x)) i ≡ true → (next_at new i ≡ NONE → ⊥) → (i < next_at new i) × (alive_at (set xs p (deleted_once x)) (next_at new i) ≡ true) × (founder_at new (next_at new i) ≡ founder_at new i)
    next_is i is some =
        let few = r.few in
        let left = alive_left xs p i x is in
        let li = low i left.0 in
        elim (cases_eq i (prev_at links p)) [
          | inl here ↦
              (let back = r.linked.prev_is p r.alive (λ none. omega arith) in
              let to : next_at new i ≡ next_at links p = ap (λ k. next_at new k) here ∙ r.made.next_before (omega arith) in
              let on = r.linked.next_is p r.alive (λ none. some (to ∙ none)) in
              let b0 = back.0 in
              let o0 = on.0 in
              subst (λ k. (i < k) × (alive_at (set xs p (deleted_once x)) k ≡ true) × (founder_at new k ≡ founder_at new i)) (sym to)
              (omega arith, kept (next_at links p) (λ e. omega arith) on.1, f (next_at links p) ∙ (on.2 ∙ (sym back.2 ∙ (ap (λ k. founder_at links k) (sym here) ∙ sym (f i))))))
          | inr other ↦
              (let same : next_at new i ≡ next_at links i = r.made.next_else i other in
              let on = r.linked.next_is i left.0 (λ none. some (same ∙ none)) in
              let o0 = on.0 in
              let apart : next_at links i ≡ p → ⊥ = λ e.
              (let fp : founder_at links i ≡ founder_at links p = sym on.2 ∙ ap (λ k. founder_at links k) e in
              let high = r.linked.prev_high p i r.alive left.0 fp (omega arith) in
              let h0 = high.0 in
              let h1 = high.1 in
              let lp = low p r.alive in
              let back = r.linked.prev_is p r.alive (λ none. omega arith) in
              let again = r.linked.next_low i (prev_at links p) left.0 back.1 (fp ∙ sym back.2) (omega arith) in
              let a0 = again.0 in
              omega arith) in
              subst (λ k. (i < k) × (alive_at (set xs p (deleted_once x)) k ≡ true) × (founder_at new k ≡ founder_at new i)) (sym same)
              (on.0, kept (next_at links i) apart on.1, f (next_at links i) ∙ (on.2 ∙ sym (f i))))
        ]

    next_low : (i j : ℕ) → alive_at (set xs p (deleted_once x)) i ≡ true → alive_at (set xs p (deleted_once x)) j ≡ true → founder_at new i ≡ founder_at new j → i < j → (next_at new i ≤ j) × (i < next_at new i)
    next_low i j isi isj fs less =
        let few = r.few in
        let lefti = alive_left xs p i x isi in
        let leftj = alive_left xs p j x isj in
        let li = low i lefti.0 in
        let same : founder_at links i ≡ founder_at links j = sym (f i) ∙ (fs ∙ f j) in
        elim (cases_eq i (prev_at links p)) [
          | inl here ↦
              (let back = r.linked.prev_is p r.alive (λ none. omega arith) in
              let b0 = back.0 in
              let fp : founder_at links p ≡ founder_at links j = sym back.2 ∙ (ap (λ k. founder_at links k) (sym here) ∙ same) in
              let to : next_at new i ≡ next_at links p = ap (λ k. next_at new k) here ∙ r.made.next_before (omega arith) in
              elim (cases_lt p j) [
                | inl behind ↦
                    (let on = r.linked.next_low p j r.alive leftj.0 fp behind in
                    let o1 = on.1 in
                    subst (λ k. (k ≤ j) × (i < k)) (sym to) (on.0, omega arith))
                | inr before ↦
                    (let ne = leftj.1 in
                    elim (cases_eq j p) [
                      | inl is ↦ absurd (ne is)
                      | inr apart ↦ (let high = r.linked.prev_high p j r.alive leftj.0 (sym fp) (omega arith) in let h0 = high.0 in absurd (omega arith))
                    ])
              ])
          | inr other ↦ subst (λ k. (k ≤ j) × (i < k)) (sym (r.made.next_else i other)) (r.linked.next_low i j lefti.0 leftj.0 same less)
        ]

    prev_is : (i : ℕ) → alive_at (set xs p (deleted_once x)) i ≡ true → (prev_at new i ≡ NONE → ⊥) → (prev_at new i < i) × (alive_at (set xs p (deleted_once x)) (prev_at new i) ≡ true) × (founder_at new (prev_at new i) ≡ founder_at new i)
    prev_is i is some =
        let few = r.few in
        let left = alive_left xs p i x is in
        let li = low i left.0 in
        elim (cases_eq i (next_at links p)) [
          | inl here ↦
              (let on = r.linked.next_is p r.alive (λ none. omega arith) in
              let o0 = on.0 in
              let to : prev_at new i ≡ prev_at links p = ap (λ k. prev_at new k) here ∙ r.made.prev_behind (omega arith) in
              let back = r.linked.prev_is p r.alive (λ none. some (to ∙ none)) in
              let b0 = back.0 in
              subst (λ k. (k < i) × (alive_at (set xs p (deleted_once x)) k ≡ true) × (founder_at new k ≡ founder_at new i)) (sym to)
              (omega arith, kept (prev_at links p) (λ e. omega arith) back.1, f (prev_at links p) ∙ (back.2 ∙ (sym on.2 ∙ (ap (λ k. founder_at links k) (sym here) ∙ sym (f i))))))
          | inr other ↦
              (let same : prev_at new i ≡ prev_at links i = r.made.prev_else i other in
              let back = r.linked.prev_is i left.0 (λ none. some (same ∙ none)) in
              let b0 = back.0 in
              let apart : prev_at links i ≡ p → ⊥ = λ e.
              (let fp : founder_at links p ≡ founder_at links i = ap (λ k. founder_at links k) (sym e) ∙ back.2 in
              let on = r.linked.next_low p i r.alive left.0 fp (omega arith) in
              let o0 = on.0 in
              let o1 = on.1 in
              let step = r.linked.next_is p r.alive (λ none. omega arith) in
              let again = r.linked.prev_high i (next_at links p) left.0 step.1 (step.2 ∙ fp) (omega arith) in
              let a0 = again.0 in
              omega arith) in
              subst (λ k. (k < i) × (alive_at (set xs p (deleted_once x)) k ≡ true) × (founder_at new k ≡ founder_at new i)) (sym same)
              (back.0, kept (prev_at links i) apart back.1, f (prev_at links i) ∙ (back.2 ∙ sym (f i))))
        ]

    prev_high : (i j : ℕ) → alive_at (set xs p (deleted_once x)) i ≡ true → alive_at (set xs p (deleted_once x)) j ≡ true → founder_at new j ≡ founder_at new i → j < i → (j ≤ prev_at new i) × (prev_at new i < i)
    prev_high i j isi isj fs less =
        let few = r.few in
        let lefti = alive_left xs p i x isi in
        let leftj = alive_left xs p j x isj in
        let li = low i lefti.0 in
        let same : founder_at links j ≡ founder_at links i = sym (f j) ∙ (fs ∙ f i) in
        elim (cases_eq i (next_at links p)) [
          | inl here ↦
              (let on = r.linked.next_is p r.alive (λ none. omega arith) in
              let o0 = on.0 in
              let fp : founder_at links j ≡ founder_at links p = same ∙ (ap (λ k. founder_at links k) here ∙ on.2) in
              let to : prev_at new i ≡ prev_at links p = ap (λ k. prev_at new k) here ∙ r.made.prev_behind (omega arith) in
              elim (cases_lt j p) [
                | inl before ↦
                    (let high = r.linked.prev_high p j r.alive leftj.0 fp before in
                    let h1 = high.1 in
                    subst (λ k. (j ≤ k) × (k < i)) (sym to) (high.0, omega arith))
                | inr behind ↦
                    (let ne = leftj.1 in
                    elim (cases_eq j p) [
                      | inl is ↦ absurd (ne is)
                      | inr apart ↦ (let up = r.linked.next_low p j r.alive leftj.0 (sym fp) (omega arith) in let u0 = up.0 in absurd (omega arith))
                    ])
              ])
          | inr other ↦ subst (λ k. (j ≤ k) × (k < i)) (sym (r.made.prev_else i other)) (r.linked.prev_high i j lefti.0 leftj.0 same less)
        ]

    last_is : (h : ℕ) → h < length (set xs p (deleted_once x)) → (last_at new h ≡ NONE → ⊥) → (alive_at (set xs p (deleted_once x)) (last_at new h) ≡ true) × (founder_at new (last_at new h) ≡ h)
    last_is h within some =
        let few = r.few in
        let z = size in
        elim (cases_eq h g) [
          | inl here ↦
              (let to : last_at new h ≡ prev_at links p = ap (λ k. last_at new k) here ∙ r.made.last_own (omega arith) in
              let back = r.linked.prev_is p r.alive (λ none. some (to ∙ none)) in
              let b0 = back.0 in
              elim (cases_eq (next_at links p) NONE) [
                | inl end ↦
                    (let own : h ≡ founder_at links p = here ∙ (r.last ∙ cond-true (next_at links p == NONE) (founder_at links p) NONE (eq-eqb (next_at links p) NONE end)) in
                    subst (λ k. (alive_at (set xs p (deleted_once x)) k ≡ true) × (founder_at new k ≡ h)) (sym to)
                    (kept (prev_at links p) (λ e. omega arith) back.1, f (prev_at links p) ∙ (back.2 ∙ sym own)))
                | inr on ↦
                    (let out : h ≡ NONE = here ∙ (r.last ∙ cond-false (next_at links p == NONE) (founder_at links p) NONE (ne_eqb (next_at links p) NONE on)) in
                    absurd (omega arith))
              ])
          | inr other ↦
              (let same : last_at new h ≡ last_at links h = r.made.last_else h other in
              let before = r.linked.last_is h (omega arith) (λ none. some (same ∙ none)) in
              let apart : last_at links h ≡ p → ⊥ = λ e.
              (let fp : founder_at links p ≡ h = ap (λ k. founder_at links k) (sym e) ∙ before.1 in
              elim (cases_eq (next_at links p) NONE) [
                | inl end ↦ other (sym fp ∙ sym (r.last ∙ cond-true (next_at links p == NONE) (founder_at links p) NONE (eq-eqb (next_at links p) NONE end)))
                | inr on ↦
                    (let step = r.linked.next_is p r.alive on in
                    let s0 = step.0 in
                    let high = r.linked.last_high (next_at links p) step.1 in
                    let h0 : next_at links p ≤ last_at links h = subst (λ k. next_at links p ≤ last_at links k) (step.2 ∙ fp) high.0 in
                    omega arith)
              ]) in
              subst (λ k. (alive_at (set xs p (deleted_once x)) k ≡ true) × (founder_at new k ≡ h)) (sym same)
              (kept (last_at links h) apart before.0, f (last_at links h) ∙ before.1))
        ]

    last_high : (j : ℕ) → alive_at (set xs p (deleted_once x)) j ≡ true → (j ≤ last_at new (founder_at new j)) × (last_at new (founder_at new j) < length (set xs p (deleted_once x)))
    last_high j is =
        let few = r.few in
        let z = size in
        let left = alive_left xs p j x is in
        let lj = low j left.0 in
        let lp = low p r.alive in
        let down = r.founded.low j lj in
        elim (cases_eq (founder_at links j) g) [
          | inl here ↦
              (let to : last_at new (founder_at new j) ≡ prev_at links p = ap (λ k. last_at new k) (f j ∙ here) ∙ r.made.last_own (omega arith) in
              elim (cases_eq (next_at links p) NONE) [
                | inr on ↦
                    (let out : founder_at links j ≡ NONE = here ∙ (r.last ∙ cond-false (next_at links p == NONE) (founder_at links p) NONE (ne_eqb (next_at links p) NONE on)) in
                    absurd (omega arith))
                | inl end ↦
                    (let own : founder_at links j ≡ founder_at links p = here ∙ (r.last ∙ cond-true (next_at links p == NONE) (founder_at links p) NONE (eq-eqb (next_at links p) NONE end)) in
                    let ne = left.1 in
                    elim (cases_lt j p) [
                      | inl before ↦
                          (let high = r.linked.prev_high p j r.alive left.0 own before in
                          let h1 = high.1 in
                          subst (λ k. (j ≤ k) × (k < length (set xs p (deleted_once x)))) (sym to) (high.0, omega arith))
                      | inr behind ↦ elim (cases_eq j p) [
                        | inl at ↦ absurd (ne at)
                        | inr apart ↦ (let up = r.linked.next_low p j r.alive left.0 (sym own) (omega arith) in let u0 = up.0 in absurd (omega arith))
                      ]
                    ])
              ])
          | inr other ↦
              (let to : last_at new (founder_at new j) ≡ last_at links (founder_at links j) = ap (λ k. last_at new k) (f j) ∙ r.made.last_else (founder_at links j) other in
              let before = r.linked.last_high j left.0 in
              let top = before.1 in
              subst (λ k. (j ≤ k) × (k < length (set xs p (deleted_once x)))) (sym to) (before.0, omega arith))
        ]
