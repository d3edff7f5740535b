-- The last range that starts at a record or before it tells whether any range holds the record.
use Rattle.std.proofs.Common.{◌≡◌, ℕ, zero, suc, ◌-◌, ◌<◌, ◌≤◌, Bool, true, false, not, ◌&&◌, List, [], ◌∷◌, length, get_or, refl, sym, ap, ◌∙◌, subst, inl, inr, arith}
use Rattle.std.specs.Prelude.{◌==◌}
use Rattle.std.specs.Ordering.{is_gt}
use Rattle.std.specs.List.Sorted.{IsPartitionedBy, IsPartitionPoint}
use Rattle.std.proofs.lemmas.Bool.{cases_lt, and_parts, and_from, or_cases, or_left, or_right, eqb-true, eq-eqb, not-true, false_from_ne_true}
use Rattle.esm_replay_model.specs.declared.range.Range.{Range}
use Rattle.esm_replay_model.specs.ReplaySetting.{is_up_to, is_in_range, is_in_ranges}
use Rattle.esm_replay.specs.Ranges.{Start, start_of, start_cmp, starts_by, Leads, LeadsAll, AllLead}
use Rattle.esm_replay.proofs.Orders.{IsBy, by_trans, by_not_before, shards_by, up_to_by, by_up_to, up_to_trans}
use Rattle.esm_replay.proofs.Reaching.{InRange, in_parts, in_whole}

-- ranges by their places

leads_at : (a : Range) (rs : List Range) (j : ℕ) (d : Range) → j < length rs → LeadsAll a rs → Leads a (get_or rs j d)
leads_at a [] j d l all = absurd (omega arith)
leads_at a (b ∷ rs) zero d l all = all.0
leads_at a (b ∷ rs) (suc j) d l all = leads_at a rs j d (omega arith) all.1

lead_at : (rs : List Range) (i j : ℕ) (d : Range) → i < j → j < length rs → AllLead rs → Leads (get_or rs i d) (get_or rs j d)
lead_at [] i j d before l all = absurd (omega arith)
lead_at (r ∷ rs) i zero d before l all = absurd (omega arith)
lead_at (r ∷ rs) zero (suc j) d before l all = leads_at r rs j d (omega arith) all.0
lead_at (r ∷ rs) (suc i) (suc j) d before l all = lead_at rs i j d (omega arith) (omega arith) all.1

started : (x : Start) (r : Range) → starts_by x r ≡ true → IsBy (start_of r) x
started x r is = not-true (is_gt (start_cmp (start_of r) x)) is

starts : (x : Start) (r : Range) → IsBy (start_of r) x → starts_by x r ≡ true
starts x r by = ap not by

pub parted : (x : Start) (rs : List Range) → AllLead rs → IsPartitionedBy (starts_by x) rs
parted x rs all i j d le l is =
    elim (cases_lt i j) [
      | inl before ↦
          (let leads : Leads (get_or rs i d) (get_or rs j d) = lead_at rs i j d before l all in
          starts x (get_or rs i d) (by_trans (start_of (get_or rs i d)) (start_of (get_or rs j d)) x (by_not_before (get_or rs i d) (get_or rs j d) leads.start) (started x (get_or rs j d) is)))
      | inr after ↦ (let same : j ≡ i = omega arith in subst (λ (k : ℕ). starts_by x (get_or rs k d) ≡ true) same is)
    ]

-- a range that holds a record starts at it or before it
in_start : (n : ℕ) (seq : List ℕ) (r : Range) → InRange n seq r → IsBy (start_of r) (n, seq)
in_start n seq r held = subst (λ (k : ℕ). IsBy (k, r.first) (n, seq)) (sym held.shard) (by_up_to n r.first seq held.low)

-- some range holds the record

record HeldAt (n : ℕ) (seq : List ℕ) (rs : List Range) : Type 0 where
  place : ℕ
  within : place < length rs
  held : (d : Range) → InRange n seq (get_or rs place d)

held_at : (n : ℕ) (seq : List ℕ) (rs : List Range) → is_in_ranges rs n seq ≡ true → HeldAt n seq rs
held_at n seq [] is = cc
held_at n seq (r ∷ rs) is =
    elim (or_cases (is_in_range n seq r) (is_in_ranges rs n seq) is) [
      | inl here ↦ record { place = 0; within = omega arith; held = λ d. in_parts n seq r here }
      | inr there ↦ (let later : HeldAt n seq rs = held_at n seq rs there in record { place = suc later.place; within = (let l = later.within in omega arith); held = λ d. later.held d })
    ]

at_held : (n : ℕ) (seq : List ℕ) (rs : List Range) (j : ℕ) (d : Range) → j < length rs → InRange n seq (get_or rs j d) → is_in_ranges rs n seq ≡ true
at_held n seq [] j d l held = absurd (omega arith)
at_held n seq (r ∷ rs) zero d l held = or_left (is_in_range n seq r) (is_in_ranges rs n seq) (in_whole n seq r held)
at_held n seq (r ∷ rs) (suc j) d l held = or_right (is_in_range n seq r) (is_in_ranges rs n seq) (at_held n seq rs j d (omega arith) held)

-- a range that holds the record stands before the point
held_before : (n : ℕ) (seq : List ℕ) (rs : List Range) (count : ℕ) (d : Range) → IsPartitionPoint (λ (r : Range). starts_by (n, seq) r ≡ true) (λ (r : Range). starts_by (n, seq) r ≡ false) rs count → (h : HeldAt n seq rs) → h.place < count
held_before n seq rs count d point h =
    elim (cases_lt h.place count) [
      | inl before ↦ before
      | inr after ↦
          (let l : h.place < length rs = h.within in
          let fails : starts_by (n, seq) (get_or rs h.place d) ≡ false = point.1 h.place d after l in
          let passes : starts_by (n, seq) (get_or rs h.place d) ≡ true = starts (n, seq) (get_or rs h.place d) (in_start n seq (get_or rs h.place d) (h.held d)) in
          let clash : true ≡ false = sym passes ∙ fails in
          cc)
    ]

pub none_started : (n : ℕ) (seq : List ℕ) (rs : List Range) (count : ℕ) → IsPartitionPoint (λ (r : Range). starts_by (n, seq) r ≡ true) (λ (r : Range). starts_by (n, seq) r ≡ false) rs count → count ≡ 0 → is_in_ranges rs n seq ≡ false
none_started n seq rs count point none =
    false_from_ne_true (is_in_ranges rs n seq) (λ is.
    let h : HeldAt n seq rs = held_at n seq rs is in
    let before : h.place < count = held_before n seq rs count (record { shard = 0; first = []; last = [] }) point h in
    absurd (omega arith))

-- the last one before the point
last_tells : (n : ℕ) (seq : List ℕ) (rs : List Range) (count : ℕ) (r : Range) → AllLead rs → count ≤ length rs → 1 ≤ count → r ≡ get_or rs (count - 1) r
    → IsPartitionPoint (λ (r : Range). starts_by (n, seq) r ≡ true) (λ (r : Range). starts_by (n, seq) r ≡ false) rs count → is_in_ranges rs n seq ≡ true → ((r.shard == n) && is_up_to seq r.last) ≡ true
last_tells n seq rs count r all within some at point is =
    let h : HeldAt n seq rs = held_at n seq rs is in
    let before : h.place < count = held_before n seq rs count r point h in
    let held : InRange n seq (get_or rs h.place r) = h.held r in
    elim (cases_lt h.place (count - 1)) [
      | inl less ↦
          (let leads : Leads (get_or rs h.place r) r = subst (λ (q : Range). Leads (get_or rs h.place r) q) (sym at) (lead_at rs h.place (count - 1) r less (omega arith) all) in
          let passes : starts_by (n, seq) r ≡ true = subst (λ (q : Range). starts_by (n, seq) q ≡ true) (sym at) (point.0 (count - 1) r (omega arith) (omega arith)) in
          let low : (get_or rs h.place r).shard ≤ r.shard = shards_by (start_of (get_or rs h.place r)) (start_of r) (by_not_before (get_or rs h.place r) r leads.start) in
          let high : r.shard ≤ n = shards_by (start_of r) (n, seq) (started (n, seq) r passes) in
          let own : (get_or rs h.place r).shard ≡ n = held.shard in
          let same : r.shard ≡ n = omega arith in
          and_from (r.shard == n) (is_up_to seq r.last) (eq-eqb r.shard n same) (up_to_trans seq (get_or rs h.place r).last r.last held.high (leads.reach (own ∙ sym same))))
      | inr more ↦
          (let same : h.place ≡ count - 1 = omega arith in
          let here : InRange n seq r = subst (λ (q : Range). InRange n seq q) (sym (at ∙ ap (λ (k : ℕ). get_or rs k r) (sym same))) held in
          and_from (r.shard == n) (is_up_to seq r.last) (eq-eqb r.shard n here.shard) here.high)
    ]

tells_some : (n : ℕ) (seq : List ℕ) (rs : List Range) (count : ℕ) (r : Range) → count ≤ length rs → 1 ≤ count → r ≡ get_or rs (count - 1) r
    → IsPartitionPoint (λ (r : Range). starts_by (n, seq) r ≡ true) (λ (r : Range). starts_by (n, seq) r ≡ false) rs count → ((r.shard == n) && is_up_to seq r.last) ≡ true → is_in_ranges rs n seq ≡ true
tells_some n seq rs count r within some at point is =
    let parts = and_parts (r.shard == n) (is_up_to seq r.last) is in
    let same : r.shard ≡ n = eqb-true r.shard n parts.0 in
    let passes : starts_by (n, seq) r ≡ true = subst (λ (q : Range). starts_by (n, seq) q ≡ true) (sym at) (point.0 (count - 1) r (omega arith) (omega arith)) in
    let low : is_up_to r.first seq ≡ true = up_to_by n r.first seq (subst (λ (k : ℕ). IsBy (k, r.first) (n, seq)) same (started (n, seq) r passes)) in
    let here : InRange n seq r = record { shard = same; low = low; high = parts.1 } in
    at_held n seq rs (count - 1) r (omega arith) (subst (λ (q : Range). InRange n seq q) at here)

same_answer : (a b : Bool) → (a ≡ true → b ≡ true) → (b ≡ true → a ≡ true) → a ≡ b
same_answer true b to from = sym (to refl)
same_answer false true to from = from refl
same_answer false false to from = refl

pub last_decides : (n : ℕ) (seq : List ℕ) (rs : List Range) (count : ℕ) (r : Range) → AllLead rs → count ≤ length rs → 1 ≤ count → r ≡ get_or rs (count - 1) r
    → IsPartitionPoint (λ (r : Range). starts_by (n, seq) r ≡ true) (λ (r : Range). starts_by (n, seq) r ≡ false) rs count → ((r.shard == n) && is_up_to seq r.last) ≡ is_in_ranges rs n seq
last_decides n seq rs count r all within some at point = same_answer ((r.shard == n) && is_up_to seq r.last) (is_in_ranges rs n seq) (tells_some n seq rs count r within some at point) (last_tells n seq rs count r all within some at point)
