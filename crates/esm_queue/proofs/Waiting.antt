-- How the places that may be received are found in order.
use Rattle.std.proofs.Common.{◌≡◌, ℕ, zero, suc, ◌+◌, ◌<◌, ◌≤◌, Bool, true, false, not, ◌&&◌, ◌||◌, ◌==◌, List, length, refl, sym, ap, ◌∙◌, subst, inl, inr, arith, Option, Some, None}
use Rattle.std.specs.Prelude.{slice_index, nat_lt, nat_le, is_some, IsNone, IfSome}
use Rattle.std.proofs.lemmas.Bool.{cases_Bool, cases_lt, cases_eq, or_cases, or_left, or_right, and_parts, and_from, both_ways, not-true, not_from_false, false_from_ne_true, eqb-true, eq-eqb, ne_eqb, ltb-true, lt-ltb, leb-true, le-leb, cond-true, cond-false}
use Rattle.std.proofs.lemmas.List.{length-map}
use Rattle.std.proofs.lemmas.Option.{none-some, same_Some}
use Rattle.esm_queue_model.specs.declared.stored.Stored.{Stored}
use Rattle.esm_queue_model.specs.Queue.{is_eligible}
use Rattle.esm_queue.specs.declared.links.Link.{Link}
use Rattle.esm_queue.specs.declared.links.TheConstants.{NONE}
use Rattle.esm_queue.specs.Moments.{leaf, leaves, IsFirstAt, NoneAt}
use Rattle.esm_queue.specs.Links.{next_at, prev_at}
use Rattle.esm_queue.specs.Waiting.{IsLeast, is_place, next_shown}
use Rattle.esm_queue.proofs.Eligible.{Chain, queue_of, eligible_come, head_eligible, first_is_head, before_eligible, next_eligible, next_of_before}

-- the places that wait are those from `from` on that may be received and have one before them that was given
pub record Waits (fifo : Bool) (v m : ℕ) (xs : List Stored) (links : List Link) (from : ℕ) (w : ℕ → Bool) : Type 0 where
  pub low : (k : ℕ) → w k ≡ true → (from ≤ k) × (is_eligible (queue_of fifo v xs) m k ≡ true)
  pub all : (k : ℕ) → from ≤ k → is_eligible (queue_of fifo v xs) m k ≡ true → (prev_at links k ≡ NONE → ⊥) → prev_at links k < from → w k ≡ true

-- nothing between may be received
none_before : (fifo : Bool) (v m : ℕ) (xs : List Stored) (links : List Link) (heads : List ℕ) (from p : ℕ) (w : ℕ → Bool) → Chain fifo v m xs links heads → Waits fifo v m xs links from w → ((k : ℕ) → from ≤ k → k < p → k < length heads → m < slice_index heads k) → ((k : ℕ) → w k ≡ true → p ≤ k) → (b k : ℕ) → k < b → from ≤ k → k < p → is_eligible (queue_of fifo v xs) m k ≡ true → ⊥
none_before fifo v m xs links heads from p w c ws later least zero k below low high is = absurd (omega arith)
none_before fifo v m xs links heads from p w c ws later least (suc b) k below low high is =
    elim (cases_eq (prev_at links k) NONE) [
      | inl first ↦
          (let head = first_is_head fifo v m xs links heads c k is first in
          let within = (eligible_come fifo v m xs k is).0 in
          let s1 = c.headed.sized in
          let s2 = length-map xs (leaf v) in
          let late = later k low high (omega arith) in
          omega arith)
      | inr some ↦
          (let before = before_eligible fifo v m xs links heads c k is some in
          let b0 = before.0 in
          elim (cases_lt (prev_at links k) from) [
            | inl past ↦ (let top = least k (ws.all k low is some past) in omega arith)
            | inr on ↦ none_before fifo v m xs links heads from p w c ws later least b (prev_at links k) (omega arith) on (omega arith) before.1
          ])
    ]

pub record Front (fifo : Bool) (v m : ℕ) (xs : List Stored) (from p : ℕ) : Type 0 where
  pub not_before : from ≤ p
  pub within : p < length xs
  pub given : is_eligible (queue_of fifo v xs) m p ≡ true
  pub none : (k : ℕ) → from ≤ k → k < p → is_eligible (queue_of fifo v xs) m k ≡ false

front : (fifo : Bool) (v m : ℕ) (xs : List Stored) (links : List Link) (heads : List ℕ) (from p : ℕ) (w : ℕ → Bool) → Chain fifo v m xs links heads → Waits fifo v m xs links from w → ((k : ℕ) → from ≤ k → k < p → k < length heads → m < slice_index heads k) → ((k : ℕ) → w k ≡ true → p ≤ k) → from ≤ p → is_eligible (queue_of fifo v xs) m p ≡ true → Front fifo v m xs from p
front fifo v m xs links heads from p w c ws later least low is =
    record {
      not_before = low;
      within = (eligible_come fifo v m xs p is).0;
      given = is;
      none = λ k l h. false_from_ne_true (is_eligible (queue_of fifo v xs) m k) (λ e. none_before fifo v m xs links heads from p w c ws later least (suc k) k (omega arith) l h e);
    }

-- the least of the head and the places that wait is the next place that may be received
pub front_some : (fifo : Bool) (v m : ℕ) (xs : List Stored) (links : List Link) (heads : List ℕ) (from p : ℕ) (w : ℕ → Bool) (head : Option ℕ) → Chain fifo v m xs links heads → Waits fifo v m xs links from w → (IsNone head → NoneAt heads from m) → IfSome head (IsFirstAt heads from m) → IsLeast head w (Some p) → Front fifo v m xs from p
front_some fifo v m xs links heads from p w None c ws none some least =
    elim least.0 [
      | inl never ↦ absurd (none-some p never)
      | inr waits ↦ (let at = ws.low p waits in front fifo v m xs links heads from p w c ws (λ k l h inside. none refl k l inside) least.2 at.0 at.1)
    ]
front_some fifo v m xs links heads from p w (Some h) c ws none some least =
    let order : p ≤ h = least.1 in
    let later : (k : ℕ) → from ≤ k → k < p → k < length heads → m < slice_index heads k = λ k l below inside. some.first k l (omega arith) in
    elim least.0 [
      | inl is ↦
          (let e : h ≡ p = same_Some h p is in
          let inside = some.within in
          let after = some.not_before in
          let s1 = c.headed.sized in
          let s2 = length-map xs (leaf v) in
          let come : slice_index heads p ≤ m = subst (λ k. slice_index heads k ≤ m) e some.reached in
          front fifo v m xs links heads from p w c ws later least.2 (omega arith) (head_eligible fifo v m xs links heads c p (omega arith) come))
      | inr waits ↦ (let at = ws.low p waits in front fifo v m xs links heads from p w c ws later least.2 at.0 at.1)
    ]

pub front_none : (fifo : Bool) (v m : ℕ) (xs : List Stored) (links : List Link) (heads : List ℕ) (from : ℕ) (w : ℕ → Bool) (head : Option ℕ) → Chain fifo v m xs links heads → Waits fifo v m xs links from w → (IsNone head → NoneAt heads from m) → IsLeast head w None → (k : ℕ) → from ≤ k → k < length xs → is_eligible (queue_of fifo v xs) m k ≡ false
front_none fifo v m xs links heads from w head c ws none least k low within =
    let gone : NoneAt heads from m = none (ap is_some least.0) in
    false_from_ne_true (is_eligible (queue_of fifo v xs) m k) (λ e. none_before fifo v m xs links heads from (length xs) w c ws (λ i l h inside. gone i l inside) (λ i waits. absurd (both_ways (w i) (least.1 i) waits)) (suc k) k (omega arith) low within e)

-- the next place of the group, if its moment has come

shown_is : (m : ℕ) (moments : List ℕ) (s k : ℕ) → is_place (next_shown m moments s) k ≡ true → (s ≡ k) × (s < length moments) × (slice_index moments s ≤ m)
shown_is m moments s k is =
    let test : Bool = nat_lt s (length moments) && nat_le (slice_index moments s) m in
    elim (cases_Bool test) [
      | inl shows ↦
          (let parts = and_parts (nat_lt s (length moments)) (nat_le (slice_index moments s) m) shows in
          (eqb-true s k (sym (ap (λ o. is_place o k) (cond-true test (Some s) None shows)) ∙ is), ltb-true s (length moments) parts.0, leb-true (slice_index moments s) m parts.1))
      | inr not' ↦ absurd (both_ways (is_place (next_shown m moments s) k) (ap (λ o. is_place o k) (cond-false test (Some s) None not')) is)
    ]

shown_from : (m : ℕ) (moments : List ℕ) (s k : ℕ) → s ≡ k → s < length moments → slice_index moments s ≤ m → is_place (next_shown m moments s) k ≡ true
shown_from m moments s k e low come =
    let test : Bool = nat_lt s (length moments) && nat_le (slice_index moments s) m in
    ap (λ o. is_place o k) (cond-true test (Some s) None (and_from (nat_lt s (length moments)) (nat_le (slice_index moments s) m) (lt-ltb s (length moments) low) (le-leb (slice_index moments s) m come))) ∙ eq-eqb s k e

-- a place is given
pub waits_more : (fifo : Bool) (v m : ℕ) (xs : List Stored) (links : List Link) (heads : List ℕ) (from p : ℕ) (w after : ℕ → Bool) → Chain fifo v m xs links heads → Waits fifo v m xs links from w → Front fifo v m xs from p → ((k : ℕ) → w k ≡ true → p ≤ k) → ((k : ℕ) → after k ≡ (is_place (next_shown m (leaves v xs) (next_at links p)) k || (w k && not (k == p)))) → Waits fifo v m xs links (p + 1) after
waits_more fifo v m xs links heads from p w after c ws f least is =
    let size : length (leaves v xs) ≡ length xs = length-map xs (leaf v) in
    let order = f.not_before in
    record {
      low = λ k waits. elim (or_cases (is_place (next_shown m (leaves v xs) (next_at links p)) k) (w k && not (k == p)) (sym (is k) ∙ waits)) [
        | inl next ↦
            (let s = shown_is m (leaves v xs) (next_at links p) k next in
            let inside = s.1 in
            let at = next_eligible fifo v m xs links heads c p f.given (omega arith) s.2 in
            let a0 = at.0 in
            let e = s.0 in
            (omega arith, ap (λ i. is_eligible (queue_of fifo v xs) m i) (sym e) ∙ at.1))
        | inr old ↦
            (let parts = and_parts (w k) (not (k == p)) old in
            let at = ws.low k parts.0 in
            let top = least k parts.0 in
            let apart : k ≡ p → ⊥ = λ e. both_ways (k == p) (not-true (k == p) parts.1) (eq-eqb k p e) in
            (elim (cases_eq k p) [ inl e ↦ absurd (apart e) | inr ne ↦ omega arith ], at.1))
      ];
      all = λ k low eligible some before. is k ∙ elim (cases_lt (prev_at links k) from) [
        | inl past ↦ or_right (is_place (next_shown m (leaves v xs) (next_at links p)) k) (w k && not (k == p))
            (and_from (w k) (not (k == p)) (ws.all k (omega arith) eligible some past) (not_from_false (k == p) (ne_eqb k p (λ e. omega arith))))
        | inr on ↦
            (let back = before_eligible fifo v m xs links heads c k eligible some in
            let here : prev_at links k ≡ p = elim (cases_lt (prev_at links k) p) [
              | inl between ↦ absurd (both_ways (is_eligible (queue_of fifo v xs) m (prev_at links k)) (f.none (prev_at links k) on between) back.1)
              | inr not' ↦ omega arith
            ] in
            let next = next_of_before fifo v m xs links heads c k p eligible f.given here in
            let come = eligible_come fifo v m xs k eligible in
            let inside = come.0 in
            let shows : slice_index (leaves v xs) (next_at links p) ≤ m = subst (λ i. slice_index (leaves v xs) i ≤ m) (sym next) come.1 in
            or_left (is_place (next_shown m (leaves v xs) (next_at links p)) k) (w k && not (k == p)) (shown_from m (leaves v xs) (next_at links p) k next (omega arith) shows))
      ];
    }
