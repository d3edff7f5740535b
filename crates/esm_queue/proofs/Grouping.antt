-- Groups of messages: what a message that comes and one that is deleted make of their links.
use Rattle.std.proofs.Common.{◌≡◌, ℕ, ◌+◌, ◌<◌, ◌≤◌, ◌&&◌, ◌==◌, Bool, true, false, List, [], ◌∷◌, ◌++◌, length, length-append, sym, ap, ap₂, ◌∙◌, subst, inl, inr, arith, Option}
use Rattle.std.proofs.lemmas.Bool.{cases_lt, cases_eq, eq-eqb, ne_eqb}
use Rattle.esm_queue_model.specs.declared.stored.Stored.{Stored}
use Rattle.esm_queue_model.specs.Queue.{is_group}
use Rattle.esm_queue.specs.declared.links.Link.{Link}
use Rattle.esm_queue.specs.declared.links.TheConstants.{NONE}
use Rattle.esm_queue.specs.Links.{founder_at, next_at, prev_at, last_at, alive_at, group_at, IsFounded, IsLinked}
use Rattle.esm_queue.proofs.Places.{alive_within, alive_old, alive_new, alive_split, group_old, group_new, group_swap}
use Rattle.esm_queue.proofs.Linking.{Appended, link_past}

-- a message comes

-- the message x comes behind others; f is its founder, t the last message of its group, and e the founder before it in
-- its bucket
pub record Arrival (fifo : Bool) (xs : List Stored) (x : Stored) (f t e : ℕ) (links new : List Link) : Type 0 where
  pub fresh : x.deleted ≡ false
  pub few : length xs < NONE
  pub founded : IsFounded fifo xs links
  pub linked : IsLinked xs links
  pub low : f ≤ length xs
  pub own : f < length xs → founder_at links f ≡ f
  pub same : (i : ℕ) → i < length xs → (fifo && is_group (group_at xs i) x.message.group) ≡ (founder_at links i == f)
  pub tail : t ≡ last_at links f
  pub made : Appended (length xs) f t e links new

tail_is : (fifo : Bool) (xs : List Stored) (x : Stored) (f t e : ℕ) (links new : List Link) → Arrival fifo xs x f t e links new → (t ≡ NONE → ⊥) → (alive_at xs t ≡ true) × (founder_at links t ≡ f)
tail_is fifo xs x f t e links new a some =
    elim (cases_lt f (length xs)) [
      | inl low ↦ (let is = a.linked.last_is f low (λ none. some (a.tail ∙ none)) in
          (ap (λ i. alive_at xs i) a.tail ∙ is.0, ap (λ i. founder_at links i) a.tail ∙ is.1))
      | inr high ↦ (let sized = a.founded.sized in absurd (some (a.tail ∙ ap (λ (l : Link). l.last) (link_past links f (omega arith)))))
    ]

pub founded_append : (fifo : Bool) (xs : List Stored) (x : Stored) (f t e : ℕ) (links new : List Link) → Arrival fifo xs x f t e links new → IsFounded fifo (xs ++ x ∷ []) new
founded_append fifo xs x f t e links new a =
    let n = length xs in
    let m = a.made in
    let sized : length (xs ++ x ∷ []) ≡ n + 1 = length-append xs (x ∷ []) in
    let low : (i : ℕ) → i < n → founder_at links i ≤ i = a.founded.low in
    record {
      sized = m.size ∙ sym sized;
      low = λ i h. elim (cases_lt i n) [
        | inl l ↦ (let e1 = m.founder_old i l in let e2 = low i l in omega arith)
        | inr g ↦ (let at : i ≡ n = omega arith in let e1 : founder_at new i ≡ f = ap (λ k. founder_at new k) at ∙ m.founder_new in let e2 = a.low in omega arith)
      ];
      founder = λ i h. elim (cases_lt i n) [
        | inl l ↦ (let e1 = m.founder_old i l in let e2 = low i l in
            ap (λ k. founder_at new k) e1 ∙ (m.founder_old (founder_at links i) (omega arith) ∙ (a.founded.founder i l ∙ sym e1)))
        | inr g ↦ (let at : i ≡ n = omega arith in let e1 : founder_at new i ≡ f = ap (λ k. founder_at new k) at ∙ m.founder_new in
            ap (λ k. founder_at new k) e1 ∙ (founder_f ∙ sym e1))
      ];
      same = λ i j hi hj ne. elim (cases_lt i n) [
        | inl li ↦ elim (cases_lt j n) [
          | inl lj ↦ ap₂ (λ (g h : Option (List ℕ)). fifo && is_group g h) (group_old xs x i li) (group_old xs x j lj) ∙ (a.founded.same i j li lj ne ∙ ap₂ (λ (k l : ℕ). k == l) (sym (m.founder_old i li)) (sym (m.founder_old j lj)))
          | inr gj ↦ (let at : j ≡ n = omega arith in
              ap₂ (λ (g h : Option (List ℕ)). fifo && is_group g h) (group_old xs x i li) (ap (λ k. group_at (xs ++ x ∷ []) k) at ∙ group_new xs x) ∙ (a.same i li ∙ ap₂ (λ (k l : ℕ). k == l) (sym (m.founder_old i li)) (sym (ap (λ k. founder_at new k) at ∙ m.founder_new))))
        ]
        | inr gi ↦ (let at : i ≡ n = omega arith in let lj : j < n = omega arith in
            ap₂ (λ (g h : Option (List ℕ)). fifo && is_group g h) (ap (λ k. group_at (xs ++ x ∷ []) k) at ∙ group_new xs x) (group_old xs x j lj)
            ∙ (ap (λ b. fifo && b) (group_swap x.message.group (group_at xs j)) ∙ (a.same j lj ∙ (eqb_swap (founder_at links j) f
            ∙ ap₂ (λ (k l : ℕ). k == l) (sym (ap (λ k. founder_at new k) at ∙ m.founder_new)) (sym (m.founder_old j lj))))))
      ];
    }
  where
    founder_f : founder_at new f ≡ f
    founder_f = elim (cases_lt f (length xs)) [
      | inl l ↦ a.made.founder_old f l ∙ a.own l
      | inr g ↦ (let top = a.low in let at : f ≡ length xs = omega arith in ap (λ k. founder_at new k) at ∙ a.made.founder_new)
    ]

    eqb_swap : (k l : ℕ) → (k == l) ≡ (l == k)
    eqb_swap k l = elim (cases_eq k l) [ inl is ↦ eq-eqb k l is ∙ sym (eq-eqb l k (sym is)) | inr ne ↦ ne_eqb k l ne ∙ sym (ne_eqb l k (λ e. ne (sym e))) ]

pub linked_append : (fifo : Bool) (xs : List Stored) (x : Stored) (f t e : ℕ) (links new : List Link) → Arrival fifo xs x f t e links new → IsLinked (xs ++ x ∷ []) new
linked_append fifo xs x f t e links new a =
    record { next_is = next_is; next_low = next_low; prev_is = prev_is; prev_high = prev_high; last_is = last_is; last_high = last_high }
  where
    tail_of : (t ≡ NONE → ⊥) → (alive_at xs t ≡ true) × (founder_at links t ≡ f)
    tail_of some = tail_is fifo xs x f t e links new a some

    next_is : (i : ℕ) → alive_at (xs ++ x ∷ []) i ≡ true → (next_at new i ≡ NONE → ⊥) → (i < next_at new i) × (alive_at (xs ++ x ∷ []) (next_at new i) ≡ true) × (founder_at new (next_at new i) ≡ founder_at new i)
    next_is i is some =
        let few = a.few in
        elim (alive_split xs x i is) [
          | inr last ↦ absurd (some (ap (λ k. next_at new k) last ∙ a.made.next_new))
          | inl old ↦ elim (cases_eq i t) [
            | inl here ↦
                (let low = old.0 in
                let to : next_at new i ≡ length xs = ap (λ k. next_at new k) here ∙ a.made.next_tail (omega arith) in
                let own = (tail_of (λ none. omega arith)).1 in
                subst (λ k. (i < k) × (alive_at (xs ++ x ∷ []) k ≡ true) × (founder_at new k ≡ founder_at new i)) (sym to)
                (low, alive_new xs x a.fresh, a.made.founder_new ∙ (sym own ∙ (ap (λ k. founder_at links k) (sym here) ∙ sym (a.made.founder_old i low)))))
            | inr other ↦
                (let same : next_at new i ≡ next_at links i = a.made.next_old i old.0 other in
                let before = a.linked.next_is i old.1 (λ none. some (same ∙ none)) in
                subst (λ k. (i < k) × (alive_at (xs ++ x ∷ []) k ≡ true) × (founder_at new k ≡ founder_at new i)) (sym same)
                (before.0, alive_old xs x (next_at links i) before.1, a.made.founder_old (next_at links i) (alive_within xs (next_at links i) before.1) ∙ (before.2 ∙ sym (a.made.founder_old i old.0))))
          ]
        ]

    next_low : (i j : ℕ) → alive_at (xs ++ x ∷ []) i ≡ true → alive_at (xs ++ x ∷ []) j ≡ true → founder_at new i ≡ founder_at new j → i < j → (next_at new i ≤ j) × (i < next_at new i)
    next_low i j isi isj same less =
        let few = a.few in
        elim (alive_split xs x i isi) [
          | inr last ↦ (let wj = alive_within (xs ++ x ∷ []) j isj in let sized = length-append xs (x ∷ []) in absurd (omega arith))
          | inl oi ↦ elim (alive_split xs x j isj) [
            | inl oj ↦ elim (cases_eq i t) [
              | inl here ↦
                  (let li = oi.0 in
                  let own = (tail_of (λ none. omega arith)).1 in
                  let fj : founder_at links j ≡ f = sym (a.made.founder_old j oj.0) ∙ (sym same ∙ (a.made.founder_old i oi.0 ∙ (ap (λ k. founder_at links k) here ∙ own))) in
                  let high = (a.linked.last_high j oj.1).0 in
                  let at : last_at links (founder_at links j) ≡ t = ap (λ k. last_at links k) fj ∙ sym a.tail in
                  absurd (omega arith))
              | inr other ↦
                  (let e1 = a.made.next_old i oi.0 other in
                  let before = a.linked.next_low i j oi.1 oj.1 (sym (a.made.founder_old i oi.0) ∙ (same ∙ a.made.founder_old j oj.0)) less in
                  subst (λ k. (k ≤ j) × (i < k)) (sym e1) before)
            ]
            | inr last ↦
                (let fi : founder_at links i ≡ f = sym (a.made.founder_old i oi.0) ∙ (same ∙ (ap (λ k. founder_at new k) last ∙ a.made.founder_new)) in
                let high = a.linked.last_high i oi.1 in
                let at : last_at links (founder_at links i) ≡ t = ap (λ k. last_at links k) fi ∙ sym a.tail in
                let up : i ≤ t = subst (λ k. i ≤ k) at high.0 in
                let top : t < length xs = subst (λ k. k < length xs) at high.1 in
                elim (cases_eq i t) [
                  | inl here ↦ (let to : next_at new i ≡ length xs = ap (λ k. next_at new k) here ∙ a.made.next_tail top in subst (λ k. (k ≤ j) × (i < k)) (sym to) (omega arith, oi.0))
                  | inr other ↦
                      (let e1 = a.made.next_old i oi.0 other in
                      let tail = tail_of (λ none. omega arith) in
                      let before = a.linked.next_low i t oi.1 tail.0 (fi ∙ sym tail.1) (omega arith) in
                      let b0 = before.0 in
                      subst (λ k. (k ≤ j) × (i < k)) (sym e1) (omega arith, before.1))
                ])
          ]
        ]

    prev_is : (i : ℕ) → alive_at (xs ++ x ∷ []) i ≡ true → (prev_at new i ≡ NONE → ⊥) → (prev_at new i < i) × (alive_at (xs ++ x ∷ []) (prev_at new i) ≡ true) × (founder_at new (prev_at new i) ≡ founder_at new i)
    prev_is i is some =
        elim (alive_split xs x i is) [
          | inl old ↦
              (let same : prev_at new i ≡ prev_at links i = a.made.prev_old i old.0 in
              let before = a.linked.prev_is i old.1 (λ none. some (same ∙ none)) in
              subst (λ k. (k < i) × (alive_at (xs ++ x ∷ []) k ≡ true) × (founder_at new k ≡ founder_at new i)) (sym same)
              (before.0, alive_old xs x (prev_at links i) before.1, a.made.founder_old (prev_at links i) (alive_within xs (prev_at links i) before.1) ∙ (before.2 ∙ sym (a.made.founder_old i old.0))))
          | inr last ↦
              (let to : prev_at new i ≡ t = ap (λ k. prev_at new k) last ∙ a.made.prev_new in
              let tail = tail_of (λ none. some (to ∙ none)) in
              let low : t < length xs = alive_within xs t tail.0 in
              subst (λ k. (k < i) × (alive_at (xs ++ x ∷ []) k ≡ true) × (founder_at new k ≡ founder_at new i)) (sym to)
              (omega arith, alive_old xs x t tail.0, a.made.founder_old t low ∙ (tail.1 ∙ sym (ap (λ k. founder_at new k) last ∙ a.made.founder_new))))
        ]

    prev_high : (i j : ℕ) → alive_at (xs ++ x ∷ []) i ≡ true → alive_at (xs ++ x ∷ []) j ≡ true → founder_at new j ≡ founder_at new i → j < i → (j ≤ prev_at new i) × (prev_at new i < i)
    prev_high i j isi isj same less =
        elim (alive_split xs x j isj) [
          | inr last ↦ (let wi = alive_within (xs ++ x ∷ []) i isi in let sized = length-append xs (x ∷ []) in absurd (omega arith))
          | inl oj ↦ elim (alive_split xs x i isi) [
            | inl oi ↦
                (let before = a.linked.prev_high i j oi.1 oj.1 (sym (a.made.founder_old j oj.0) ∙ (same ∙ a.made.founder_old i oi.0)) less in
                subst (λ k. (j ≤ k) × (k < i)) (sym (a.made.prev_old i oi.0)) before)
            | inr last ↦
                (let fj : founder_at links j ≡ f = sym (a.made.founder_old j oj.0) ∙ (same ∙ (ap (λ k. founder_at new k) last ∙ a.made.founder_new)) in
                let high = a.linked.last_high j oj.1 in
                let at : last_at links (founder_at links j) ≡ t = ap (λ k. last_at links k) fj ∙ sym a.tail in
                let up : j ≤ t = subst (λ k. j ≤ k) at high.0 in
                let top : t < length xs = subst (λ k. k < length xs) at high.1 in
                let to : prev_at new i ≡ t = ap (λ k. prev_at new k) last ∙ a.made.prev_new in
                subst (λ k. (j ≤ k) × (k < i)) (sym to) (up, omega arith))
          ]
        ]

    last_is : (g : ℕ) → g < length (xs ++ x ∷ []) → (last_at new g ≡ NONE → ⊥) → (alive_at (xs ++ x ∷ []) (last_at new g) ≡ true) × (founder_at new (last_at new g) ≡ g)
    last_is g within some =
        let sized = length-append xs (x ∷ []) in
        elim (cases_eq g f) [
          | inl here ↦
              (let to : last_at new g ≡ length xs = ap (λ k. last_at new k) here ∙ a.made.last_new in
              subst (λ k. (alive_at (xs ++ x ∷ []) k ≡ true) × (founder_at new k ≡ g)) (sym to) (alive_new xs x a.fresh, a.made.founder_new ∙ sym here))
          | inr other ↦ elim (cases_lt g (length xs)) [
            | inl low ↦
                (let same : last_at new g ≡ last_at links g = a.made.last_old g low other in
                let before = a.linked.last_is g low (λ none. some (same ∙ none)) in
                subst (λ k. (alive_at (xs ++ x ∷ []) k ≡ true) × (founder_at new k ≡ g)) (sym same) (alive_old xs x (last_at links g) before.0, a.made.founder_old (last_at links g) (alive_within xs (last_at links g) before.0) ∙ before.1))
            | inr high ↦ (let at : g ≡ length xs = omega arith in absurd (some (ap (λ k. last_at new k) at ∙ a.made.last_none (λ e. other (at ∙ e)))))
          ]
        ]

    last_high : (j : ℕ) → alive_at (xs ++ x ∷ []) j ≡ true → (j ≤ last_at new (founder_at new j)) × (last_at new (founder_at new j) < length (xs ++ x ∷ []))
    last_high j is =
        let sized = length-append xs (x ∷ []) in
        elim (alive_split xs x j is) [
          | inr last ↦
              (let to : last_at new (founder_at new j) ≡ length xs = ap (λ k. last_at new k) (ap (λ k. founder_at new k) last ∙ a.made.founder_new) ∙ a.made.last_new in
              subst (λ k. (j ≤ k) × (k < length (xs ++ x ∷ []))) (sym to) (omega arith, omega arith))
          | inl old ↦
              (let low = old.0 in
              let fj = a.made.founder_old j old.0 in
              elim (cases_eq (founder_at links j) f) [
                | inl here ↦
                    (let to : last_at new (founder_at new j) ≡ length xs = ap (λ k. last_at new k) (fj ∙ here) ∙ a.made.last_new in
                    subst (λ k. (j ≤ k) × (k < length (xs ++ x ∷ []))) (sym to) (omega arith, omega arith))
                | inr other ↦
                    (let flow = a.founded.low j old.0 in
                    let to : last_at new (founder_at new j) ≡ last_at links (founder_at links j) = ap (λ k. last_at new k) fj ∙ a.made.last_old (founder_at links j) (omega arith) other in
                    let before = a.linked.last_high j old.1 in
                    let top = before.1 in
                    subst (λ k. (j ≤ k) × (k < length (xs ++ x ∷ []))) (sym to) (before.0, omega arith))
              ])
        ]
