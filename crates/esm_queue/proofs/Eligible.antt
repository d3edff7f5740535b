-- Which messages may be received, by the links of their groups.
use Rattle.std.proofs.Common.{◌≡◌, ℕ, zero, suc, ◌<◌, ◌≤◌, Bool, true, false, not, ◌&&◌, ◌==◌, List, [], ◌∷◌, length, take, refl, sym, ap, ap₂, ◌∙◌, subst, inl, inr, arith, Option, Some}
use Rattle.std.specs.Prelude.{slice_get, slice_index, option_map, unwrap_or}
use Rattle.std.specs.List.{list_any}
use Rattle.std.proofs.lemmas.Bool.{cases_Bool, cases_lt, cases_eq, or_parts, or_from, and_left, and_right, and_parts, and_from, both_ways, not-true, not_from_true, not_from_false, eqb-true, eq-eqb, ne_eqb, cond-true, cond-false}
use Rattle.std.proofs.lemmas.List.{length-map}
use Rattle.std.proofs.lemmas.Option.{slice_get_cases, slice_get_within, none-some, same_Some}
use Rattle.esm_queue_model.specs.declared.stored.Stored.{Stored}
use Rattle.esm_queue_model.specs.Queue.{QueueState, is_hidden, is_shown, is_in_flight, is_group, same_group, is_held_back, is_receivable, is_eligible}
use Rattle.esm_model.specs.declared.moment.TheConstants.{MAX_MOMENT}
use Rattle.esm_queue.specs.declared.links.Link.{Link}
use Rattle.esm_queue.specs.declared.links.TheConstants.{NONE}
use Rattle.esm_queue.specs.declared.moment_tree.TheConstants.{NEVER}
use Rattle.esm_queue.specs.Moments.{leaf, leaves}
use Rattle.esm_queue.specs.Links.{alive_at, group_in, founder_at, next_at, prev_at, head_moment, IsFounded, IsLinked, IsHeaded}
use Rattle.esm_queue.proofs.Places.{alive_in, alive_within}
use Rattle.esm_queue.proofs.Leaves.{leaf_at, leaf_shown, shown_leaf, never_late}

-- tests over fronts

none_in_front : (p : Stored → Bool) (xs : List Stored) (i : ℕ) → ((j : ℕ) (y : Stored) → j < i → slice_get xs j ≡ Some y → p y ≡ false) → list_any p (take i xs) ≡ false
none_in_front p xs zero none = refl
none_in_front p [] (suc i) none = refl
none_in_front p (x ∷ xs) (suc i) none = or_from (p x) (list_any p (take i xs)) (none zero x (omega arith) refl) (none_in_front p xs i (λ j y l at. none (suc j) y (omega arith) at))

in_front : (p : Stored → Bool) (xs : List Stored) (i j : ℕ) (y : Stored) → list_any p (take i xs) ≡ false → j < i → slice_get xs j ≡ Some y → p y ≡ false
in_front p xs zero j y none low at = absurd (omega arith)
in_front p [] (suc i) j y none low at = absurd (none-some y at)
in_front p (x ∷ xs) (suc i) zero y none low at = ap p (sym (same_Some x y at)) ∙ (or_parts (p x) (list_any p (take i xs)) none).0
in_front p (x ∷ xs) (suc i) (suc j) y none low at = in_front p xs i j y (or_parts (p x) (list_any p (take i xs)) none).1 (omega arith) at

-- a queue of these messages
abbrev pub queue_of : Bool → ℕ → List Stored → QueueState
queue_of fifo v xs = record { fifo = fifo; visibility = v; messages = xs }

eligible_at : (fifo : Bool) (v m : ℕ) (xs : List Stored) (i : ℕ) (x : Stored) → slice_get xs i ≡ Some x → is_eligible (queue_of fifo v xs) m i ≡ (is_shown v m x && not (fifo && is_held_back v m (take i xs) x))
eligible_at fifo v m xs i x at = ap (λ (o : Option Stored). unwrap_or (option_map (is_receivable (queue_of fifo v xs) m (take i xs)) o) false) at

-- a message is shown where its moment has come
shown_from : (v m : ℕ) (xs : List Stored) (i : ℕ) (x : Stored) → m ≤ MAX_MOMENT → slice_get xs i ≡ Some x → slice_index (leaves v xs) i ≤ m → is_shown v m x ≡ true
shown_from v m xs i x early at come = let e = leaf_at v xs i x at in shown_leaf v m x early (omega arith)

come_from : (v m : ℕ) (xs : List Stored) (i : ℕ) (x : Stored) → slice_get xs i ≡ Some x → is_shown v m x ≡ true → slice_index (leaves v xs) i ≤ m
come_from v m xs i x at shown = let e = leaf_at v xs i x at in let low = leaf_shown v m x shown in omega arith

-- what a place has
get_at : (xs : List Stored) (i : ℕ) → i < length xs → (x : Stored) × (slice_get xs i ≡ Some x)
get_at xs i low = elim (slice_get_cases xs i).1 [ inl there ↦ (there.0, there.2) | inr past ↦ (let out = past.0 in absurd (omega arith)) ]

eligible_get : (fifo : Bool) (v m : ℕ) (xs : List Stored) (i : ℕ) → is_eligible (queue_of fifo v xs) m i ≡ true → (x : Stored) × (slice_get xs i ≡ Some x) × (i < length xs)
eligible_get fifo v m xs i is =
    elim (slice_get_cases xs i).1 [
      | inl there ↦ (there.0, there.2, there.1)
      | inr past ↦ absurd (both_ways (is_eligible (queue_of fifo v xs) m i) (ap (λ (o : Option Stored). unwrap_or (option_map (is_receivable (queue_of fifo v xs) m (take i xs)) o) false) past.1) is)
    ]

pub eligible_come : (fifo : Bool) (v m : ℕ) (xs : List Stored) (i : ℕ) → is_eligible (queue_of fifo v xs) m i ≡ true → (i < length xs) × (slice_index (leaves v xs) i ≤ m)
eligible_come fifo v m xs i is =
    let g = eligible_get fifo v m xs i is in
    let both = and_parts (is_shown v m g.0) (not (fifo && is_held_back v m (take i xs) g.0)) (sym (eligible_at fifo v m xs i g.0 g.1) ∙ is) in
    (g.2, come_from v m xs i g.0 g.1 both.0)

-- two messages of one group have one founder
founder_by_group : (fifo : Bool) (xs : List Stored) (links : List Link) (i j : ℕ) (x y : Stored) → IsFounded fifo xs links → slice_get xs i ≡ Some x → slice_get xs j ≡ Some y → j < i → (fifo && same_group y x) ≡ (founder_at links j == founder_at links i)
founder_by_group fifo xs links i j x y fd ati atj less =
    let li = slice_get_within xs i x ati in
    ap₂ (λ (g h : Option (List ℕ)). fifo && is_group g h) (sym (ap group_in atj)) (sym (ap group_in ati)) ∙ fd.same j i (omega arith) li (λ e. omega arith)

-- an earlier message of the group that is not deleted has shown
pub eligible_back : (fifo : Bool) (v m : ℕ) (xs : List Stored) (links : List Link) (i j : ℕ) → IsFounded fifo xs links → is_eligible (queue_of fifo v xs) m i ≡ true → j < i → alive_at xs j ≡ true → founder_at links j ≡ founder_at links i → slice_index (leaves v xs) j ≤ m
eligible_back fifo v m xs links i j fd is less alive same =
    let gi = eligible_get fifo v m xs i is in
    let x = gi.0 in
    let gj = get_at xs j (alive_within xs j alive) in
    let y = gj.0 in
    let both = and_parts (is_shown v m x) (not (fifo && is_held_back v m (take i xs) x)) (sym (eligible_at fifo v m xs i x gi.1) ∙ is) in
    let free : (fifo && is_held_back v m (take i xs) x) ≡ false = not-true (fifo && is_held_back v m (take i xs) x) both.1 in
    let grouped : (fifo && same_group y x) ≡ true = founder_by_group fifo xs links i j x y fd gi.1 gj.1 less ∙ eq-eqb (founder_at links j) (founder_at links i) same in
    let parts = and_parts fifo (same_group y x) grouped in
    let held : is_held_back v m (take i xs) x ≡ false = sym (ap (λ b. b && is_held_back v m (take i xs) x) parts.0) ∙ free in
    let here : (same_group y x && is_in_flight v m y) ≡ false = in_front (λ z. same_group z x && is_in_flight v m z) xs i j y held less gj.1 in
    let flies : is_in_flight v m y ≡ false = sym (ap (λ b. b && is_in_flight v m y) parts.1) ∙ here in
    let lives : not y.deleted ≡ true = sym (ap alive_in gj.1) ∙ alive in
    let hidden : is_hidden v m y ≡ false = sym (ap (λ b. b && is_hidden v m y) lives) ∙ flies in
    come_from v m xs j y gj.1 (and_from (not y.deleted) (not (is_hidden v m y)) lives (not_from_false (is_hidden v m y) hidden))

-- a message that has shown, with all earlier ones of its group that are not deleted, may be received
pub eligible_from : (fifo : Bool) (v m : ℕ) (xs : List Stored) (links : List Link) (i : ℕ) → m ≤ MAX_MOMENT → IsFounded fifo xs links → i < length xs → slice_index (leaves v xs) i ≤ m → ((j : ℕ) → j < i → alive_at xs j ≡ true → founder_at links j ≡ founder_at links i → slice_index (leaves v xs) j ≤ m) → is_eligible (queue_of fifo v xs) m i ≡ true
eligible_from fifo v m xs links i early fd low come all =
    let gi = get_at xs i low in
    let x = gi.0 in
    eligible_at fifo v m xs i x gi.1 ∙ and_from (is_shown v m x) (not (fifo && is_held_back v m (take i xs) x)) (shown_from v m xs i x early gi.1 come)
    (not_from_false (fifo && is_held_back v m (take i xs) x) (elim (cases_Bool fifo) [
      | inr standard ↦ and_left fifo (is_held_back v m (take i xs) x) standard
      | inl kind ↦ and_right fifo (is_held_back v m (take i xs) x) (none_in_front (λ z. same_group z x && is_in_flight v m z) xs i (λ j y less at.
          elim (cases_Bool (same_group y x)) [
            | inr apart ↦ and_left (same_group y x) (is_in_flight v m y) apart
            | inl grouped ↦ and_right (same_group y x) (is_in_flight v m y) (elim (cases_Bool y.deleted) [
              | inl gone ↦ and_left (not y.deleted) (is_hidden v m y) (not_from_true y.deleted gone)
              | inr lives ↦
                  (let one : founder_at links j ≡ founder_at links i = eqb-true (founder_at links j) (founder_at links i) (sym (founder_by_group fifo xs links i j x y fd gi.1 at less) ∙ and_from fifo (same_group y x) kind grouped) in
                  let alive : alive_at xs j ≡ true = ap alive_in at ∙ not_from_false y.deleted lives in
                  let shown = shown_from v m xs j y early at (all j less alive one) in
                  and_right (not y.deleted) (is_hidden v m y) (not-true (is_hidden v m y) (and_parts (not y.deleted) (not (is_hidden v m y)) shown).1))
            ])
          ]))
    ]))

-- a message whose moment has come is not deleted
pub come_alive : (v m : ℕ) (xs : List Stored) (i : ℕ) → m ≤ MAX_MOMENT → i < length xs → slice_index (leaves v xs) i ≤ m → alive_at xs i ≡ true
come_alive v m xs i early low come =
    let g = get_at xs i low in
    ap alive_in g.1 ∙ (and_parts (not g.0.deleted) (not (is_hidden v m g.0)) (shown_from v m xs i g.0 early g.1 come)).0

-- the chain of the messages that may be received

pub record Chain (fifo : Bool) (v m : ℕ) (xs : List Stored) (links : List Link) (heads : List ℕ) : Type 0 where
  pub early : m ≤ MAX_MOMENT
  pub few : length xs ≤ NONE
  pub founded : IsFounded fifo xs links
  pub linked : IsLinked xs links
  pub headed : IsHeaded (leaves v xs) links heads

-- a head whose moment has come
pub head_eligible : (fifo : Bool) (v m : ℕ) (xs : List Stored) (links : List Link) (heads : List ℕ) → Chain fifo v m xs links heads → (k : ℕ) → k < length xs → slice_index heads k ≤ m → is_eligible (queue_of fifo v xs) m k ≡ true
head_eligible fifo v m xs links heads c k low come =
    let sized : length (leaves v xs) ≡ length xs = length-map xs (leaf v) in
    let is = c.headed.are k (omega arith) in
    elim (cases_eq (prev_at links k) NONE) [
      | inr some ↦
          (let late = never_late in
          let early = c.early in
          let e : head_moment (prev_at links k) (slice_index (leaves v xs) k) ≡ NEVER = cond-false (prev_at links k == NONE) (slice_index (leaves v xs) k) NEVER (ne_eqb (prev_at links k) NONE some) in
          absurd (omega arith))
      | inl first ↦
          (let e : head_moment (prev_at links k) (slice_index (leaves v xs) k) ≡ slice_index (leaves v xs) k = cond-true (prev_at links k == NONE) (slice_index (leaves v xs) k) NEVER (eq-eqb (prev_at links k) NONE first) in
          let shows : slice_index (leaves v xs) k ≤ m = omega arith in
          eligible_from fifo v m xs links k c.early c.founded low shows (λ j less alive same.
          (let high = c.linked.prev_high k j (come_alive v m xs k c.early low shows) alive same less in
          let few = c.few in
          let h1 = high.1 in
          absurd (omega arith))))
    ]

-- a first message that may be received is a head whose moment has come
pub first_is_head : (fifo : Bool) (v m : ℕ) (xs : List Stored) (links : List Link) (heads : List ℕ) → Chain fifo v m xs links heads → (k : ℕ) → is_eligible (queue_of fifo v xs) m k ≡ true → prev_at links k ≡ NONE → slice_index heads k ≤ m
first_is_head fifo v m xs links heads c k is first =
    let come = eligible_come fifo v m xs k is in
    let low = come.0 in
    let shows = come.1 in
    let sized : length (leaves v xs) ≡ length xs = length-map xs (leaf v) in
    let are = c.headed.are k (omega arith) in
    let e : head_moment (prev_at links k) (slice_index (leaves v xs) k) ≡ slice_index (leaves v xs) k = cond-true (prev_at links k == NONE) (slice_index (leaves v xs) k) NEVER (eq-eqb (prev_at links k) NONE first) in
    omega arith

-- the one before it may be received too
pub before_eligible : (fifo : Bool) (v m : ℕ) (xs : List Stored) (links : List Link) (heads : List ℕ) → Chain fifo v m xs links heads → (k : ℕ) → is_eligible (queue_of fifo v xs) m k ≡ true → (prev_at links k ≡ NONE → ⊥) → (prev_at links k < k) × (is_eligible (queue_of fifo v xs) m (prev_at links k) ≡ true)
before_eligible fifo v m xs links heads c k is some =
    let come = eligible_come fifo v m xs k is in
    let alive = come_alive v m xs k c.early come.0 come.1 in
    let back = c.linked.prev_is k alive some in
    let b0 = back.0 in (
      back.0,
      eligible_from fifo v m xs links (prev_at links k) c.early c.founded (alive_within xs (prev_at links k) back.1)
          (eligible_back fifo v m xs links k (prev_at links k) c.founded is back.0 back.1 back.2)
          (λ j less lives same. eligible_back fifo v m xs links k j c.founded is (omega arith) lives (same ∙ back.2)),
    )

-- the next one may be received where its moment has come
pub next_eligible : (fifo : Bool) (v m : ℕ) (xs : List Stored) (links : List Link) (heads : List ℕ) → Chain fifo v m xs links heads → (p : ℕ) → is_eligible (queue_of fifo v xs) m p ≡ true → next_at links p < length xs → slice_index (leaves v xs) (next_at links p) ≤ m → (p < next_at links p) × (is_eligible (queue_of fifo v xs) m (next_at links p) ≡ true)
next_eligible fifo v m xs links heads c p is low come =
    let few = c.few in
    let own = eligible_come fifo v m xs p is in
    let alive = come_alive v m xs p c.early own.0 own.1 in
    let on = c.linked.next_is p alive (λ none. omega arith) in
    let o0 = on.0 in (
      on.0,
      eligible_from fifo v m xs links (next_at links p) c.early c.founded low come (λ j less lives same.
          elim (cases_lt j p) [
            | inl before ↦ eligible_back fifo v m xs links p j c.founded is before lives (same ∙ on.2)
            | inr behind ↦ elim (cases_eq j p) [
              | inl here ↦ (let shows = own.1 in subst (λ i. slice_index (leaves v xs) i ≤ m) (sym here) shows)
              | inr apart ↦ (let up = c.linked.next_low p j alive lives (sym (same ∙ on.2)) (omega arith) in let u0 = up.0 in absurd (omega arith))
            ]
          ]),
    )

-- a message is the next one of the one before it
pub next_of_before : (fifo : Bool) (v m : ℕ) (xs : List Stored) (links : List Link) (heads : List ℕ) → Chain fifo v m xs links heads → (k p : ℕ) → is_eligible (queue_of fifo v xs) m k ≡ true → is_eligible (queue_of fifo v xs) m p ≡ true → prev_at links k ≡ p → next_at links p ≡ k
next_of_before fifo v m xs links heads c k p isk isp at =
    let few = c.few in
    let ck = eligible_come fifo v m xs k isk in
    let cp = eligible_come fifo v m xs p isp in
    let lk = ck.0 in
    let lp = cp.0 in
    let alivek = come_alive v m xs k c.early ck.0 ck.1 in
    let alivep = come_alive v m xs p c.early cp.0 cp.1 in
    let back = c.linked.prev_is k alivek (λ none. omega arith) in
    let b0 = back.0 in
    let same : founder_at links p ≡ founder_at links k = ap (λ i. founder_at links i) (sym at) ∙ back.2 in
    let up = c.linked.next_low p k alivep alivek same (omega arith) in
    let u0 = up.0 in
    let u1 = up.1 in
    elim (cases_eq (next_at links p) k) [
      | inl is ↦ is
      | inr apart ↦
          (let on = c.linked.next_is p alivep (λ none. omega arith) in
          let high = c.linked.prev_high k (next_at links p) alivek on.1 (on.2 ∙ same) (omega arith) in
          let h0 = high.0 in
          absurd (omega arith))
    ]
