-- Lists of places that rise, and fronts of what passes a test.
use Rattle.std.proofs.Common.{◌≡◌, ℕ, zero, suc, ◌+◌, ◌<◌, ◌≤◌, Bool, true, false, List, [], ◌∷◌, ◌++◌, length, get_or, take, add-one, append_assoc, sym, ap, ◌∙◌, inl, inr, arith}
use Rattle.std.specs.Prelude.{filter}
use Rattle.std.proofs.lemmas.List.{append-nil, take-append-le, take_all}
use Rattle.std.proofs.lemmas.List.Elements.{filter-append}
use Rattle.std.proofs.lemmas.Bool.{cases_Bool, cases_lt}
use Rattle.esm_model.specs.Fates.{below}
use Rattle.esm_queue.specs.Receiving.{IsRising}

-- the places rise from low on, below high
abbrev pub Rises : ℕ → ℕ → List ℕ → Type 0
Rises low high [] = low ≤ high
Rises low high (i ∷ places) = (low ≤ i) × Rises (i + 1) high places

pub Rises_bounds : (low high : ℕ) (places : List ℕ) → Rises low high places → low ≤ high
Rises_bounds low high [] h = h
Rises_bounds low high (i ∷ places) h = let rest = Rises_bounds (i + 1) high places h.1 in let first = h.0 in omega arith

pub Rises-push : (low n : ℕ) (places : List ℕ) → Rises low n places → Rises low (suc n) (places ++ n ∷ [])
Rises-push low n [] h = (h, omega arith)
Rises-push low n (i ∷ places) h = (h.0, Rises-push (i + 1) n places h.1)

pub Rises-weaker : (low n m : ℕ) (places : List ℕ) → n ≤ m → Rises low n places → Rises low m places
Rises-weaker low n m [] le h = omega arith
Rises-weaker low n m (i ∷ places) le h = (h.0, Rises-weaker (i + 1) n m places le h.1)

pub Rises-take : (low high k : ℕ) (places : List ℕ) → Rises low high places → Rises low high (take k places)
Rises-take low high zero places h = Rises_bounds low high places h
Rises-take low high (suc k) [] h = h
Rises-take low high (suc k) (i ∷ places) h = (h.0, Rises-take (i + 1) high k places h.1)

pub Rises_at : (low high : ℕ) (places : List ℕ) (k d : ℕ) → Rises low high places → k < length places → get_or places k d < high
Rises_at low high [] k d h within = absurd (omega arith)
Rises_at low high (i ∷ places) zero d h within = let rest = Rises_bounds (i + 1) high places h.1 in omega arith
Rises_at low high (i ∷ places) (suc k) d h within = Rises_at (i + 1) high places k d h.1 (omega arith)

pub Rises_rising : (low high : ℕ) (places : List ℕ) → Rises low high places → IsRising low places
Rises_rising low high [] h = tt
Rises_rising low high (i ∷ places) h = (h.0, Rises_rising (i + 1) high places h.1)

-- what passes of the numbers below n
pub Rises-filter_below : (p : ℕ → Bool) (n : ℕ) → Rises 0 n (filter p (below n))
Rises-filter_below p zero = omega arith
Rises-filter_below p (suc n) =
    let before = Rises-filter_below p n in
    rw (filter-append p (below n) (n ∷ []))
    (elim (cases_Bool (p n)) [
      | inl is ↦ rw is (Rises-push 0 n (filter p (below n)) before)
      | inr fails ↦ rw fails (rw append-nil (Rises-weaker 0 n (suc n) (filter p (below n)) (omega arith) before))
    ])

-- numbers that do not pass are passed over
pub filter_skip : (p : ℕ → Bool) (from to : ℕ) → from ≤ to → ((i : ℕ) → from ≤ i → i < to → p i ≡ false) → filter p (below to) ≡ filter p (below from)
filter_skip p from zero le none = let e : from ≡ 0 = omega arith in ap (λ n. filter p (below n)) (sym e)
filter_skip p from (suc to) le none =
    elim (cases_lt to from) [
      | inl past ↦ (let e : from ≡ suc to = omega arith in ap (λ n. filter p (below n)) (sym e))
      | inr within ↦
          (let rest = filter_skip p from to within (λ i low high. none i low (omega arith)) in
          let fails : p to ≡ false = none to within (omega arith) in
          filter-append p (below to) (to ∷ []) ∙ (rw fails (append-nil (filter p (below to))) ∙ rest))
    ]

-- what passes below a number begins what passes below a greater one
pub filter_front : (p : ℕ → Bool) (from to : ℕ) → from ≤ to → (rest : List ℕ) × (filter p (below to) ≡ filter p (below from) ++ rest)
filter_front p from zero le = let e : from ≡ 0 = omega arith in ([], ap (λ n. filter p (below n)) (sym e) ∙ sym (append-nil (filter p (below from))))
filter_front p from (suc to) le =
    elim (cases_lt to from) [
      | inl past ↦ (let e : from ≡ suc to = omega arith in ([], ap (λ n. filter p (below n)) (sym e) ∙ sym (append-nil (filter p (below from)))))
      | inr within ↦ (let before = filter_front p from to within in
          (before.0 ++ filter p (to ∷ []), filter-append p (below to) (to ∷ []) ∙ (ap (λ xs. xs ++ filter p (to ∷ [])) before.1 ∙ append_assoc (filter p (below from)) before.0 (filter p (to ∷ [])))))
    ]

-- the next number that passes
pub filter_next : (p : ℕ → Bool) (from at : ℕ) → from ≤ at → ((i : ℕ) → from ≤ i → i < at → p i ≡ false) → p at ≡ true → filter p (below (at + 1)) ≡ filter p (below from) ++ at ∷ []
filter_next p from at le none is =
    rw add-one (filter-append p (below at) (at ∷ []) ∙ rw is (ap (λ xs. xs ++ at ∷ []) (filter_skip p from at le none)))

-- a front that is long enough
pub front_full : (p : ℕ → Bool) (from to max : ℕ) (places : List ℕ) → from ≤ to → places ≡ filter p (below from) → length places ≡ max → places ≡ take max (filter p (below to))
front_full p from to max places le so_far full =
    let whole = filter_front p from to le in
    let long : length (filter p (below from)) ≡ max = ap length (sym so_far) ∙ full in
    so_far ∙ (sym (take_all max (filter p (below from)) (omega arith))
    ∙ (sym (take-append-le max (filter p (below from)) whole.0 (omega arith)) ∙ ap (take max) (sym whole.1)))

pub front_whole : (p : ℕ → Bool) (from to max : ℕ) (places : List ℕ) → from ≤ to → places ≡ filter p (below from) → length places ≤ max → ((i : ℕ) → from ≤ i → i < to → p i ≡ false) → places ≡ take max (filter p (below to))
front_whole p from to max places le so_far few none =
    let whole : places ≡ filter p (below to) = so_far ∙ sym (filter_skip p from to le none) in
    whole ∙ sym (take_all max (filter p (below to)) (let l : length (filter p (below to)) ≡ length places = ap length (sym whole) in omega arith))
