-- How a group's founder is found in its bucket.
use Rattle.std.proofs.Common.{◌≡◌, ℕ, ◌+◌, ◌<◌, ◌≤◌, ◌&&◌, ◌==◌, Bool, true, false, cond, List, [], ◌∷◌, ◌++◌, length, length-append, set, sym, ap, ap₂, ◌∙◌, subst, inl, inr, arith, Option}
use Rattle.std.specs.Prelude.{slice_index}
use Rattle.std.proofs.lemmas.Bool.{cases_lt, cases_eq, both_ways, eq-eqb, ne_eqb, cond-true, cond-false, false_from_ne_true}
use Rattle.std.proofs.lemmas.List.{length-set, get_or-set_same, get_or-set_other}
use Rattle.esm_queue_model.specs.declared.stored.Stored.{Stored}
use Rattle.esm_queue_model.specs.Queue.{is_group}
use Rattle.esm_queue.specs.declared.links.Link.{Link}
use Rattle.esm_queue.specs.declared.links.TheConstants.{NONE}
use Rattle.esm_queue.specs.Links.{founder_at, earlier_at, group_at, IsFounded}
use Rattle.esm_queue.specs.Names.{bucket_of, bucket_at, IsChained}
use Rattle.esm_queue.proofs.Places.{group_old, group_new, group_same}
use Rattle.esm_queue.proofs.Linking.{Appended}

-- a search in a bucket, which stands at a founder

pub chain_stands : (count : ℕ) (xs : List Stored) (links : List Link) (buckets : List ℕ) (g : Option (List ℕ)) (at next : ℕ) → IsChained count xs links buckets → next ≡ earlier_at links at → (at < length xs) × (founder_at links at ≡ at) × (bucket_at count xs at ≡ bucket_of count g) → (next ≡ NONE → ⊥) → (next < length xs) × (founder_at links next ≡ next) × (bucket_at count xs next ≡ bucket_of count g)
chain_stands count xs links buckets g at next ch is here some =
    let low = here.0 in
    let step = ch.earlier_is at here.0 here.1 (λ none. some (is ∙ none)) in
    let less = step.0 in
    subst (λ k. (k < length xs) × (founder_at links k ≡ k) × (bucket_at count xs k ≡ bucket_of count g)) (sym is)
    (omega arith, step.1, step.2 ∙ here.2)

pub chain_rest : (count : ℕ) (xs : List Stored) (links : List Link) (buckets : List ℕ) (g : Option (List ℕ)) (at next : ℕ) → IsChained count xs links buckets → next ≡ earlier_at links at → (at < length xs) × (founder_at links at ≡ at) × (bucket_at count xs at ≡ bucket_of count g) → is_group (group_at xs at) g ≡ false → (j : ℕ) → j < length xs → founder_at links j ≡ j → is_group (group_at xs j) g ≡ true → j ≤ at → (j ≤ next) × (next < length xs)
chain_rest count xs links buckets g at next ch is here other j low own named high =
    let ne : j ≡ at → ⊥ = λ e. both_ways (is_group (group_at xs at) g) other (ap (λ k. is_group (group_at xs k) g) (sym e) ∙ named) in
    let bucket : bucket_at count xs j ≡ bucket_at count xs at = ap (λ h. bucket_of count h) (group_same (group_at xs j) g named) ∙ sym here.2 in
    let step = ch.earlier_high at j here.0 here.1 own bucket (omega arith) in
    let less = step.1 in
    let within = here.0 in
    subst (λ k. (j ≤ k) × (k < length xs)) (sym is) (step.0, omega arith)

-- a bucket in which no founder of the group is left
pub none_named : (xs : List Stored) (links : List Link) (g : Option (List ℕ)) (at : ℕ) → IsFounded true xs links → length xs ≤ NONE → at ≡ NONE → ((j : ℕ) → j < length xs → founder_at links j ≡ j → is_group (group_at xs j) g ≡ true → (j ≤ at) × (at < length xs)) → (i : ℕ) → i < length xs → is_group (group_at xs i) g ≡ false
none_named xs links g at fd few end rest i low =
    false_from_ne_true (is_group (group_at xs i) g) (λ named.
    let f = founder_at links i in
    let down : f ≤ i = fd.low i low in
    let own : founder_at links f ≡ f = fd.founder i low in
    let within : f < length xs = omega arith in
    let also : is_group (group_at xs f) g ≡ true = elim (cases_eq f i) [
      | inl here ↦ ap (λ k. is_group (group_at xs k) g) here ∙ named
      | inr other ↦ ap (λ h. is_group h g) (group_same (group_at xs f) (group_at xs i) (fd.same f i within low other ∙ eq-eqb (founder_at links f) (founder_at links i) own)) ∙ named
    ] in
    let out = (rest f within own also).1 in
    absurd (omega arith))

-- a message that comes; a founder enters its bucket
pub chained_append : (count : ℕ) (xs : List Stored) (x : Stored) (f t b : ℕ) (links new : List Link) (buckets after : List ℕ) → IsChained count xs links buckets → length xs < NONE → f ≤ length xs → b ≡ bucket_of count x.message.group → b < count → Appended (length xs) f t (slice_index buckets b) links new → after ≡ cond (f == length xs) (set buckets b (length xs)) buckets → IsChained count (xs ++ x ∷ []) new after
chained_append count xs x f t b links new buckets after ch few top at within m is =
    elim (cases_eq f (length xs)) [
      | inl own ↦ subst (λ bs. IsChained count (xs ++ x ∷ []) new bs) (sym (is ∙ cond-true (f == length xs) (set buckets b (length xs)) buckets (eq-eqb f (length xs) own))) (founds own)
      | inr other ↦ subst (λ bs. IsChained count (xs ++ x ∷ []) new bs) (sym (is ∙ cond-false (f == length xs) (set buckets b (length xs)) buckets (ne_eqb f (length xs) other))) (joins other)
    ]
  where
    size : length (xs ++ x ∷ []) ≡ length xs + 1
    size = length-append xs (x ∷ [])

    old_bucket : (i : ℕ) → i < length xs → bucket_at count (xs ++ x ∷ []) i ≡ bucket_at count xs i
    old_bucket i low = ap (λ h. bucket_of count h) (group_old xs x i low)

    new_bucket : bucket_at count (xs ++ x ∷ []) (length xs) ≡ b
    new_bucket = ap (λ h. bucket_of count h) (group_new xs x) ∙ sym at

    -- a founder before the message
    was : (k : ℕ) → k < length xs → founder_at new k ≡ k → founder_at links k ≡ k
    was k low own = sym (m.founder_old k low) ∙ own

    still : (k : ℕ) → k < length xs → founder_at links k ≡ k → founder_at new k ≡ k
    still k low own = m.founder_old k low ∙ own

    old_earlier_is : (i : ℕ) → i < length xs → founder_at new i ≡ i → (earlier_at new i ≡ NONE → ⊥) → (earlier_at new i < i) × (founder_at new (earlier_at new i) ≡ earlier_at new i) × (bucket_at count (xs ++ x ∷ []) (earlier_at new i) ≡ bucket_at count (xs ++ x ∷ []) i)
    old_earlier_is i low own some =
        let e : earlier_at new i ≡ earlier_at links i = m.earlier_old i low in
        let step = ch.earlier_is i low (was i low own) (λ none. some (e ∙ none)) in
        let less = step.0 in
        let under : earlier_at links i < length xs = omega arith in
        subst (λ k. (k < i) × (founder_at new k ≡ k) × (bucket_at count (xs ++ x ∷ []) k ≡ bucket_at count (xs ++ x ∷ []) i)) (sym e)
        (step.0, still (earlier_at links i) under step.1, old_bucket (earlier_at links i) under ∙ (step.2 ∙ sym (old_bucket i low)))

    old_earlier_high : (i j : ℕ) → i < length xs → founder_at new i ≡ i → founder_at new j ≡ j → bucket_at count (xs ++ x ∷ []) j ≡ bucket_at count (xs ++ x ∷ []) i → j < i → (j ≤ earlier_at new i) × (earlier_at new i < i)
    old_earlier_high i j low own ownj same less =
        let lj : j < length xs = omega arith in
        subst (λ k. (j ≤ k) × (k < i)) (sym (m.earlier_old i low))
        (ch.earlier_high i j low (was i low own) (was j lj ownj) (sym (old_bucket j lj) ∙ (same ∙ old_bucket i low)) less)

    old_bucket_is : (c : ℕ) → c < count → (slice_index buckets c ≡ NONE → ⊥) → (slice_index buckets c < length (xs ++ x ∷ [])) × (founder_at new (slice_index buckets c) ≡ slice_index buckets c) × (bucket_at count (xs ++ x ∷ []) (slice_index buckets c) ≡ c)
    old_bucket_is c low some =
        let step = ch.bucket_is c low some in
        let under = step.0 in
        (let s = size in omega arith, still (slice_index buckets c) step.0 step.1, old_bucket (slice_index buckets c) step.0 ∙ step.2)

    old_bucket_high : (j : ℕ) → j < length xs → founder_at new j ≡ j → (j ≤ slice_index buckets (bucket_at count (xs ++ x ∷ []) j)) × (slice_index buckets (bucket_at count (xs ++ x ∷ []) j) < length (xs ++ x ∷ []))
    old_bucket_high j low own =
        let step = ch.bucket_high j low (was j low own) in
        let under = step.1 in
        subst (λ c. (j ≤ slice_index buckets c) × (slice_index buckets c < length (xs ++ x ∷ []))) (sym (old_bucket j low)) (step.0, (let s = size in omega arith))

    joins : (f ≡ length xs → ⊥) → IsChained count (xs ++ x ∷ []) new buckets
    joins other =
        let s = size in
        let never : (k : ℕ) → k < length (xs ++ x ∷ []) → founder_at new k ≡ k → k < length xs = λ k h own. elim (cases_lt k (length xs)) [
          | inl low ↦ low
          | inr high ↦ (let e : k ≡ length xs = omega arith in absurd (other (sym m.founder_new ∙ (ap (λ i. founder_at new i) (sym e) ∙ (own ∙ e)))))
        ] in
        record {
          sized = ch.sized;
          some = ch.some;
          bucket_is = old_bucket_is;
          bucket_high = λ j h own. old_bucket_high j (never j h own) own;
          earlier_is = λ i h own some. old_earlier_is i (never i h own) own some;
          earlier_high = λ i j h own ownj same less. old_earlier_high i j (never i h own) own ownj same less;
        }

    founds : f ≡ length xs → IsChained count (xs ++ x ∷ []) new (set buckets b (length xs))
    founds own =
        let s = size in
        let n = length xs in
        let here : slice_index (set buckets b n) b ≡ n = get_or-set_same buckets b n 0 (let z = ch.sized in omega arith) in
        let founder : founder_at new n ≡ n = m.founder_new ∙ own in
        record {
          sized = length-set buckets b n ∙ ch.sized;
          some = ch.some;
          bucket_is = λ c h some. elim (cases_eq c b) [
            | inl same ↦
                (let to : slice_index (set buckets b n) c ≡ n = ap (λ k. slice_index (set buckets b n) k) same ∙ here in
                subst (λ k. (k < length (xs ++ x ∷ [])) × (founder_at new k ≡ k) × (bucket_at count (xs ++ x ∷ []) k ≡ c)) (sym to) (omega arith, founder, new_bucket ∙ sym same))
            | inr apart ↦
                (let to : slice_index (set buckets b n) c ≡ slice_index buckets c = get_or-set_other buckets b c n 0 apart in
                subst (λ k. (k < length (xs ++ x ∷ [])) × (founder_at new k ≡ k) × (bucket_at count (xs ++ x ∷ []) k ≡ c)) (sym to) (old_bucket_is c h (λ none. some (to ∙ none))))
          ];
          bucket_high = λ j h ownj. elim (cases_lt j n) [
            | inl low ↦ elim (cases_eq (bucket_at count (xs ++ x ∷ []) j) b) [
              | inl same ↦
                  (let to : slice_index (set buckets b n) (bucket_at count (xs ++ x ∷ []) j) ≡ n = ap (λ k. slice_index (set buckets b n) k) same ∙ here in
                  subst (λ k. (j ≤ k) × (k < length (xs ++ x ∷ []))) (sym to) (omega arith, omega arith))
              | inr apart ↦
                  (let to : slice_index (set buckets b n) (bucket_at count (xs ++ x ∷ []) j) ≡ slice_index buckets (bucket_at count (xs ++ x ∷ []) j) = get_or-set_other buckets b (bucket_at count (xs ++ x ∷ []) j) n 0 apart in
                  subst (λ k. (j ≤ k) × (k < length (xs ++ x ∷ []))) (sym to) (old_bucket_high j low ownj))
            ]
            | inr high ↦
                (let e : j ≡ n = omega arith in
                let to : slice_index (set buckets b n) (bucket_at count (xs ++ x ∷ []) j) ≡ n = ap (λ k. slice_index (set buckets b n) (bucket_at count (xs ++ x ∷ []) k)) e ∙ (ap (λ k. slice_index (set buckets b n) k) new_bucket ∙ here) in
                subst (λ k. (j ≤ k) × (k < length (xs ++ x ∷ []))) (sym to) (omega arith, omega arith))
          ];
          earlier_is = λ i h owni some. elim (cases_lt i n) [
            | inl low ↦ old_earlier_is i low owni some
            | inr high ↦
                (let e : i ≡ n = omega arith in
                let to : earlier_at new i ≡ slice_index buckets b = ap (λ k. earlier_at new k) e ∙ m.earlier_new in
                let step = ch.bucket_is b within (λ none. some (to ∙ none)) in
                let under = step.0 in
                subst (λ k. (k < i) × (founder_at new k ≡ k) × (bucket_at count (xs ++ x ∷ []) k ≡ bucket_at count (xs ++ x ∷ []) i)) (sym to)
                (omega arith, still (slice_index buckets b) step.0 step.1, old_bucket (slice_index buckets b) step.0 ∙ (step.2 ∙ sym (ap (λ k. bucket_at count (xs ++ x ∷ []) k) e ∙ new_bucket))))
          ];
          earlier_high = λ i j h owni ownj same less. elim (cases_lt i n) [
            | inl low ↦ old_earlier_high i j low owni ownj same less
            | inr high ↦
                (let e : i ≡ n = omega arith in
                let lj : j < n = omega arith in
                let to : earlier_at new i ≡ slice_index buckets b = ap (λ k. earlier_at new k) e ∙ m.earlier_new in
                let bj : bucket_at count xs j ≡ b = sym (old_bucket j lj) ∙ (same ∙ (ap (λ k. bucket_at count (xs ++ x ∷ []) k) e ∙ new_bucket)) in
                let step = subst (λ c. (j ≤ slice_index buckets c) × (slice_index buckets c < n)) bj (ch.bucket_high j lj (was j lj ownj)) in
                let under = step.1 in
                subst (λ k. (j ≤ k) × (k < i)) (sym to) (step.0, omega arith))
          ];
        }

-- a founder that was found is that of each message of the group
pub found_same : (fifo : Bool) (xs : List Stored) (links : List Link) (g : Option (List ℕ)) (r : ℕ) → IsFounded fifo xs links → fifo ≡ true → (r < length xs) × (founder_at links r ≡ r) × (is_group (group_at xs r) g ≡ true) → (i : ℕ) → i < length xs → (fifo && is_group (group_at xs i) g) ≡ (founder_at links i == r)
found_same fifo xs links g r fd on found i low =
    let named : group_at xs r ≡ g = group_same (group_at xs r) g found.2 in
    elim (cases_eq i r) [
      | inl here ↦ ap₂ (λ (a b : Bool). a && b) on (ap (λ k. is_group (group_at xs k) g) here ∙ found.2) ∙ sym (eq-eqb (founder_at links i) r (ap (λ k. founder_at links k) here ∙ found.1))
      | inr other ↦ ap (λ h. fifo && is_group (group_at xs i) h) (sym named) ∙ (fd.same i r low found.0 other ∙ ap (λ k. founder_at links i == k) found.1)
    ]
