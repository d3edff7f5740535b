-- Messages that are changed at some places.
use Rattle.std.proofs.Common.{◌≡◌, ℕ, zero, suc, ◌+◌, ◌<◌, ◌≤◌, Bool, true, false, cond, ◌||◌, List, [], ◌∷◌, ◌++◌, length, get_or, set, take, drop, refl, sym, ap, ap₂, ◌∙◌, inl, inr, arith, eqb, Option, Some, None}
use Rattle.std.specs.Prelude.{slice_get, option_map, filter_map, All}
use Rattle.std.specs.List.{cons_option}
use Rattle.std.proofs.lemmas.List.{take_more}
use Rattle.std.proofs.lemmas.List.Elements.{filter_map-append, All-get_or}
use Rattle.std.proofs.lemmas.List.Folds.{list_any-append}
use Rattle.std.proofs.lemmas.Bool.{cases_Bool, or_from, or_left, or_right, ne_eqb, eq-eqb, cond-false}
use Rattle.std.proofs.lemmas.Option.{slice_get-get_or}
use Rattle.esm_model.specs.Entries.{holds}
use Rattle.esm_queue_model.specs.declared.stored.Stored.{Stored}
use Rattle.esm_model.specs.declared.received.Received.{Received}
use Rattle.esm_queue_model.specs.Queue.{changed_from, seen_at, received_once}
use Rattle.esm_queue.specs.Receiving.{IsRising, received_at}

pub holds-other : (places : List ℕ) (p k : ℕ) → (p ≡ k → ⊥) → holds (places ++ p ∷ []) k ≡ holds places k
holds-other places p k ne =
    list_any-append (λ i. eqb i k) places (p ∷ [])
    ∙ elim (cases_Bool (holds places k)) [
      | inl is ↦ or_left (holds places k) (eqb p k || false) is ∙ sym is
      | inr never ↦ or_from (holds places k) (eqb p k || false) never (or_from (eqb p k) false (ne_eqb p k ne) refl) ∙ sym never
    ]

pub holds-last : (places : List ℕ) (p : ℕ) → holds (places ++ p ∷ []) p ≡ true
holds-last places p = list_any-append (λ i. eqb i p) places (p ∷ []) ∙ or_right (holds places p) (eqb p p || false) (or_left (eqb p p) false (eq-eqb p p refl))

-- what stands at a place
pub slice_get-changed_from : (f : Stored → Stored) (places : List ℕ) (k : ℕ) (xs : List Stored) (i : ℕ) → slice_get (changed_from f places k xs) i ≡ option_map (λ (x : Stored). cond (holds places (k + i)) (f x) x) (slice_get xs i)
slice_get-changed_from f places k [] i = refl
slice_get-changed_from f places k (x ∷ xs) zero = let e : k + 0 ≡ k = omega arith in rw e refl
slice_get-changed_from f places k (x ∷ xs) (suc i) = let e : k + suc i ≡ (k + 1) + i = omega arith in rw e (slice_get-changed_from f places (k + 1) xs i)

pub length-changed_from : (f : Stored → Stored) (places : List ℕ) (k : ℕ) (xs : List Stored) → length (changed_from f places k xs) ≡ length xs
length-changed_from f places k [] = refl
length-changed_from f places k (x ∷ xs) = ap (λ n. suc n) (length-changed_from f places (k + 1) xs)

pub get_or-changed_from : (f : Stored → Stored) (places : List ℕ) (k : ℕ) (xs : List Stored) (i : ℕ) (d : Stored) → holds places (k + i) ≡ false → get_or (changed_from f places k xs) i d ≡ get_or xs i d
get_or-changed_from f places k [] i d out = refl
get_or-changed_from f places k (x ∷ xs) zero d out = let e : k + 0 ≡ k = omega arith in cond-false (holds places k) (f x) x (rw e at out)
get_or-changed_from f places k (x ∷ xs) (suc i) d out = let e : k + suc i ≡ (k + 1) + i = omega arith in get_or-changed_from f places (k + 1) xs i d (rw e at out)

-- nothing is changed at no place
pub changed_from-none : (f : Stored → Stored) (k : ℕ) (xs : List Stored) → changed_from f [] k xs ≡ xs
changed_from-none f k [] = refl
changed_from-none f k (x ∷ xs) = ap (λ ys. x ∷ ys) (changed_from-none f (k + 1) xs)

pub changed_from-apart : (f : Stored → Stored) (places : List ℕ) (p k : ℕ) (xs : List Stored) → p < k → changed_from f (places ++ p ∷ []) k xs ≡ changed_from f places k xs
changed_from-apart f places p k [] below = refl
changed_from-apart f places p k (x ∷ xs) below =
    rw (holds-other places p k (λ e. omega arith)) (ap (λ ys. cond (holds places k) (f x) x ∷ ys) (changed_from-apart f places p (k + 1) xs (omega arith)))

-- one more place
pub changed_from-push : (f : Stored → Stored) (places : List ℕ) (p i k : ℕ) (xs : List Stored) (d : Stored) → holds places p ≡ false → p ≡ k + i → i < length xs → changed_from f (places ++ p ∷ []) k xs ≡ set (changed_from f places k xs) i (f (get_or xs i d))
changed_from-push f places p i k [] d out at within = absurd (omega arith)
changed_from-push f places p zero k (x ∷ xs) d out at within =
    let e : p ≡ k = omega arith in
    let last : holds (places ++ p ∷ []) k ≡ true = ap (λ j. holds (places ++ p ∷ []) j) (sym e) ∙ holds-last places p in
    rw (last, changed_from-apart f places p (k + 1) xs (omega arith)) refl
changed_from-push f places p (suc i) k (x ∷ xs) d out at within =
    rw (holds-other places p k (λ e. omega arith)) (ap (λ ys. cond (holds places k) (f x) x ∷ ys) (changed_from-push f places p i (k + 1) xs d out (omega arith) (omega arith)))

-- places that rise

pub rising_at : (low : ℕ) (places : List ℕ) (i d : ℕ) → IsRising low places → i < length places → low ≤ get_or places i d
rising_at low [] i d rising within = absurd (omega arith)
rising_at low (p ∷ places) zero d rising within = rising.0
rising_at low (p ∷ places) (suc i) d rising within = let above = rising_at (p + 1) places i d rising.1 (omega arith) in let first = rising.0 in omega arith

pub rising_apart : (low : ℕ) (places : List ℕ) (i d : ℕ) → IsRising low places → i < length places → holds (take i places) (get_or places i d) ≡ false
rising_apart low [] i d rising within = absurd (omega arith)
rising_apart low (p ∷ places) zero d rising within = refl
rising_apart low (p ∷ places) (suc i) d rising within =
    let above = rising_at (p + 1) places i d rising.1 (omega arith) in
    or_from (eqb p (get_or places i d)) (holds (take i places) (get_or places i d)) (ne_eqb p (get_or places i d) (λ e. omega arith)) (rising_apart (p + 1) places i d rising.1 (omega arith))

-- one more item that gives something
pub filter_map_more : {X Y : Type 0} (h : X → Option Y) (xs : List X) (i : ℕ) (d : X) (y : Y) → i < length xs → h (get_or xs i d) ≡ Some y → filter_map h (take (i + 1) xs) ≡ filter_map h (take i xs) ++ y ∷ []
filter_map_more h xs i d y within gives =
    rw (take_more xs i d within) (filter_map-append h (take i xs) (get_or xs i d ∷ []) ∙ rw gives refl)

-- the next of the places still has what it had
pub kept_at : (f : Stored → Stored) (places : List ℕ) (n : ℕ) (messages init : List Stored) (d : Stored) → IsRising 0 places → n < length places → messages ≡ changed_from f (take n places) 0 init → get_or messages (get_or places n 0) d ≡ get_or init (get_or places n 0) d
kept_at f places n messages init d rising within so_far =
    let p = get_or places n 0 in
    let out : holds (take n places) p ≡ false = rising_apart 0 places n 0 rising within in
    let at : 0 + p ≡ p = omega arith in
    ap (λ (ms : List Stored). get_or ms p d) so_far ∙ get_or-changed_from f (take n places) 0 init p d (ap (λ j. holds (take n places) j) at ∙ out)

-- a loop's step over the places
pub marked_more : (f : Stored → Stored) (places : List ℕ) (n : ℕ) (messages init : List Stored) (d new : Stored) → IsRising 0 places → n < length places → All (λ i. i < length init) places → messages ≡ changed_from f (take n places) 0 init → new ≡ f (get_or messages (get_or places n 0) d) → set messages (get_or places n 0) new ≡ changed_from f (take (n + 1) places) 0 init
marked_more f places n messages init d new rising within inside so_far change =
    let p = get_or places n 0 in
    let low : p < length init = All-get_or (λ i. i < length init) places n 0 within inside in
    let out : holds (take n places) p ≡ false = rising_apart 0 places n 0 rising within in
    let at : 0 + p ≡ p = omega arith in
    let kept : get_or (changed_from f (take n places) 0 init) p d ≡ get_or init p d = get_or-changed_from f (take n places) 0 init p d (ap (λ j. holds (take n places) j) at ∙ out) in
    let value : new ≡ f (get_or init p d) = change ∙ ap f (ap (λ (ms : List Stored). get_or ms p d) so_far ∙ kept) in
    ap₂ (λ (ms : List Stored) (x : Stored). set ms p x) so_far value
    ∙ (sym (changed_from-push f (take n places) p p 0 init d out (sym at) low)
    ∙ ap (λ (ps : List ℕ). changed_from f ps 0 init) (sym (take_more places n 0 within)))

pub copied_more : (m : ℕ) (messages : List Stored) (places : List ℕ) (n : ℕ) (given after : List Received) (r : Received) (d : Stored) → n < length places → All (λ i. i < length messages) places → given ≡ filter_map (received_at m messages) (take n places) → after ≡ given ++ r ∷ [] → d ≡ get_or messages (get_or places n 0) d → r ≡ seen_at (get_or places n 0) (received_once m d) → after ≡ filter_map (received_at m messages) (take (n + 1) places)
copied_more m messages places n given after r d within inside so_far pushed here value =
    let p = get_or places n 0 in
    let h : ℕ → Option Received = received_at m messages in
    let low : p < length messages = All-get_or (λ i. i < length messages) places n 0 within inside in
    let seen : h p ≡ Some r = ap (λ (o : Option Stored). option_map (λ (x : Stored). seen_at p (received_once m x)) o) (slice_get-get_or messages p d low ∙ ap Some (sym here)) ∙ ap Some (sym value) in
    pushed ∙ (ap (λ (rs : List Received). rs ++ r ∷ []) so_far ∙ sym (filter_map_more h places n 0 r within seen))

-- one message is changed
pub changed_one : (f : Stored → Stored) (xs : List Stored) (i : ℕ) (x : Stored) → i < length xs → x ≡ get_or xs i x → set xs i (f x) ≡ changed_from f (i ∷ []) 0 xs
changed_one f xs i x within here =
    let at : i ≡ 0 + i = omega arith in
    ap₂ (λ (ys : List Stored) (y : Stored). set ys i y) (sym (changed_from-none f 0 xs)) (ap f here)
    ∙ sym (changed_from-push f [] i i 0 xs x refl at within)

-- a message as its receiver sees it after a receipt is what the queue then tells of it
pub seen_after : (m : ℕ) (xs : List Stored) (all places : List ℕ) → ((i : ℕ) → holds places i ≡ true → holds all i ≡ true) → filter_map (received_at m xs) places ≡ filter_map (λ i. option_map (seen_at i) (slice_get (changed_from (received_once m) all 0 xs) i)) places
seen_after m xs all [] inside = refl
seen_after m xs all (i ∷ places) inside =
    let rest = seen_after m xs all places (λ j h. inside j (or_right (eqb i j) (holds places j) h)) in
    let here : holds all (0 + i) ≡ true = (let e : 0 + i ≡ i = omega arith in rw e (inside i (or_left (eqb i i) (holds places i) (eq-eqb i i refl)))) in
    let now = ap (λ (o : Option Stored). option_map (seen_at i) o) (slice_get-changed_from (received_once m) all 0 xs i) ∙ seen_in i (holds all (0 + i)) here (slice_get xs i) in
    ap₂ (λ (o : Option Received) (rs : List Received). cons_option o rs) (sym now) rest
  where
    seen_in : (i : ℕ) (b : Bool) → b ≡ true → (o : Option Stored) → option_map (seen_at i) (option_map (λ (x : Stored). cond b (received_once m x) x) o) ≡ option_map (λ (x : Stored). seen_at i (received_once m x)) o
    seen_in i b is None = refl
    seen_in i b is (Some x) = rw is refl

-- what is written through a whole slice of a vector
pub written : {X : Type 0} (n : ℕ) (new old : List X) → length new ≡ length old → n ≡ length old → take n (new ++ drop (length new) old) ≡ new
written n new old same all = ap (λ k. take k (new ++ drop (length new) old)) (all ∙ sym same) ∙ seam new (drop (length new) old)
  where
    seam : {X : Type 0} (xs ys : List X) → take (length xs) (xs ++ ys) ≡ xs
    seam [] ys = refl
    seam (x ∷ xs) ys = ap (λ zs. x ∷ zs) (seam xs ys)
