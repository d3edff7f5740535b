-- Messages deleted one after another, and how many are.
use Rattle.std.proofs.Common.{◌≡◌, ℕ, zero, suc, ◌+◌, ◌<◌, ◌≤◌, Bool, true, false, not, cond, ◌||◌, List, [], ◌∷◌, ◌++◌, length, take, get_or, refl, sym, ap, ap₂, ◌∙◌, arith}
use Rattle.std.specs.Prelude.{◌==◌, slice_get, option_map, unwrap_or, count_by}
use Rattle.std.specs.List.{All}
use Rattle.std.proofs.lemmas.List.{take_more, take_all}
use Rattle.std.proofs.lemmas.List.Elements.{All-get_or}
use Rattle.std.proofs.lemmas.List.Sums.{sum_by-cons, count_by-le-length}
use Rattle.std.proofs.lemmas.List.Folds.{list_any-append}
use Rattle.std.proofs.lemmas.Bool.{or_from, or_left, ne_eqb, eq-eqb, cond-true, cond-false}
use Rattle.esm_model.specs.Entries.{holds}
use Rattle.esm_queue_model.specs.declared.stored.Stored.{Stored}
use Rattle.esm_queue_model.specs.Queue.{QueueState, changed_from, deleted_once, after_deletion, is_deleted_at}
use Rattle.esm_queue.proofs.Changing.{length-changed_from, changed_from-none, changed_from-apart}
use Rattle.esm_queue_core.specs.Next.{deleted_number}

twice : (a b : Bool) (x : Stored) → cond (a || (b || false)) (deleted_once x) x ≡ cond (b || false) (deleted_once (cond a (deleted_once x) x)) (cond a (deleted_once x) x)
twice true true x = refl
twice true false x = refl
twice false true x = refl
twice false false x = refl

deleted_then : (places : List ℕ) (p k : ℕ) (xs : List Stored) → changed_from deleted_once (places ++ p ∷ []) k xs ≡ changed_from deleted_once (p ∷ []) k (changed_from deleted_once places k xs)
deleted_then places p k [] = refl
deleted_then places p k (x ∷ xs) =
    ap₂ (λ (y : Stored) (ys : List Stored). y ∷ ys)
    (ap (λ (b : Bool). cond b (deleted_once x) x) (list_any-append (λ i. i == k) places (p ∷ [])) ∙ twice (holds places k) (p == k) x)
    (deleted_then places p (k + 1) xs)

-- one more place
pub deletion_more : (q : QueueState) (places : List ℕ) (i : ℕ) → i < length places → after_deletion (take (i + 1) places) q ≡ after_deletion (get_or places i 0 ∷ []) (after_deletion (take i places) q)
deletion_more q places i l =
    ap (λ (ps : List ℕ). after_deletion ps q) (take_more places i 0 l)
    ∙ ap (λ (xs : List Stored). record { fifo = q.fifo; visibility = q.visibility; messages = xs }) (deleted_then (take i places) (get_or places i 0) 0 q.messages)

-- how many are deleted

abbrev gone : Stored → Bool
gone x = x.deleted

abbrev gone_in : List Stored → ℕ → Bool
gone_in xs i = unwrap_or (option_map gone (slice_get xs i)) false

first_counts : (x : Stored) (xs : List Stored) → count_by gone (x ∷ xs) ≡ cond x.deleted 1 0 + count_by gone xs
first_counts x xs = sum_by-cons (λ (y : Stored). cond (gone y) 1 0) x xs

one_or_none : (b : Bool) (n a c : ℕ) → a ≡ 1 + n → c ≡ cond b 1 0 + n → a ≡ c + cond b 0 1
one_or_none true n a c new old = omega arith
one_or_none false n a c new old = omega arith

carried : (a b c d e t : ℕ) → a ≡ t + b → c ≡ t + d → b ≡ d + e → a ≡ c + e
carried a b c d e t new old rest = omega arith

deleted_counts : (i k : ℕ) (xs : List Stored) → i < length xs → count_by gone (changed_from deleted_once ((k + i) ∷ []) k xs) ≡ count_by gone xs + cond (gone_in xs i) 0 1
deleted_counts i k [] l = absurd (omega arith)
deleted_counts zero k (x ∷ xs) l =
    let at : k + 0 ≡ k = omega arith in
    let tail : changed_from deleted_once (k ∷ []) (k + 1) xs ≡ xs = changed_from-apart deleted_once [] k (k + 1) xs (omega arith) ∙ changed_from-none deleted_once (k + 1) xs in
    let here : holds (k ∷ []) k ≡ true = or_left (k == k) false (eq-eqb k k refl) in
    let same : changed_from deleted_once (k ∷ []) k (x ∷ xs) ≡ deleted_once x ∷ xs = ap₂ (λ (y : Stored) (ys : List Stored). y ∷ ys) (cond-true (holds (k ∷ []) k) (deleted_once x) x here) tail in
    ap (λ (p : ℕ). count_by gone (changed_from deleted_once (p ∷ []) k (x ∷ xs))) at
    ∙ (ap (λ (ys : List Stored). count_by gone ys) same
    ∙ one_or_none x.deleted (count_by gone xs) (count_by gone (deleted_once x ∷ xs)) (count_by gone (x ∷ xs)) (first_counts (deleted_once x) xs) (first_counts x xs))
deleted_counts (suc i) k (x ∷ xs) l =
    let at : k + suc i ≡ (k + 1) + i = omega arith in
    let ys = changed_from deleted_once ((k + suc i) ∷ []) (k + 1) xs in
    let other : holds ((k + suc i) ∷ []) k ≡ false = or_from (k + suc i == k) false (ne_eqb (k + suc i) k (λ e. omega arith)) refl in
    let rest : count_by gone ys ≡ count_by gone xs + cond (gone_in xs i) 0 1 = ap (λ (p : ℕ). count_by gone (changed_from deleted_once (p ∷ []) (k + 1) xs)) at ∙ deleted_counts i (k + 1) xs (omega arith) in
    let same : changed_from deleted_once ((k + suc i) ∷ []) k (x ∷ xs) ≡ x ∷ ys = ap (λ (y : Stored). y ∷ ys) (cond-false (holds ((k + suc i) ∷ []) k) (deleted_once x) x other) in
    ap (λ (zs : List Stored). count_by gone zs) same
    ∙ carried (count_by gone (x ∷ ys)) (count_by gone ys) (count_by gone (x ∷ xs)) (count_by gone xs) (cond (gone_in xs i) 0 1) (cond x.deleted 1 0) (first_counts x ys) (first_counts x xs) rest

-- one more where it was not before
pub deleted_one : (q : QueueState) (p : ℕ) → p < length q.messages → deleted_number (after_deletion (p ∷ []) q) ≡ deleted_number q + cond (is_deleted_at q p) 0 1
deleted_one q p l =
    let at : p ≡ 0 + p = omega arith in
    ap (λ (j : ℕ). count_by gone (changed_from deleted_once (j ∷ []) 0 q.messages)) at ∙ deleted_counts p 0 q.messages l

-- a loop that deletes the messages at the places, one after another
pub record HasDeleted (init : QueueState) (places : List ℕ) (i : ℕ) (q : QueueState) (n : ℕ) : Type 0 where
  pub state : q ≡ after_deletion (take i places) init
  pub sized : length q.messages ≡ length init.messages
  pub count : deleted_number q ≡ deleted_number init + n

pub deleted_none : (q : QueueState) (places : List ℕ) → HasDeleted q places 0 q 0
deleted_none q places = record {
  state = ap (λ (xs : List Stored). record { fifo = q.fifo; visibility = q.visibility; messages = xs }) (sym (changed_from-none deleted_once 0 q.messages));
  sized = refl;
  count = omega arith;
}

counted : (b : Bool) (a n m n' : ℕ) → m ≡ a + n + cond b 0 1 → n' ≡ n + cond (not b) 1 0 → m ≡ a + n'
counted true a n m n' new more = omega arith
counted false a n m n' new more = omega arith

pub deleted_more : (init q new : QueueState) (places : List ℕ) (i n n' : ℕ) (b : Bool) → i < length places → All (λ j. j < length init.messages) places → HasDeleted init places i q n
    → new ≡ after_deletion (get_or places i 0 ∷ []) q → b ≡ not (is_deleted_at q (get_or places i 0)) → n' ≡ n + cond b 1 0 → HasDeleted init places (i + 1) new n'
deleted_more init q new places i n n' b l all so_far is answer more =
    let p = get_or places i 0 in
    let within : p < length init.messages = All-get_or (λ j. j < length init.messages) places i 0 l all in
    let sized = so_far.sized in
    let low : p < length q.messages = omega arith in
    record {
      state = is ∙ (ap (λ (r : QueueState). after_deletion (p ∷ []) r) so_far.state ∙ sym (deletion_more init places i l));
      sized = ap (λ (r : QueueState). length r.messages) is ∙ (length-changed_from deleted_once (p ∷ []) 0 q.messages ∙ sized);
      count = counted (is_deleted_at q p) (deleted_number init) n (deleted_number new) n'
          (ap deleted_number is ∙ (deleted_one q p low ∙ ap (λ (c : ℕ). c + cond (is_deleted_at q p) 0 1) so_far.count))
          (more ∙ ap (λ (c : Bool). n + cond c 1 0) answer);
    }

-- so many fit 32 bits
pub deleted_few : (init q : QueueState) (places : List ℕ) (i n : ℕ) → HasDeleted init places i q n → n ≤ length init.messages
deleted_few init q places i n so_far =
    let most = count_by-le-length gone q.messages in
    let sized = so_far.sized in
    let count = so_far.count in
    omega (arith, most, sized, count)

pub deleted_all : (init q : QueueState) (places : List ℕ) (i n : ℕ) → HasDeleted init places i q n → length places ≤ i → q ≡ after_deletion places init
deleted_all init q places i n so_far all = so_far.state ∙ ap (λ (ps : List ℕ). after_deletion ps init) (take_all i places all)
