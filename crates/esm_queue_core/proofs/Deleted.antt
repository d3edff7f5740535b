-- Every message is deleted exactly where as many are deleted as came.
use Rattle.std.proofs.Common.{◌≡◌, ℕ, zero, suc, ◌+◌, ◌<◌, Bool, true, false, not, cond, List, [], ◌∷◌, length, refl, sym, ap, ◌∙◌, inl, inr, arith}
use Rattle.std.specs.Prelude.{slice_get, option_map, unwrap_or, count_by, filter}
use Rattle.std.proofs.lemmas.Bool.{cases_Bool, not_from_true, not_from_false}
use Rattle.std.proofs.lemmas.List.Sums.{sum_by-cons, count_by-le-length}
use Rattle.esm_model.specs.Fates.{below}
use Rattle.esm_model.proofs.Lists.{filter_none}
use Rattle.esm_queue_model.specs.declared.stored.Stored.{Stored}
use Rattle.esm_queue_model.specs.Queue.{QueueState, is_deleted_at}
use Rattle.esm_queue_model.proofs.Places.{In, In-none, In-below, below-In, filter-In}
use Rattle.esm_queue_core.specs.Next.{is_nothing, deleted_number}

abbrev gone : Stored → Bool
gone x = x.deleted

abbrev gone_at : List Stored → ℕ → Bool
gone_at xs i = unwrap_or (option_map gone (slice_get xs i)) false

count_first : (x : Stored) (xs : List Stored) (b : Bool) → x.deleted ≡ b → count_by gone (x ∷ xs) ≡ cond b 1 0 + count_by gone xs
count_first x xs b is = sum_by-cons (λ (y : Stored). cond (gone y) 1 0) x xs ∙ ap (λ (d : Bool). cond d 1 0 + count_by gone xs) is

first_gone : (x : Stored) (xs : List Stored) → x.deleted ≡ true → ((i : ℕ) → i < length xs → gone_at xs i ≡ true) → (i : ℕ) → i < length (x ∷ xs) → gone_at (x ∷ xs) i ≡ true
first_gone x xs is rest zero within = is
first_gone x xs is rest (suc i) within = rest i (omega arith)

-- where as many are deleted as there are, each is
all_gone : (xs : List Stored) → count_by gone xs ≡ length xs → (i : ℕ) → i < length xs → gone_at xs i ≡ true
all_gone [] all i within = absurd (omega arith)
all_gone (x ∷ xs) all i within = elim (cases_Bool x.deleted) [
  | inl is ↦ (let one = count_first x xs true is in first_gone x xs is (all_gone xs (omega (arith, all, one))) i within)
  | inr stays ↦ (let most = count_by-le-length gone xs in let none = count_first x xs false stays in absurd (omega (arith, all, none, most)))
]

-- where fewer are deleted than there are, one is not
one_stays : (xs : List Stored) → count_by gone xs < length xs → (i : ℕ) × (i < length xs) × (gone_at xs i ≡ false)
one_stays [] few = absurd (omega arith)
one_stays (x ∷ xs) few = elim (cases_Bool x.deleted) [
  | inr stays ↦ (0, (omega arith), stays)
  | inl is ↦ (let one = count_first x xs true is in
      let rest = one_stays xs (omega (arith, few, one)) in
      (suc rest.0, (let l = rest.1 in omega arith), rest.2))
]

nothing_with : (places : List ℕ) (i : ℕ) → In places i → is_nothing places ≡ false
nothing_with [] i member = absurd (In-none i member)
nothing_with (p ∷ places) i member = refl

-- the places of the messages that wait
abbrev waiting_in : QueueState → ℕ → List ℕ
waiting_in q n = filter (λ i. not (is_deleted_at q i)) (below n)

pub none_waits : (q : QueueState) (n : ℕ) → length q.messages ≡ n → deleted_number q ≡ n → is_nothing (waiting_in q n) ≡ true
none_waits q n sized all =
    ap is_nothing (filter_none (λ i. not (is_deleted_at q i)) (below n) (λ i member.
    let low = In-below n i member in
    not_from_true (is_deleted_at q i) (all_gone q.messages (all ∙ sym sized) i (omega arith))))

pub one_waits : (q : QueueState) (n : ℕ) → length q.messages ≡ n → (deleted_number q ≡ n → ⊥) → is_nothing (waiting_in q n) ≡ false
one_waits q n sized some =
    let most = count_by-le-length gone q.messages in
    let few : deleted_number q ≡ length q.messages → ⊥ = λ e. some (e ∙ sized) in
    let one = one_stays q.messages (omega arith) in
    let low = one.1 in
    nothing_with (waiting_in q n) one.0 (filter-In (λ i. not (is_deleted_at q i)) (below n) one.0 (below-In n one.0 (omega arith)) (not_from_false (is_deleted_at q one.0) one.2))
