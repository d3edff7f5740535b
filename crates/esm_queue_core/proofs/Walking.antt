-- A walk over the places of a batch beside its failed positions, and over the ids of messages.
use Rattle.std.proofs.Common.{◌≡◌, ℕ, zero, suc, ◌+◌, ◌<◌, ◌≤◌, Bool, true, false, cond, ◌||◌, List, [], ◌∷◌, ◌++◌, length, take, drop, map, get_or, refl, sym, ap, ap₂, ◌∙◌, subst, inl, inr, arith, append_assoc, Option, Some}
use Rattle.std.specs.Prelude.{◌==◌, filter, filter_map, slice_get}
use Rattle.std.specs.List.{cons_option}
use Rattle.std.proofs.Math.Seq.{drop-cons}
use Rattle.std.proofs.lemmas.List.{take_more, map-append, append-nil}
use Rattle.std.proofs.lemmas.List.Elements.{filter_map-append}
use Rattle.std.proofs.lemmas.Bool.{cases_lt, or_left, or_from, eq-eqb, ne_eqb}
use Rattle.esm_model.specs.declared.item.Message.{Message}
use Rattle.esm_model.specs.Entries.{holds}
use Rattle.esm_journal_record.specs.EntryPayload.{ids_at}
use Rattle.esm_queue_model.specs.QueueStep.{not_failed}
use Rattle.esm_queue_core.specs.Kept.{IsRisingFrom}

-- so far the walk has gone: to position k, past so many of the failed ones
pub record IsWalked (alive : ℕ → Bool) (failed places kept : List ℕ) (passed k : ℕ) : Type 0 where
  pub kept_is : kept ++ filter alive (not_failed failed k (drop k places)) ≡ filter alive (not_failed failed 0 places)
  pub rising : IsRisingFrom k (drop passed failed)
  pub same : (i : ℕ) → k ≤ i → holds failed i ≡ holds (drop passed failed) i

next_at : (xs : List ℕ) (i : ℕ) → i < length xs → drop i xs ≡ get_or xs i 0 ∷ drop (i + 1) xs
next_at xs i l = let e : suc i ≡ i + 1 = omega arith in drop-cons xs i 0 l ∙ ap (λ n. get_or xs i 0 ∷ drop n xs) e

pub walk_begins : (alive : ℕ → Bool) (failed places : List ℕ) → IsRisingFrom 0 failed → IsWalked alive failed places [] 0 0
walk_begins alive failed places rising = record { kept_is = refl; rising = rising; same = λ i le. refl }

drop_end : (k : ℕ) (xs : List ℕ) → length xs ≤ k → drop k xs ≡ []
drop_end zero [] l = refl
drop_end zero (x ∷ xs) l = absurd (omega arith)
drop_end (suc k) [] l = refl
drop_end (suc k) (x ∷ xs) l = drop_end k xs (omega arith)

pub walk_ends : (alive : ℕ → Bool) (failed places kept : List ℕ) (passed k : ℕ) → length places ≤ k → IsWalked alive failed places kept passed k → kept ≡ filter alive (not_failed failed 0 places)
walk_ends alive failed places kept passed k l w =
    sym (append-nil kept) ∙ (ap (λ (xs : List ℕ). kept ++ filter alive (not_failed failed k xs)) (sym (drop_end k places l)) ∙ w.kept_is)

-- the position is the next failed one
pub walk_failed : (alive : ℕ → Bool) (failed places kept : List ℕ) (passed k : ℕ) → k < length places → passed < length failed → get_or failed passed 0 ≡ k → IsWalked alive failed places kept passed k → IsWalked alive failed places kept (passed + 1) (k + 1)
walk_failed alive failed places kept passed k l l' at w =
    let front : drop passed failed ≡ k ∷ drop (passed + 1) failed = next_at failed passed l' ∙ ap (λ n. n ∷ drop (passed + 1) failed) at in
    let there : holds failed k ≡ true = w.same k (omega arith) ∙ (ap (λ (xs : List ℕ). holds xs k) front ∙ or_left (k == k) (holds (drop (passed + 1) failed) k) (eq-eqb k k refl)) in
    record {
      kept_is = ap (λ (b : Bool). kept ++ filter alive (cond b (not_failed failed (k + 1) (drop (k + 1) places)) (get_or places k 0 ∷ not_failed failed (k + 1) (drop (k + 1) places)))) (sym there)
          ∙ (ap (λ (xs : List ℕ). kept ++ filter alive (not_failed failed k xs)) (sym (next_at places k l)) ∙ w.kept_is);
      rising = (subst (IsRisingFrom k) front w.rising).1;
      same = λ i le. w.same i (omega arith) ∙ (ap (λ (xs : List ℕ). holds xs i) front ∙ ap (λ (b : Bool). b || holds (drop (passed + 1) failed) i) (ne_eqb k i (λ e. omega arith)));
    }

-- a list that rises from a later number does not hold the number
not_held : (k low : ℕ) (xs : List ℕ) → k < low → IsRisingFrom low xs → holds xs k ≡ false
not_held k low [] l rising = refl
not_held k low (x ∷ xs) l rising =
    let le = rising.0 in
    or_from (x == k) (holds xs k) (ne_eqb x k (λ e. omega arith)) (not_held k (x + 1) xs (omega arith) rising.1)

-- the position is not the next failed one
pub record IsPassed (failed : List ℕ) (passed k : ℕ) : Type 0 where
  pub not_next : passed < length failed → get_or failed passed 0 ≡ k → ⊥

past_front : (failed xs : List ℕ) (passed k : ℕ) → drop passed failed ≡ xs → IsPassed failed passed k → IsRisingFrom k xs → IsRisingFrom (k + 1) xs × (holds xs k ≡ false)
past_front failed [] passed k is p rising = (tt, refl)
past_front failed (x ∷ xs) passed k is p rising =
    elim (cases_lt passed (length failed)) [
      | inl l ↦
          (let front : x ∷ xs ≡ get_or failed passed 0 ∷ drop (passed + 1) failed = sym is ∙ next_at failed passed l in
          let first : get_or failed passed 0 ≡ x = cc in
          let le = rising.0 in
          let ne : x ≡ k → ⊥ = λ e. p.not_next l (first ∙ e) in
          let low : k < x = omega arith in
          let le' : k + 1 ≤ x = omega arith in
          ((le', rising.1), or_from (x == k) (holds xs k) (ne_eqb x k ne) (not_held k (x + 1) xs (omega arith) rising.1)))
      | inr past ↦ (let clash : [] ≡ x ∷ xs = sym (drop_end passed failed past) ∙ is in absurd (cc))
    ]

step_past : (alive : ℕ → Bool) (failed places kept : List ℕ) (passed k : ℕ) → k < length places → IsPassed failed passed k → IsWalked alive failed places kept passed k
    → (kept ++ filter alive (get_or places k 0 ∷ not_failed failed (k + 1) (drop (k + 1) places)) ≡ filter alive (not_failed failed 0 places)) × IsRisingFrom (k + 1) (drop passed failed)
step_past alive failed places kept passed k l p w =
    let front = past_front failed (drop passed failed) passed k refl p w.rising in
    let out : holds failed k ≡ false = w.same k (omega arith) ∙ front.1 in (
      ap (λ (b : Bool). kept ++ filter alive (cond b (not_failed failed (k + 1) (drop (k + 1) places)) (get_or places k 0 ∷ not_failed failed (k + 1) (drop (k + 1) places)))) (sym out)
          ∙ (ap (λ (xs : List ℕ). kept ++ filter alive (not_failed failed k xs)) (sym (next_at places k l)) ∙ w.kept_is),
      front.0,
    )

pub walk_kept : (alive : ℕ → Bool) (failed places kept kept' : List ℕ) (passed k : ℕ) → k < length places → IsPassed failed passed k → alive (get_or places k 0) ≡ true → kept' ≡ kept ++ get_or places k 0 ∷ [] → IsWalked alive failed places kept passed k → IsWalked alive failed places kept' passed (k + 1)
walk_kept alive failed places kept kept' passed k l p lives is w =
    let s = step_past alive failed places kept passed k l p w in
    let rest = not_failed failed (k + 1) (drop (k + 1) places) in
    record {
      kept_is = ap (λ (xs : List ℕ). xs ++ filter alive rest) is
          ∙ (append_assoc kept (get_or places k 0 ∷ []) (filter alive rest)
          ∙ (ap (λ (b : Bool). kept ++ cond b (get_or places k 0 ∷ filter alive rest) (filter alive rest)) (sym lives) ∙ s.0));
      rising = s.1;
      same = λ i le. w.same i (omega arith);
    }

pub walk_gone : (alive : ℕ → Bool) (failed places kept : List ℕ) (passed k : ℕ) → k < length places → IsPassed failed passed k → alive (get_or places k 0) ≡ false → IsWalked alive failed places kept passed k → IsWalked alive failed places kept passed (k + 1)
walk_gone alive failed places kept passed k l p gone w =
    let s = step_past alive failed places kept passed k l p w in
    let rest = not_failed failed (k + 1) (drop (k + 1) places) in
    record {
      kept_is = ap (λ (b : Bool). kept ++ cond b (get_or places k 0 ∷ filter alive rest) (filter alive rest)) (sym gone) ∙ s.0;
      rising = s.1;
      same = λ i le. w.same i (omega arith);
    }

-- ids

pub ids_more : (messages : List Message) (places : List ℕ) (i : ℕ) (m : Message) (ids ids' : List (List ℕ)) (id : List ℕ) → i < length places → Some m ≡ slice_get messages (get_or places i 0) → id ≡ m.id → ids ≡ ids_at messages (take i places) → ids' ≡ ids ++ id ∷ [] → ids' ≡ ids_at messages (take (i + 1) places)
ids_more messages places i m ids ids' id l at is so_far next =
    let id_of : Message → List ℕ = λ (x : Message). x.id in
    next ∙ (ap₂ (λ (xs : List (List ℕ)) (x : List ℕ). xs ++ x ∷ []) so_far is
    ∙ sym (ap (ids_at messages) (take_more places i 0 l)
    ∙ (ap (map id_of) (filter_map-append (slice_get messages) (take i places) (get_or places i 0 ∷ []))
    ∙ (map-append id_of (filter_map (slice_get messages) (take i places)) (filter_map (slice_get messages) (get_or places i 0 ∷ []))
    ∙ ap (λ (o : Option Message). ids_at messages (take i places) ++ map id_of (cons_option o [])) (sym at)))))
