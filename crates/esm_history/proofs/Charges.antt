-- In a legal history each call of a batch has a slot of its own. Only this crate's proofs cite this.
use Rattle.std.proofs.Common.{◌≡◌, ℕ, zero, suc, ◌+◌, ◌*◌, ◌<◌, ◌≤◌, Bool, true, false, List, [], ◌∷◌, ◌++◌, length, refl, sym, ap, ◌∙◌, subst, inl, inr, arith, Option, Some, None, length-append}
use Rattle.std.specs.Prelude.{◌==◌, nat_le, slice_index, if◌then◌else◌}
use Rattle.std.proofs.lemmas.Bool.{cases_Bool, cases_lt, eqb-true, leb-true}
use Rattle.std.proofs.lemmas.Option.{same_Some}
use Rattle.esm_model.specs.declared.limits.TheConstants.{MAX_RETRIES}
use Rattle.esm_model.specs.declared.lane.LaneId.{LaneId}
use Rattle.esm_model.specs.declared.entry.Reply.{Reply}
use Rattle.esm_model.specs.declared.entry.Entry.{Entry}
use Rattle.esm_model.specs.declared.entry.Entry.TheVariants.{Came, Began, Ended, Gave, Tried, Closed, Replayed, Shut}
use Rattle.esm_model.specs.Setting.{Setting, sequences_at}
use Rattle.esm_model.specs.Entries.{Call, came_count, is_running, last_call}
use Rattle.esm_model.specs.Reading.{reading}
use Rattle.esm_model.specs.Ruling.{ruling}
use Rattle.esm_model.specs.Tries.{tries}
use Rattle.esm_model.specs.Step.{Legal}
use Rattle.esm_model.specs.Valid.{none_or}
use Rattle.esm_model.specs.CallBound.{is_not_run, record_count}
use Rattle.esm_history.specs.Completeness.{IsFinite, batch_calls, batch_calls_not_run, batch_was_not_run}
use Rattle.esm_history.proofs.Finite.{Has, Has-left, Has-right, no_longer, removed, removed-length}
use Rattle.esm_history.proofs.Spent.{Slot, slot, slot_from, is_slot, is_slot-refl, outcome, after_end, spent, Charged}
use Rattle.esm_history.proofs.Readings.{end_spends}
use Rattle.esm_history.proofs.Stays.{quiet}
use Rattle.esm_history.proofs.Begins.{begins_batch, begins_final}
use Rattle.esm_history.proofs.Ends.{ends_none, ends_final}
use Rattle.esm_history.proofs.BatchEnds.{ends_batch}

ends : (s : Setting) (r : ℕ) (h : List Entry) (at : LaneId) (reply : Reply) (m : ℕ) (o : Option Call) → s.config.retries ≡ Some r → r ≤ MAX_RETRIES → Legal s (Ended at reply m ∷ h) → last_call h at ≡ o → Charged s r h → Charged s r (Ended at reply m ∷ h)
ends s r h at reply m None finite within legal last was = ends_none s r h at reply m legal last was
ends s r h at reply m (Some call) finite within legal last was = by_closing call.closing refl
  where
    by_closing : (c : Option ℕ) → call.closing ≡ c → Charged s r (Ended at reply m ∷ h)
    by_closing None is = ends_batch s r h at reply m call.places call.moment finite within legal (last ∙ ap (λ (c : Option ℕ). Some (record { places = call.places; closing = c; moment = call.moment })) is) was
    by_closing (Some w) is = ends_final s r h at reply m call.places w call.moment legal (last ∙ ap (λ (c : Option ℕ). Some (record { places = call.places; closing = c; moment = call.moment })) is) was

pub charged : (s : Setting) (r : ℕ) (h : List Entry) → s.config.retries ≡ Some r → r ≤ MAX_RETRIES → Legal s h → Charged s r h
charged s r [] finite within legal = record { apart = tt; meant = λ x has. absurd has; running = λ lane call runs last. cc }
charged s r (Came n first count m ∷ h) finite within legal = quiet s r h (Came n first count m) legal refl (λ lane. refl) (λ lane. refl) (λ n' i. refl) (charged s r h finite within legal.0)
charged s r (Began at places None m ∷ h) finite within legal = begins_batch s r h at places m legal (charged s r h finite within legal.0)
charged s r (Began at places (Some w) m ∷ h) finite within legal = begins_final s r h at places w m legal (charged s r h finite within legal.0)
charged s r (Ended at reply m ∷ h) finite within legal = ends s r h at reply m (last_call h at) finite within legal refl (charged s r h finite within legal.0)
charged s r (Gave by n places f line state m ∷ h) finite within legal = quiet s r h (Gave by n places f line state m) legal refl (λ lane. refl) (λ lane. refl) (λ n' i. refl) (charged s r h finite within legal.0)
charged s r (Tried at places c t m ∷ h) finite within legal = quiet s r h (Tried at places c t m) legal refl (λ lane. refl) (λ lane. refl) (λ n' i. refl) (charged s r h finite within legal.0)
charged s r (Closed at w m ∷ h) finite within legal = quiet s r h (Closed at w m) legal refl (λ lane. refl) (λ lane. refl) (λ n' i. refl) (charged s r h finite within legal.0)
charged s r (Replayed n places m ∷ h) finite within legal = absurd legal.1.1
charged s r (Shut m ∷ h) finite within legal = quiet s r h (Shut m) legal refl (λ lane. refl) (λ lane. refl) (λ n' i. refl) (charged s r h finite within legal.0)

-- the calls are as many as the slots that they spent or hold, and those that were not run

pub more_if : (b : Bool) (n k : ℕ) → n + k + (if b then 1 else 0) ≡ n + (if b then suc k else k)
more_if true n k = omega arith
more_if false n k = omega arith

ends_count : (s : Setting) (r : ℕ) (h : List Entry) (at : LaneId) (reply : Reply) (m : ℕ) (o : Option Call) → last_call h at ≡ o → is_running h at ≡ true → Charged s r h
    → length (spent s r h) + batch_calls_not_run s h ≡ batch_calls h
    → length (after_end s r h at.shard o reply (spent s r h)) + (if batch_was_not_run s at.shard o reply then suc (batch_calls_not_run s h) else batch_calls_not_run s h) ≡ batch_calls h
ends_count s r h at reply m None last runs was before = before
ends_count s r h at reply m (Some call) last runs was before = by_closing call.closing refl
  where
    old : List Slot
    old = spent s r h

    by_closing : (c : Option ℕ) → call.closing ≡ c
        → length (after_end s r h at.shard (Some call) reply (spent s r h)) + (if batch_was_not_run s at.shard (Some call) reply then suc (batch_calls_not_run s h) else batch_calls_not_run s h) ≡ batch_calls h
    by_closing (Some w) is = rw is before
    by_closing None is = rw is (
        let place = slice_index call.places 0 in
        let t = tries s h at.shard (slice_index call.places 0) in
        let x = reading s.config (sequences_at s at.shard call.places) false reply in
        let gained = outcome r at.shard call.places (tries s h at.shard (slice_index call.places 0)) (ruling s.config (length call.places) (tries s h at.shard (slice_index call.places 0)) (reading s.config (sequences_at s at.shard call.places) false reply)) in
        let one : length gained + (if is_not_run x then 1 else 0) ≡ 1 = end_spends s.config r at.shard (length call.places) t call.places x in
        let less : suc (length (removed (is_slot (slot at.shard place r)) (spent s r h))) ≡ length (spent s r h) =
        removed-length (is_slot (slot at.shard place r)) (slot at.shard place r) (spent s r h) (is_slot-refl (slot at.shard place r)) ((was.running at call runs last).charged is) in
        let all : length (gained ++ removed (is_slot (slot at.shard place r)) (spent s r h)) ≡ length gained + length (removed (is_slot (slot at.shard place r)) (spent s r h)) = length-append gained (removed (is_slot (slot at.shard place r)) (spent s r h)) in
        let more : length (gained ++ removed (is_slot (slot at.shard place r)) (spent s r h)) + batch_calls_not_run s h + (if is_not_run x then 1 else 0)
        ≡ length (gained ++ removed (is_slot (slot at.shard place r)) (spent s r h)) + (if is_not_run x then suc (batch_calls_not_run s h) else batch_calls_not_run s h)
        = more_if (is_not_run x) (length (gained ++ removed (is_slot (slot at.shard place r)) (spent s r h))) (batch_calls_not_run s h) in
        sym more ∙ omega (arith, one, less, all, before))

calls_counted : (s : Setting) (r : ℕ) (h : List Entry) → s.config.retries ≡ Some r → r ≤ MAX_RETRIES → Legal s h → length (spent s r h) + batch_calls_not_run s h ≡ batch_calls h
calls_counted s r [] finite within legal = refl
calls_counted s r (Came n first count m ∷ h) finite within legal = calls_counted s r h finite within legal.0
calls_counted s r (Began at places None m ∷ h) finite within legal = (let before : length (spent s r h) + batch_calls_not_run s h ≡ batch_calls h = calls_counted s r h finite within legal.0 in omega (arith, before))
calls_counted s r (Began at places (Some w) m ∷ h) finite within legal = calls_counted s r h finite within legal.0
calls_counted s r (Ended at reply m ∷ h) finite within legal = ends_count s r h at reply m (last_call h at) refl legal.1.1 (charged s r h finite within legal.0) (calls_counted s r h finite within legal.0)
calls_counted s r (Gave by n places f line state m ∷ h) finite within legal = calls_counted s r h finite within legal.0
calls_counted s r (Tried at places c t m ∷ h) finite within legal = calls_counted s r h finite within legal.0
calls_counted s r (Closed at w m ∷ h) finite within legal = calls_counted s r h finite within legal.0
calls_counted s r (Replayed n places m ∷ h) finite within legal = calls_counted s r h finite within legal.0
calls_counted s r (Shut m ∷ h) finite within legal = calls_counted s r h finite within legal.0

-- the slots that there are

-- the first k of a place
pub slots_at : ℕ → ℕ → ℕ → List Slot
slots_at n i zero = []
slots_at n i (suc k) = slot n i k ∷ slots_at n i k

-- of the places from the first on
slots_from : ℕ → ℕ → ℕ → ℕ → List Slot
slots_from n k first zero = []
slots_from n k first (suc count) = slots_at n (first + count) k ++ slots_from n k first count

all_slots : ℕ → List Entry → List Slot
all_slots k [] = []
all_slots k (Came n first count m ∷ h) = slots_from n k first count ++ all_slots k h
all_slots k (Began at places c m ∷ h) = all_slots k h
all_slots k (Ended at reply m ∷ h) = all_slots k h
all_slots k (Gave by n places f line state m ∷ h) = all_slots k h
all_slots k (Tried at places c t m ∷ h) = all_slots k h
all_slots k (Closed at w m ∷ h) = all_slots k h
all_slots k (Replayed n places m ∷ h) = all_slots k h
all_slots k (Shut m ∷ h) = all_slots k h

pub length_at : (n i k : ℕ) → length (slots_at n i k) ≡ k
unfolding slots_at
length_at n i zero = refl
length_at n i (suc k) = ap suc (length_at n i k)

length_from : (n k first count : ℕ) → length (slots_from n k first count) ≡ count * k
unfolding slots_from
length_from n k first zero = omega arith
length_from n k first (suc count) =
    length-append (slots_at n (first + count) k) (slots_from n k first count)
    ∙ ap (λ x. x + length (slots_from n k first count)) (length_at n (first + count) k)
    ∙ ap (λ x. k + x) (length_from n k first count)
    ∙ grind arith

length_all : (k : ℕ) (h : List Entry) → length (all_slots k h) ≡ record_count h * k
unfolding all_slots
length_all k [] = omega arith
length_all k (Came n first count m ∷ h) =
    length-append (slots_from n k first count) (all_slots k h)
    ∙ ap (λ x. x + length (all_slots k h)) (length_from n k first count)
    ∙ ap (λ x. count * k + x) (length_all k h)
    ∙ grind arith
length_all k (Began at places c m ∷ h) = length_all k h
length_all k (Ended at reply m ∷ h) = length_all k h
length_all k (Gave by n places f line state m ∷ h) = length_all k h
length_all k (Tried at places c t m ∷ h) = length_all k h
length_all k (Closed at w m ∷ h) = length_all k h
length_all k (Replayed n places m ∷ h) = length_all k h
length_all k (Shut m ∷ h) = length_all k h

pub has_at : (n i k : ℕ) (x : Slot) → x.shard ≡ n → x.place ≡ i → x.number < k → Has (slots_at n i k) x
unfolding slots_at
has_at n i zero x shard place low = absurd (omega arith)
has_at n i (suc k) x shard place low =
    elim (cases_lt x.number k) [
      | inl below ↦ inr (has_at n i k x shard place below)
      | inr above ↦ inl (slot_from (slot n i k) x (sym shard) (sym place) (omega arith))
    ]

has_from : (n k first count : ℕ) (x : Slot) → x.shard ≡ n → first ≤ x.place → x.place < first + count → x.number < k → Has (slots_from n k first count) x
unfolding slots_from
has_from n k first zero x shard low high few = absurd (omega (arith, low, high))
has_from n k first (suc count) x shard low high few =
    elim (cases_lt x.place (first + count)) [
      | inl below ↦ Has-right (slots_at n (first + count) k) (slots_from n k first count) x (has_from n k first count x shard low below few)
      | inr above ↦ Has-left (slots_at n (first + count) k) (slots_from n k first count) x (has_at n (first + count) k x shard (omega (arith, above, high)) few)
    ]

has_all : (s : Setting) (k : ℕ) (h : List Entry) (x : Slot) → Legal s h → x.place < came_count h x.shard → x.number < k → Has (all_slots k h) x
unfolding all_slots
has_all s k [] x legal came few = absurd (omega (arith, came))
has_all s k (Came n first count m ∷ h) x legal came few =
    elim (cases_Bool (n == x.shard)) [
      | inl same ↦ (
          let shard : n ≡ x.shard = eqb-true n x.shard same in
          let next : first ≡ came_count h x.shard = subst (λ z. first ≡ came_count h z) shard legal.1.1.next in
          let within : x.place < count + came_count h x.shard = rw same at came in
          elim (cases_lt x.place first) [
            | inl old ↦ Has-right (slots_from n k first count) (all_slots k h) x (has_all s k h x legal.0 (omega (arith, old, next)) few)
            | inr new ↦ Has-left (slots_from n k first count) (all_slots k h) x (has_from n k first count x (sym shard) new (omega (arith, within, next)) few)
          ])
      | inr other ↦ Has-right (slots_from n k first count) (all_slots k h) x (has_all s k h x legal.0 (rw other at came) few)
    ]
has_all s k (Began at places c m ∷ h) x legal came few = has_all s k h x legal.0 came few
has_all s k (Ended at reply m ∷ h) x legal came few = has_all s k h x legal.0 came few
has_all s k (Gave by n places f line state m ∷ h) x legal came few = has_all s k h x legal.0 came few
has_all s k (Tried at places c t m ∷ h) x legal came few = has_all s k h x legal.0 came few
has_all s k (Closed at w m ∷ h) x legal came few = has_all s k h x legal.0 came few
has_all s k (Replayed n places m ∷ h) x legal came few = has_all s k h x legal.0 came few
has_all s k (Shut m ∷ h) x legal came few = has_all s k h x legal.0 came few

-- the law

pub few_retries : (r : ℕ) (o : Option ℕ) → o ≡ Some r → none_or (λ n. nat_le n MAX_RETRIES) o ≡ true → r ≤ MAX_RETRIES
few_retries r None is few = cc
few_retries r (Some n) is few = (let same : n ≡ r = same_Some n r is in let low : n ≤ MAX_RETRIES = leb-true n MAX_RETRIES few in omega (arith, same, low))

pub batches_bounded : (s : Setting) (h : List Entry) (retries : ℕ) → IsFinite s.config retries → Legal s h → batch_calls h ≤ record_count h * (retries + 2) + batch_calls_not_run s h
batches_bounded s h r finite legal =
    let within : r ≤ MAX_RETRIES = few_retries r s.config.retries finite.finite finite.fields.retries in
    let all = charged s r h finite.finite within legal in
    let short : length (spent s r h) ≤ length (all_slots (r + 2) h) = no_longer (spent s r h) (all_slots (r + 2) h) all.apart
    (λ x has. (let is = all.meant x has in let small : x.number ≤ suc r = is.small in has_all s (r + 2) h x legal is.came (omega (arith, small)))) in
    let counted : length (spent s r h) + batch_calls_not_run s h ≡ batch_calls h = calls_counted s r h finite.finite within legal in
    let slots : length (all_slots (r + 2) h) ≡ record_count h * (r + 2) = length_all (r + 2) h in
    omega (arith, short, counted, slots)
