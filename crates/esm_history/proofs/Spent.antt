-- What the calls of batches spend: of each record one slot a failed try, one for its fate, and one for a cut before it. A
-- call that began holds the slot of the fate of its first record. Only this crate's proofs cite this.
use Rattle.std.proofs.Common.{◌≡◌, ℕ, zero, suc, ◌<◌, ◌≤◌, Bool, true, ◌&&◌, List, [], ◌∷◌, ◌++◌, length, refl, ap, ◌∙◌, sym, ◌⊎◌, Option, Some, None}
use Rattle.std.specs.Prelude.{◌==◌, slice_index}
use Rattle.std.proofs.lemmas.Bool.{and_parts, and_from, eqb-true, eq-eqb}
use Rattle.esm_model.specs.declared.lane.LaneId.{LaneId}
use Rattle.esm_model.specs.declared.entry.Reply.{Reply}
use Rattle.esm_model.specs.declared.entry.Entry.{Entry}
use Rattle.esm_model.specs.declared.entry.Entry.TheVariants.{Began, Ended}
use Rattle.esm_model.specs.declared.verdict.Rest.{Rest}
use Rattle.esm_model.specs.declared.verdict.Rest.TheVariants as rest
use Rattle.esm_model.specs.declared.verdict.Verdict.{Verdict}
use Rattle.esm_model.specs.Setting.{Setting}
use Rattle.esm_model.specs.Entries.{Call, came_count, is_running, last_call}
use Rattle.esm_model.specs.Fates.{has_fate}
use Rattle.esm_model.specs.Tries.{mark, tries_of, tries_sum, call_verdict}
use Rattle.esm_model.specs.Owed.{debts}
use Rattle.esm_model.proofs.Lists.{In}
use Rattle.esm_model.proofs.Debts.{debt_places}
use Rattle.esm_history.proofs.Finite.{Has, AllApart, removed}

pub record Slot : Type 0 where
  pub shard : ℕ
  pub place : ℕ
  pub number : ℕ

abbrev pub slot : ℕ → ℕ → ℕ → Slot
slot n i k = record { shard = n; place = i; number = k }

abbrev pub is_slot : Slot → Slot → Bool
is_slot a b = (a.shard == b.shard) && ((a.place == b.place) && (a.number == b.number))

pub slot_from : (a b : Slot) → a.shard ≡ b.shard → a.place ≡ b.place → a.number ≡ b.number → a ≡ b
slot_from a b shards places numbers =
    let first : ℕ → Slot = λ n. slot n a.place a.number in
    let second : ℕ → Slot = λ i. slot b.shard i a.number in
    let third : ℕ → Slot = λ k. slot b.shard b.place k in
    ap first shards ∙ ap second places ∙ ap third numbers

pub is_slot-true : (a b : Slot) → is_slot a b ≡ true → b ≡ a
is_slot-true a b is =
    let parts = and_parts (a.shard == b.shard) ((a.place == b.place) && (a.number == b.number)) is in
    let more = and_parts (a.place == b.place) (a.number == b.number) parts.1 in
    slot_from b a (sym (eqb-true a.shard b.shard parts.0)) (sym (eqb-true a.place b.place more.0)) (sym (eqb-true a.number b.number more.1))

pub is_slot-refl : (a : Slot) → is_slot a a ≡ true
is_slot-refl a =
    and_from (a.shard == a.shard) ((a.place == a.place) && (a.number == a.number)) (eq-eqb a.shard a.shard refl)
    (and_from (a.place == a.place) (a.number == a.number) (eq-eqb a.place a.place refl) (eq-eqb a.number a.number refl))

-- with r retries: the numbers below r are of failed tries, r is of the fate, and the next one of a cut

-- what the end of a batch's call spends in place of what the call held
abbrev pub outcome_of : (r n : ℕ) → List ℕ → (tries : ℕ) → ℕ → Rest → List Slot
outcome_of r n places tries zero rest.Again = []
outcome_of r n places tries zero (rest.Split k) = slot n (slice_index places k) (suc r) ∷ []
outcome_of r n places tries zero rest.Counted = slot n (slice_index places 0) tries ∷ []
outcome_of r n places tries zero rest.Nothing = slot n (slice_index places 0) r ∷ []
outcome_of r n places tries zero rest.Exhausted = slot n (slice_index places 0) r ∷ []
outcome_of r n places tries (suc k) left = slot n (slice_index places 0) r ∷ []

abbrev pub outcome : (r n : ℕ) → List ℕ → (tries : ℕ) → Verdict → List Slot
outcome r n places tries v = outcome_of r n places tries v.succeeded v.rest

-- that of a final call spends nothing here
abbrev pub after_call : Option ℕ → (gained : List Slot) → (held : Slot) → List Slot → List Slot
after_call None gained held before = gained ++ removed (is_slot held) before
after_call (Some window) gained held before = before

abbrev pub after_end : Setting → ℕ → List Entry → ℕ → Option Call → Reply → List Slot → List Slot
after_end s r h n None reply before = before
after_end s r h n (Some call) reply before =
    after_call call.closing (outcome r n call.places (tries_of s h n call) (call_verdict s n call (tries_of s h n call) reply)) (slot n (slice_index call.places 0) r) before

abbrev pub spent_after : Setting → ℕ → List Entry → List Slot → Entry → List Slot
spent_after s r h before (Began lane places None m) = slot lane.shard (slice_index places 0) r ∷ before
spent_after s r h before (Ended lane reply m) = after_end s r h lane.shard (last_call h lane) reply before
spent_after s r h before _ = before

-- the slots that the calls of the history spent or hold
abbrev pub spent : Setting → ℕ → List Entry → List Slot
spent s r [] = []
spent s r (e ∷ h) = spent_after s r h (spent s r h) e

-- what a slot that is spent tells

-- the lane runs a batch that begins with the record at the place
pub record RunsFirst (h : List Entry) (lane : LaneId) (i : ℕ) : Type 0 where
  pub runs : is_running h lane ≡ true
  pub call : Call
  pub last : last_call h lane ≡ Some call
  pub of_batch : call.closing ≡ None
  pub first : slice_index call.places 0 ≡ i

-- a lane of the shard does, or owes the record its fate
pub record IsHeld (s : Setting) (h : List Entry) (n i : ℕ) : Type 0 where
  pub lane : LaneId
  pub shard : lane.shard ≡ n
  pub held : RunsFirst h lane i ⊎ In (debt_places (debts s h lane)) i

-- or it has one
abbrev pub IsBusy : Setting → List Entry → ℕ → ℕ → Type 0
IsBusy s h n i = (has_fate s h n i ≡ true) ⊎ IsHeld s h n i

-- the record and each one before it are marked apart
abbrev pub IsCut : Setting → List Entry → ℕ → ℕ → Type 0
IsCut s h n i = (j : ℕ) → j < i → mark s h n j ≡ mark s h n i → ⊥

pub record IsSpent (s : Setting) (r : ℕ) (h : List Entry) (x : Slot) : Type 0 where
  pub came : x.place < came_count h x.shard
  pub small : x.number ≤ suc r
  pub tried : x.number < r → x.number < tries_sum s h x.shard x.place
  pub busy : x.number ≡ r → IsBusy s h x.shard x.place
  pub cut : x.number ≡ suc r → IsCut s h x.shard x.place

-- a call that runs: its records are marked alike, and it holds the slot of the fate of the first
pub record IsCalled (s : Setting) (r : ℕ) (h : List Entry) (lane : LaneId) (call : Call) : Type 0 where
  pub alike : (i j : ℕ) → In call.places i → In call.places j → mark s h lane.shard i ≡ mark s h lane.shard j
  pub some : call.closing ≡ None → 1 ≤ length call.places
  pub charged : call.closing ≡ None → Has (spent s r h) (slot lane.shard (slice_index call.places 0) r)

-- what holds of the slots of a legal history
pub record Charged (s : Setting) (r : ℕ) (h : List Entry) : Type 0 where
  pub apart : AllApart (spent s r h)
  pub meant : (x : Slot) → Has (spent s r h) x → IsSpent s r h x
  pub running : (lane : LaneId) (call : Call) → is_running h lane ≡ true → last_call h lane ≡ Some call → IsCalled s r h lane call
