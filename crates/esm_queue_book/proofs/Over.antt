-- What is left of a queue, by its messages and by what a batcher is answered.
use Rattle.std.proofs.Common.{◌≡◌, ℕ, ◌≤◌, Bool, true, false, not, List, [], ◌∷◌, refl, sym, ap, subst, inl, inr, arith}
use Rattle.std.specs.Prelude.{⊤, nat_le, if◌then◌else◌}
use Rattle.std.proofs.lemmas.Bool.{cases_Bool, not-true}
use Rattle.std.proofs.lemmas.Bool.Decides.{nat_tests}
use Rattle.esm_model.specs.declared.book.Next.{Next}
use Rattle.esm_model.specs.declared.book.Next.TheVariants as next
use Rattle.esm_model.specs.declared.entry.Entry.{Entry}
use Rattle.esm_model.specs.Moment.{moment_after}
use Rattle.esm_model.specs.Entries.{is_shut, calls_begun}
use Rattle.esm_model.specs.Fates.{below}
use Rattle.esm_model.proofs.Lists.{In, In-none, In-here, In-filter, In-below, below-In, filter-In}
use Rattle.esm_queue_model.specs.QueueSetting.{QueueSetting}
use Rattle.esm_queue_model.specs.QueueEntries.{queue_count, is_deleted, waiting}
use Rattle.esm_queue_model.specs.QueueBatch.{queue_batch, is_queue_ready}
use Rattle.esm_queue_model.specs.QueueStep.{LegalQueue}
use Rattle.esm_queue_book.specs.Left.{AllDeleted, HasWaiting}
use Rattle.esm_queue_book.proofs.Ending.{begun_within}
use Rattle.esm_queue_core.specs.Next.{job_of, is_nothing, is_all_deleted, pause_end, next_batch, next_allowed, next_for}

-- by the messages

nothing_in : (places : List ℕ) (i : ℕ) → is_nothing places ≡ true → In places i → ⊥
nothing_in [] i none member = In-none i member
nothing_in (j ∷ places) i none member = absurd (cc)

pub all_deleted : (s : QueueSetting) (h : List Entry) → is_all_deleted s h ≡ true → AllDeleted s h
all_deleted s h all i came = elim (cases_Bool (is_deleted s h i)) [
  | inl is ↦ is
  | inr open' ↦ absurd (nothing_in (waiting s h) i all (filter-In (λ j. not (is_deleted s h j)) (below (queue_count h)) i (below-In (queue_count h) i came) (ap not open')))
]

first_waiting : (s : QueueSetting) (h : List Entry) (places : List ℕ) → waiting s h ≡ places → is_nothing places ≡ false → HasWaiting s h
first_waiting s h [] is some = absurd (cc)
first_waiting s h (i ∷ places) is some =
    let at = In-filter (λ j. not (is_deleted s h j)) (below (queue_count h)) i (subst (λ ps. In ps i) (sym is) (In-here i places i refl)) in
    record { place = i; came = In-below (queue_count h) i at.0; waits = not-true (is_deleted s h i) at.1 }

pub one_waits : (s : QueueSetting) (h : List Entry) → is_all_deleted s h ≡ false → HasWaiting s h
one_waits s h some = first_waiting s h (waiting s h) refl some

-- by what a batcher is answered

-- the input has ended, and every message that came is deleted
abbrev pub FinishedAt : QueueSetting → List Entry → Type 0
FinishedAt s h = (is_shut h ≡ true) × AllDeleted s h

abbrev IsTold : QueueSetting → List Entry → Next → Type 0
IsTold s h next.Spent = nat_le s.calls (calls_begun h) ≡ true
IsTold s h next.Finished = (is_shut h ≡ true) × (is_all_deleted s h ≡ true)
IsTold s h _ = ⊤

module _ (s : QueueSetting) (h : List Entry) (k m : ℕ) where
  told_either : (b : Bool) (x y : Next) → IsTold s h x → IsTold s h y → IsTold s h (if b then x else y)
  told_either true x y one other = one
  told_either false x y one other = other

  told_batch : (places : List ℕ) → IsTold s h (next_batch s h k m places)
  told_batch [] = tt
  told_batch (i ∷ places) = told_either (is_queue_ready s h m) (next.Call (job_of s h k (i ∷ places) m)) (next.Idle (pause_end s h m (i ∷ places))) tt tt

  told_spent : (b : Bool) (x : Next) → nat_le s.calls (calls_begun h) ≡ b → IsTold s h x → IsTold s h (if b then next.Spent else x)
  told_spent true x is told = is
  told_spent false x is told = told

  told_shut : (b : Bool) → is_shut h ≡ b → is_all_deleted s h ≡ true → IsTold s h (if b then next.Finished else next.Idle (moment_after m 20))
  told_shut true shut all = (shut, all)
  told_shut false shut all = tt

  told_if : (b : Bool) → is_all_deleted s h ≡ b → IsTold s h (if b then (if is_shut h then next.Finished else next.Idle (moment_after m 20)) else next_allowed s h k m)
  told_if true is = told_shut (is_shut h) refl is
  told_if false is = told_spent (nat_le s.calls (calls_begun h)) (next_batch s h k m (queue_batch s h m)) refl (told_batch (queue_batch s h m))

  told_for : IsTold s h (next_for s h k m)
  told_for = told_if (is_all_deleted s h) refl

  pub finished_is : next_for s h k m ≡ next.Finished → FinishedAt s h
  finished_is is = (let told : (is_shut h ≡ true) × (is_all_deleted s h ≡ true) = subst (IsTold s h) is told_for in (told.0, all_deleted s h told.1))

  spent_told : next_for s h k m ≡ next.Spent → nat_le s.calls (calls_begun h) ≡ true
  spent_told is = subst (IsTold s h) is told_for

all_begun : (s : QueueSetting) (h : List Entry) → LegalQueue s h → nat_le s.calls (calls_begun h) ≡ true → calls_begun h ≡ s.calls
all_begun s h legal spent =
    let within : calls_begun h ≤ s.calls = begun_within s h legal in
    grind (arith, nat_tests)

pub spent_is : (s : QueueSetting) (h : List Entry) (k m : ℕ) → LegalQueue s h → next_for s h k m ≡ next.Spent → calls_begun h ≡ s.calls
spent_is s h k m legal is = all_begun s h legal (spent_told s h k m is)
