-- What one step of a batcher leaves: its answer, and its caller's log. Only this crate's proofs cite this.
use Rattle.std.specs.Prelude.{◌≡◌, ◌⊎◌, ◌≢◌, ℕ, Bool, true, List, Option, Result, Ok, Err, IfOk, IfErr, OnErr}
use Rattle.esm_io.specs.Told.{Grows}
use Rattle.esm_model.specs.declared.book.BookError.{BookError}
use Rattle.esm_model.specs.declared.book.BookError.TheVariants.{OutOfMemory}
use Rattle.esm_model.specs.declared.book.Job.{Job}
use Rattle.esm_model.specs.declared.book.Next.{Next}
use Rattle.esm_model.specs.declared.book.Next.TheVariants as next
use Rattle.esm_model.specs.declared.called.Called.{Called}
use Rattle.esm_model.specs.declared.setup.Setup.{Setup}
use Rattle.esm_model.specs.declared.setup.Told.{Told}
use Rattle.esm_model.specs.Batching.{Answers}
use Rattle.esm_workers.specs.declared.calling.Left.{Left}
use Rattle.esm_workers.specs.declared.calling.Left.TheVariants.{Call, Gave, Idle}

-- P holds of the log as it was first, from which it grew to `old` by these calls
abbrev pub GoesOnFrom : List Called → Option (List Called) → (Option (List Called) → Type 0) → Type 0
GoesOnFrom calls old P = (first : Option (List Called)) → Grows first old calls → P first

-- the answer for batcher k holds of this history and this mark; after an error no call of the batcher runs, and unless
-- memory ran out the book is down
pub record IsAnswer (rests : Setup → List Told → ℕ → Type 0) (runs : Setup → List Told → ℕ → Job → Type 0) (finished : Setup → List Told → ℕ → Type 0) (spent : Setup → List Told → Type 0) (setup : Setup) (k : ℕ) (h : List Told) (mark : Bool) (answer : Result Next BookError) : Type 0 where
  pub knows : IfOk answer (Answers rests runs setup h k)
  pub at_end : IfOk answer (λ a. a ≡ next.Finished → finished setup h k)
  pub all_made : IfOk answer (λ a. a ≡ next.Spent → spent setup h)
  pub waits : OnErr answer (rests setup h k)
  pub down : IfErr answer (λ e. (e ≡ OutOfMemory) ⊎ (mark ≡ true))

-- nothing is left to do after the answer
abbrev pub StopsWork : Result Next BookError → Type 0
StopsWork (Ok a) = (a ≡ next.Finished) ⊎ (a ≡ next.Spent)
StopsWork (Err e) = e ≢ OutOfMemory

-- the answer that leaves this to do
abbrev pub answer_of : Left → Next
answer_of (Call job) = next.Call job
answer_of (Gave count) = next.Gave count
answer_of (Idle until) = next.Idle until
