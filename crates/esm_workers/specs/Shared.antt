-- What threads that share a book leave. This product's own.
use Rattle.std.specs.Prelude.{◌≡◌, ◌<◌, ◌≤◌, ◌++◌, [], ℕ, Bool, true, false, List, slice_index_or, length, Option}
use Rattle.esm_io.specs.Told.{Grows}
use Rattle.esm_model.specs.declared.book.Change.{Change}
use Rattle.esm_model.specs.declared.book.Job.{Job}
use Rattle.esm_model.specs.declared.called.Called.{Called}
use Rattle.esm_model.specs.declared.setup.Setup.{Setup}
use Rattle.esm_model.specs.declared.setup.Told.{Told}
use Rattle.esm_model.specs.GoingOn.{OthersFollow}
use Rattle.esm_workers.specs.Working.{Outside, HasLogged}

-- What a reader did, by what its seat has seen: after that, the shared history has only entries of others. If it has seen
-- the mark, the book has it, and the change that it saw last is the book's.
pub record WasRead (author : Setup → List Told → Told → ℕ) (may_follow : Setup → List Told → Told → Type 0) (read : List Told → Bool → Option Change → Bool → Type 0) (setup : Setup) (h : List Told) (mark : Bool) (change : Option Change) (short : Bool) : Type 0 where
  pub seen : List Told
  pub rest : List Told
  pub whole : h ≡ seen ++ rest
  pub others : OthersFollow author may_follow setup 0 seen rest
  pub seen_mark : Bool
  pub marked : seen_mark ≡ true → mark ≡ true
  pub was_short : Bool
  pub long : short ≡ false → was_short ≡ false
  pub did : read seen seen_mark change was_short

-- What batchers with these callers did: only the first `batchers` made calls. Unless memory ran out for one, no call runs
-- any more, and each log grew by the calls that the shared history has.
pub record HaveCalled {F : Type 0} (calls : Setup → (List ℕ → List ℕ) → List Told → ℕ → List Called) (rests : Setup → List Told → ℕ → Type 0) (runs : Setup → List Told → ℕ → Job → Type 0) (o : Outside F) (setup : Setup) (h : List Told) (short : Bool) (batchers : ℕ) (old new : List F) : Type 0 where
  pub as_many : length new ≡ length old
  pub rest : short ≡ false → (k : ℕ) → rests setup h k
  pub called : short ≡ false → (k : ℕ) (d : F) → k < length old → Grows (o.log (slice_index_or old k d)) (o.log (slice_index_or new k d)) (calls setup o.sends h k)
  pub logged : (k : ℕ) (d : F) → k < length old → HasLogged (runs setup h k) setup o.sends (calls setup o.sends h k) (o.log (slice_index_or old k d)) (o.log (slice_index_or new k d))
  pub untouched : (k : ℕ) (d : F) → batchers ≤ k → slice_index_or new k d ≡ slice_index_or old k d
  pub no_calls : (k : ℕ) → batchers ≤ k → calls setup o.sends h k ≡ []
