-- What a batcher's thread leaves: its seat, and its caller's log. This product's own.
use Rattle.std.specs.Prelude.{◌≡◌, ◌⊎◌, ◌++◌, ◌∷◌, [], ℕ, Bool, true, List, Option}
use Rattle.esm_io.specs.Told.{Grows}
use Rattle.esm_model.specs.declared.called.Called.{Called}
use Rattle.esm_model.specs.declared.book.Job.{Job}
use Rattle.esm_model.specs.declared.entry.Reply.{Reply}
use Rattle.esm_model.specs.declared.setup.Setup.{Setup}
use Rattle.esm_model.specs.declared.setup.Told.{Told}
use Rattle.esm_model.specs.Batching.{call_of}
use Rattle.esm_turn.specs.Seats.{SeatView}

-- what is seen from outside: which moments the clock gave, what callers send for an event, and the log of each
pub record Outside (F : Type 0) : Type 0 where
  pub gave : ℕ → Bool
  pub sends : List ℕ → List ℕ
  pub log : F → Option (List Called)

abbrev pub outside : {F : Type 0} → (ℕ → Bool) → (List ℕ → List ℕ) → (F → Option (List Called)) → Outside F
outside gave sends log = record { gave = gave; sends = sends; log = log }

-- The batcher's call runs, since memory ran out before its end was noted: the log grew by it, after the calls that ended.
pub record HasOneMore (runs : Job → Type 0) (setup : Setup) (sends : List ℕ → List ℕ) (ended : List Called) (old new : Option (List Called)) : Type 0 where
  pub job : Job
  pub running : runs job
  pub reply : Reply
  pub logged : Grows old new (ended ++ call_of setup sends job.event reply ∷ [])

-- the log grew by the calls that ended, and perhaps by such a one
abbrev pub HasLogged : (runs : Job → Type 0) → Setup → (List ℕ → List ℕ) → (ended : List Called) → (old new : Option (List Called)) → Type 0
HasLogged runs setup sends ended old new = Grows old new ended ⊎ HasOneMore runs setup sends ended old new

-- Why batcher k ended, by what its seat has seen: the input has ended and nothing is left for the batcher, all calls allowed
-- were made, or the book is down.
abbrev pub HasEnded : (finished : Setup → List Told → ℕ → Type 0) (spent : Setup → List Told → Type 0) → Setup → ℕ → SeatView → Type 0
HasEnded finished spent setup k s = finished setup s.seen k ⊎ (spent setup s.seen ⊎ (s.mark ≡ true))
