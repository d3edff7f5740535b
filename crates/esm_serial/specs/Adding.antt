-- What a call of a book adds to it, and what it returns, where one caller makes the book's calls. This product's own.
use Rattle.std.specs.Prelude.{◌≡◌, ◌++◌, ◌∷◌, [], ℕ, Bool, true, List}
use Rattle.esm_model.specs.declared.book.Job.{Job}
use Rattle.esm_model.specs.declared.book.Next.{Next}
use Rattle.esm_model.specs.declared.book.Next.TheVariants.{Call}
use Rattle.esm_model.specs.declared.called.Called.{Called}
use Rattle.esm_model.specs.declared.entry.Reply.{Reply}

-- The book went from `first` to `now`, and these calls ended meanwhile (oldest first), as a caller logs them that sends
-- these bytes for an event. The clock gave each moment that was noted.
abbrev pub Since : Type 0 → Type 1
Since B = (gave : ℕ → Bool) → (sends : List ℕ → List ℕ) → (first now : B) → List Called → Type 0

-- a call of the function with this event, as it is logged
abbrev pub call_to : (function : List ℕ) → (sends : List ℕ → List ℕ) → (event : List ℕ) → Reply → Called
call_to function sends event reply = record { name = function; event = sends event; reply = reply }

-- at this moment, which the clock gave, the old book became the new one, and no call ended
abbrev pub AddsNoCall : {B : Type 0} → Since B → (moment : ℕ) → (old new : B) → Type 0
AddsNoCall {B} since moment old new =
    (gave : ℕ → Bool) (sends : List ℕ → List ℕ) (first : B) (calls : List Called) → gave moment ≡ true → since gave sends first old calls → since gave sends first new calls

-- the same, and this call of the function ended
abbrev pub AddsCall : {B : Type 0} → Since B → (moment : ℕ) → (old new : B) → (function event : List ℕ) → Reply → Type 0
AddsCall {B} since moment old new function event reply =
    (gave : ℕ → Bool) (sends : List ℕ → List ℕ) (first : B) (calls : List Called) → gave moment ≡ true → since gave sends first old calls
    → since gave sends first new (calls ++ call_to function sends event reply ∷ [])

-- what holds of a book that gave this answer: its call runs, or none does
abbrev pub IsAnswered : {B : Type 0} → (rests : B → Type 0) (runs : B → Job → Type 0) → B → Next → Type 0
IsAnswered rests runs b (Call job) = runs b job
IsAnswered rests runs b _ = rests b
