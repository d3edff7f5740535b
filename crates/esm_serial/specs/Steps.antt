-- What the caller's steps leave of a book and of its log. Only this crate's proofs cite this.
use Rattle.std.specs.Prelude.{◌≡◌, ◌⊎◌, ℕ, Bool, List, Option}
use Rattle.esm_model.specs.declared.called.Called.{Called}
use Rattle.esm_model.specs.Coming.{StayAsTheyAre}
use Rattle.esm_serial.specs.declared.serial.Serial.{Ghosts as Serial}
use Rattle.esm_serial.specs.Ran.{HasCalled, HasOneMore}

-- the calls in the log that took a book to the old one take it to the new one
abbrev pub LeadsOn : {B : Type 0} → Serial B → (gave : ℕ → Bool) → (sends : List ℕ → List ℕ) → (old new : B) → (log log' : Option (List Called)) → Type 0
LeadsOn {B} m gave sends old new log log' =
    (first : B) (start : Option (List Called)) → HasCalled m gave sends first old start log → HasCalled m gave sends first new start log'

-- or one more call runs
abbrev pub LeadsPerhapsOn : {B : Type 0} → Serial B → (gave : ℕ → Bool) → (sends : List ℕ → List ℕ) → (old new : B) → (log log' : Option (List Called)) → Type 0
LeadsPerhapsOn {B} m gave sends old new log log' =
    (first : B) (start : Option (List Called)) → HasCalled m gave sends first old start log → HasCalled m gave sends first new start log' ⊎ HasOneMore m gave sends first new start log'

-- the book is of the same mapping, with the same items and the same change, and its input has ended if it had
pub record IsAsItWas {B : Type 0} (m : Serial B) (old new : B) : Type 0 where
  pub function : m.function new ≡ m.function old
  pub items : StayAsTheyAre (m.items old) (m.items new)
  pub change : m.change new ≡ m.change old
  pub shut : m.shut old → m.shut new
