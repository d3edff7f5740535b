-- What a function that reads a line returns, or that it ran out of memory.
use Rattle.std.specs.Prelude.{◌≡◌, Result, Ok, Err}
use Rattle.esm_record.specs.declared.error.LineError.{LineError}
use Rattle.esm_record.specs.declared.error.Refusal.{Refusal}
use Rattle.esm_record.specs.declared.error.Refusal.TheVariants as refusal

abbrev pub Fails : {A : Type 0} → Refusal → Result A LineError → Type 0
Fails refusal.OutOfMemory reading = Unit {0}
Fails (refusal.Line why) reading = reading ≡ Err why

-- the answer agrees with the reading: it has what that means, or the same refusal, unless memory ran out
abbrev pub Shows : {A B : Type 0} → (A → B) → Result A Refusal → Result B LineError → Type 0
Shows says (Ok x) reading = reading ≡ Ok (says x)
Shows says (Err e) reading = Fails e reading

-- the answer is the reading, unless memory ran out
abbrev pub Gives : {A : Type 0} → Result A Refusal → Result A LineError → Type 0
Gives answer reading = Shows (λ x. x) answer reading
