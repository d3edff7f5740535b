-- The result of a function that turns a line, where memory may run out. Only this crate's proofs cite this.
use Rattle.std.specs.Prelude.{◌≡◌, Result, Ok, Err}
use Rattle.esm_ddb.specs.declared.error.DdbError.{DdbError}
use Rattle.esm_ddb.specs.declared.error.Refusal.{Refusal}
use Rattle.esm_ddb.specs.declared.error.Refusal.TheVariants as refusal

-- the result is that of the reading, unless memory ran out; `f` is what the value means
abbrev pub Gives : {A B : Type 0} → (A → B) → Result A Refusal → Result B DdbError → Type 0
Gives f (Ok x) reading = reading ≡ Ok (f x)
Gives f (Err refusal.OutOfMemory) reading = Unit {0}
Gives f (Err (refusal.Line why)) reading = reading ≡ Err why
