-- The meaning of an answer of the code's readers: the value or the refusal; `OutOfMemory` says nothing.
use Rattle.std.specs.Prelude.{◌≡◌, Result, Ok, Err}
use Rattle.esm_model.specs.Pattern as spec
use Rattle.esm_model.specs.Pattern.{Reads}
use Rattle.esm_filter.specs.declared.error.PatternError.{PatternError}
use Rattle.esm_filter.specs.declared.error.PatternError.TheVariants.{NotJson, NotObject, Empty, BadTest, TooLong}
use Rattle.esm_filter.specs.declared.error.ReadError.{ReadError}
use Rattle.esm_filter.specs.declared.error.ReadError.TheVariants.{Refused, OutOfMemory}

abbrev pub refusal_view : PatternError → spec.Refusal
refusal_view NotJson = spec.not_json
refusal_view NotObject = spec.not_object
refusal_view Empty = spec.empty
refusal_view BadTest = spec.bad_test
refusal_view TooLong = spec.too_long

abbrev pub IsRefused : {B : Type 0} → ReadError → Reads B → Type 0
IsRefused (Refused why) r = r ≡ Err (refusal_view why)
IsRefused OutOfMemory r = Unit {0}

abbrev pub Tells : {A B : Type 0} → (A → B) → Result A ReadError → Reads B → Type 0
Tells f (Ok a) r = r ≡ Ok (f a)
Tells f (Err e) r = IsRefused e r
