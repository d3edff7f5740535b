-- What an answer of the code says of a judgement: the value, or the field that is refused; `OutOfMemory` says nothing.
use Rattle.std.specs.Prelude.{◌≡◌, Result, Ok, Err, ⊤}
use Rattle.esm_config.specs.declared.param.ConfigError.{ConfigError}
use Rattle.esm_config.specs.declared.param.ConfigError.TheVariants as why
use Rattle.esm_config.specs.declared.param.Param.{Param}

-- the field that the answer refuses, if it refuses one, has P
abbrev pub IfBad : {A : Type 0} → Result A ConfigError → (Param → Type 0) → Type 0
IfBad (Ok _) P = ⊤
IfBad (Err (why.BadParam p)) P = P p
IfBad (Err why.OutOfMemory) P = ⊤

-- the answer agrees with the judgement, where `f` gives the meaning of a value
abbrev pub Tells : {A B : Type 0} → (A → B) → Result A ConfigError → Result B Param → Type 0
Tells f (Ok x) r = r ≡ Ok (f x)
Tells f (Err (why.BadParam p)) r = r ≡ Err p
Tells f (Err why.OutOfMemory) r = ⊤
