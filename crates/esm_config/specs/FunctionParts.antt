-- The meaning of a function's names as the code holds them. Only this crate's proofs cite this.
use Rattle.std.specs.Prelude.{option_map}
use Rattle.esm_config.specs.Fields.{Named}
use Rattle.esm_config.specs.declared.function.FunctionName.{FunctionName}

abbrev pub named_of : FunctionName → Named
named_of f = record { name = f.name.now; arn = option_map (λ s. s.now) f.arn }
