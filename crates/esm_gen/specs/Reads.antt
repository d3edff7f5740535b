-- What an input of a stream reads as.
use Rattle.std.specs.Prelude.{◌≡◌, ℕ, List, map, None}
use Rattle.esm_model.specs.Records.{Record}
use Rattle.esm_record.specs.Input.{input_of}
use Rattle.esm_model.specs.declared.item.Item.TheVariants.{Stream}
use Rattle.esm_model.specs.declared.item.LineKind.TheVariants as kinds

-- these records in order, and no line is refused
pub record ReadsAs (bytes : List ℕ) (records : List Record) : Type 0 where
  pub items : (input_of kinds.Stream bytes).items ≡ map Stream records
  pub no_bad_line : (input_of kinds.Stream bytes).bad ≡ None
