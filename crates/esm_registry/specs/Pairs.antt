-- How the index counts the mappings of a source and a function. Only this crate's proofs cite this.
use Rattle.std.specs.Prelude.{ℕ, String, string_bytes, unwrap_or}
use Rattle.std.specs.Ordering.{ordering_then}
use Rattle.std.specs.declared.cmp.Ordering.{Ordering}
use Rattle.std.specs.declared.alloc.Global.{Global}
use Rattle.std.specs.String.{string_cmp}
use Rattle.std.specs.BTreeMap.{BTreeMap, get}
use Rattle.esm_registry.specs.Index.{Arns}

abbrev pub ArnTexts : Type 0
ArnTexts = String Global × String Global

abbrev pub arns : ArnTexts → Arns
arns p = record { source = string_bytes p.0; function = string_bytes p.1 }

abbrev pub pair_cmp : ArnTexts → ArnTexts → Ordering
pair_cmp p q = ordering_then (string_cmp p.0 q.0) (string_cmp p.1 q.1)

abbrev pub count_at : BTreeMap ArnTexts ℕ → ArnTexts → ℕ
count_at counts p = unwrap_or (get pair_cmp counts p) 0
