-- What the mappings in memory mean, and their invariant. Only this crate's proofs cite this.
use Rattle.std.specs.Prelude.{◌≡◌, ℕ, ◌+◌, List, Option, option_map}
use Rattle.std.specs.BTreeMap.{BTreeMap}
use Rattle.esm_registry.specs.declared.mapping.Mapping.{Mapping}
use Rattle.esm_registry.specs.declared.table.Table.TheInside.{Inside}
use Rattle.esm_registry.specs.Index.{Arns, TableState, count_in, count_promised}
use Rattle.esm_registry.specs.Pairs.{ArnTexts, arns, count_at}
use Rattle.esm_registry.specs.Places.{list_of, IsIndex}

abbrev pub table_state : Inside → TableState
table_state t = record { mappings = record { list = list_of t.mappings; created = t.created }; promised = option_map arns t.promised }

-- each source and function has its count, one higher while it is promised
abbrev pub AreCounted : BTreeMap ArnTexts ℕ → List Mapping → Option Arns → Type 0
AreCounted counts list promised = (p : ArnTexts) → count_at counts p ≡ count_in (arns p) list + count_promised (arns p) promised

pub record IsTable (t : Inside) : Type 0 where
  pub index : IsIndex t.mappings t.places t.next
  pub counted : AreCounted t.counts (list_of t.mappings) (option_map arns t.promised)
