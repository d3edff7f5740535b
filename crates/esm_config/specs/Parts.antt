-- The meanings of an ARN's parts and of a source as the code holds them. Only this crate's proofs cite this.
use Rattle.esm_config.specs.Arn as arn
use Rattle.esm_config.specs.declared.owned.Owned.{Owned}
use Rattle.esm_config.specs.declared.source.Source.{Source}

abbrev pub parts_of : Owned → arn.Owned
parts_of o = record { region = o.region.now; account = o.account.now; name = o.name.now }

abbrev pub source_view : Source → arn.Source
source_view s = record { arn = s.arn.now; kind = s.kind; parts = parts_of s.parts }
