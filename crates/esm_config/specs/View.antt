-- The meanings of the code's values. Only this crate's proofs cite this.
use Rattle.std.specs.Borrow.{Bor}
use Rattle.std.specs.Prelude.{Option, option_map}
use Rattle.serde_json.specs.Data.{Data, object}
use Rattle.serde_json.specs.View.{view}
use Rattle.serde_json.specs.declared.value.Value.{Value}
use Rattle.esm_config.specs.FunctionParts.{named_of}
use Rattle.esm_config.specs.Judged as spec
use Rattle.esm_config.specs.Mapping.{fields_among}
use Rattle.esm_config.specs.Member.{members_of}
use Rattle.esm_config.specs.Merge.{updated_fields}
use Rattle.esm_config.specs.Parts.{source_view}
use Rattle.esm_config.specs.declared.given.Fields.{Fields}
use Rattle.esm_config.specs.declared.given.Fields.TheVariants.{New, Update}
use Rattle.esm_config.specs.declared.rows.Batching.{Batching}
use Rattle.esm_config.specs.declared.rows.Care.{Care}
use Rattle.esm_config.specs.declared.rows.Pace.{Pace}
use Rattle.esm_config.specs.declared.rows.Parties.{Parties}

abbrev pub data_of : Option (Bor Value) → Option Data
data_of o = option_map (λ v. view v.now) o

abbrev pub fields_view : Fields → spec.Fields
fields_view (New sources value) = fields_among sources (view value.now)
fields_view (Update value old) = updated_fields (object (members_of old.now)) (view value.now)

abbrev pub parties_view : Parties → spec.Parties
parties_view p = record { source = source_view p.source; function = named_of p.function; enabled = p.enabled }

abbrev pub batching_view : Batching → spec.Batching
batching_view b = record { batch_size = b.batch_size; window_ms = b.window_ms; filters = b.filters; item_failures = b.item_failures }

abbrev pub pace_view : Pace → spec.Pace
pace_view p = record { factor = p.factor; retries = p.retries; age_ms = p.age_ms }

abbrev pub care_view : Care → spec.Care
care_view c = record {
  bisect = c.bisect;
  tumbling_ms = c.tumbling_ms;
  destination = option_map (λ s. s.now) c.destination;
  concurrency = c.concurrency;
}
