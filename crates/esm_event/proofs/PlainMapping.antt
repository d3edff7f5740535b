-- The mapping of the worked examples is a valid stream's mapping: each test of a literal text is computed.
use Rattle.std.proofs.Common.{◌≡◌, codes, refl, arith, inl, subst, sym}
use Rattle.esm_model.specs.declared.config.Config.{Config}
use Rattle.esm_model.specs.Worked.{plain_mapping}
use Rattle.esm_model.specs.Valid.{IsStreamConfig, IsValidConfig, HasStreamFields}

has_stream_fields : HasStreamFields plain_mapping
has_stream_fields = record {
  factor = refl;
  retries = refl;
  age = refl;
  tumbling = refl;
  one_lane = refl;
  start = refl;
  destination = refl;
  concurrency = refl;
}

is_valid : IsValidConfig plain_mapping
is_valid = record {
  region = refl;
  account = refl;
  source = inl (codes "s", refl, refl);
  function = refl;
  function_arn = (codes "us-east-1", codes "123456789012", refl, refl, refl);
  batch_size = refl;
  window = refl;
  filters = omega arith;
  fields = has_stream_fields;
}

is_plain_valid : IsStreamConfig plain_mapping
is_plain_valid = record { kind = refl; valid = is_valid }

pub is_stream_config : (c : Config) → c ≡ plain_mapping → IsStreamConfig c
is_stream_config c e = subst IsStreamConfig (sym e) is_plain_valid
