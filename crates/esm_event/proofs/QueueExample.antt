-- The example's mapping and message are valid: each test of a literal text is computed.
use Rattle.std.proofs.Common.{◌≡◌, codes, refl, arith, subst, sym}
use Rattle.esm_model.specs.declared.config.Config.{Config}
use Rattle.esm_model.specs.Valid.{IsValidConfig, HasQueueFields}
use Rattle.esm_model.specs.QueueEvent.{IsQueueConfig}
use Rattle.esm_event.specs.QueueExample.{queue_mapping}

has_queue_fields : HasQueueFields queue_mapping
has_queue_fields = record {
  factor = refl;
  retries = refl;
  age = refl;
  bisect = refl;
  tumbling = refl;
  start = refl;
  destination = refl;
  concurrency = refl;
}

is_valid : IsValidConfig queue_mapping
is_valid = record {
  region = refl;
  account = refl;
  source = (codes "q", refl, refl);
  function = refl;
  function_arn = (codes "us-east-1", codes "123456789012", refl, refl, refl);
  batch_size = refl;
  window = refl;
  filters = omega arith;
  fields = has_queue_fields;
}

mapping_is_valid : IsQueueConfig queue_mapping
mapping_is_valid = record { kind = refl; valid = is_valid }

pub is_queue_config : (c : Config) → c ≡ queue_mapping → IsQueueConfig c
is_queue_config c e = subst IsQueueConfig (sym e) mapping_is_valid
