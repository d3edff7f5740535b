-- The mappings of the examples are valid: each test of a literal text is computed. Only this crate's tests cite this.
use Rattle.std.proofs.Common.{◌≡◌, true, codes, refl, arith, subst, sym, inl}
use Rattle.esm_model.specs.declared.config.Config.{Config}
use Rattle.esm_model.specs.declared.config.Kind.TheVariants.{Standard}
use Rattle.esm_model.specs.Valid.{IsValidConfig, HasQueueFields, HasStreamFields, IsStreamConfig}
use Rattle.esm_queue_model.specs.WorkedHistories.{queue_mapping}
use Rattle.esm_event.proofs.QueueExample.{is_queue_config}
use Rattle.esm_tests_books.specs.Queues.{IsQueue}
use Rattle.esm_tests_books.specs.Streams.{lanes_mapping}

-- the queue's, without and with item failures

plain_valid : IsValidConfig (queue_mapping Standard)
plain_valid = (is_queue_config (queue_mapping Standard) refl).valid

pub is_queue : (c : Config) → c ≡ queue_mapping Standard → IsQueue c
is_queue c is = subst IsQueue (sym is) (record { config = record { kind = refl; valid = plain_valid }; kind = refl; no_filters = refl })

reporting_fields : HasQueueFields (record (queue_mapping Standard) { item_failures = true })
reporting_fields = record {
  factor = refl;
  retries = refl;
  age = refl;
  bisect = refl;
  tumbling = refl;
  start = refl;
  destination = refl;
  concurrency = refl;
}

reporting_valid : IsValidConfig (record (queue_mapping Standard) { item_failures = true })
reporting_valid = record {
  region = plain_valid.region;
  account = plain_valid.account;
  source = plain_valid.source;
  function = plain_valid.function;
  function_arn = plain_valid.function_arn;
  batch_size = plain_valid.batch_size;
  window = plain_valid.window;
  filters = plain_valid.filters;
  fields = reporting_fields;
}

pub is_reporting : (c : Config) → c ≡ queue_mapping Standard → IsQueue (record c { item_failures = true })
is_reporting c is =
    subst (λ (x : Config). IsQueue (record x { item_failures = true })) (sym is)
    (record { config = record { kind = refl; valid = reporting_valid }; kind = refl; no_filters = refl })

-- the stream's, with two lanes a shard and one retry

has_stream_fields : HasStreamFields lanes_mapping
has_stream_fields = record {
  factor = refl;
  retries = refl;
  age = refl;
  tumbling = refl;
  one_lane = refl;
  start = refl;
  destination = refl;
  concurrency = refl;
}

lanes_valid : IsValidConfig lanes_mapping
lanes_valid = record {
  region = refl;
  account = refl;
  source = inl (codes "s", refl, refl);
  function = refl;
  function_arn = (codes "us-east-1", codes "123456789012", refl, refl, refl);
  batch_size = refl;
  window = refl;
  filters = omega arith;
  fields = has_stream_fields;
}

pub is_stream_config : (c : Config) → c ≡ lanes_mapping → IsStreamConfig c
is_stream_config c is = subst IsStreamConfig (sym is) (record { kind = refl; valid = lanes_valid })
