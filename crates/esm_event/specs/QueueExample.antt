-- A queue `q` that the function `f` reads, and its first message: an example for this crate's tests alone.
use Rattle.std.specs.Prelude.{codes, None}
use Rattle.esm_model.specs.Worked.{plain_mapping}
use Rattle.esm_model.specs.declared.config.Kind.TheVariants.{Standard}
use Rattle.esm_model.specs.declared.config.Config.{Config}
use Rattle.esm_model.specs.declared.received.Received.{Received}

abbrev pub queue_mapping : Config
queue_mapping = record plain_mapping {
  source_arn = codes "arn:aws:sqs:us-east-1:123456789012:q";
  kind = Standard;
  batch_size = 10;
}

abbrev pub test_message : Received
test_message = record {
  message = record { id = codes "m1"; group = None; body = codes "Test message."; sent = 0 };
  place = 0;
  count = 1;
  first = 0;
}
