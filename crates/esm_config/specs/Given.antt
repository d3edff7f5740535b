-- What `read` and `merge` return: a valid configuration for a Kinesis stream or an SQS queue, whose filters are patterns.
use Rattle.std.specs.Prelude.{◌≡◌, ℕ, List, is_ok, true}
use Rattle.esm_model.specs.Pattern.{read_patterns}
use Rattle.esm_model.specs.Valid.{IsKinesisSource, IsQueueSource, IsStreamConfig, IsTableSource, IsValidConfig, is_stream}
use Rattle.esm_model.specs.declared.config.Config.{Config}
use Rattle.esm_model.specs.declared.config.Kind.{Kind}
use Rattle.esm_model.specs.declared.config.Kind.TheVariants.{Stream, Standard, Fifo}
use Rattle.esm_model.specs.declared.config.Start.TheVariants.{TrimHorizon}

-- the ARN is one that a mapping's object may name
abbrev pub IsGivenSource : Kind → List ℕ → List ℕ → List ℕ → Type 0
IsGivenSource Stream region account arn = IsKinesisSource region account arn
IsGivenSource Standard region account arn = IsQueueSource Standard region account arn
IsGivenSource Fifo region account arn = IsQueueSource Fifo region account arn

pub record IsGiven (c : Config) : Type 0 where
  pub valid : IsValidConfig c
  pub source : IsGivenSource c.kind c.region c.account c.source_arn
  pub patterns : is_ok (read_patterns (is_stream c.kind) c.filters) ≡ true

-- What `read_dynamo` returns: a valid configuration for the stream of a DynamoDB table, which is read from its first record
-- and whose filters are patterns.
pub record IsDynamoGiven (c : Config) : Type 0 where
  pub stream : IsStreamConfig c
  pub source : IsTableSource c.region c.account c.source_arn
  pub start : c.start ≡ TrimHorizon
  pub patterns : is_ok (read_patterns true c.filters) ≡ true
