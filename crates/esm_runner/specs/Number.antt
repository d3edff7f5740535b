-- How many batchers a queue has. Source: the Lambda Developer Guide, "Using Lambda with Amazon SQS" (`MaximumConcurrency` of
-- `ScalingConfig`).
use Rattle.std.specs.Prelude.{ℕ, min, Option, Some, None}
use Rattle.esm_model.specs.declared.config.Config.{Config}
use Rattle.esm_runner.specs.declared.number.TheConstants.{MAX_BATCHERS, DEFAULT_BATCHERS}

-- under this bound of its concurrency
abbrev pub batchers_by : Option ℕ → ℕ
batchers_by None = DEFAULT_BATCHERS
batchers_by (Some most) = min most MAX_BATCHERS

-- under the configuration
abbrev pub batchers_in : Config → ℕ
batchers_in c = batchers_by c.concurrency
