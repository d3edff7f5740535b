-- Where a mapping starts. Source: the Lambda API reference, `StartingPosition`; that a mapping of the registry reads what
-- arrived since it was created is this product's own.
use Rattle.std.specs.Prelude.{ℕ, Bool, true, false}
use Rattle.esm_model.specs.declared.config.Start.{Start}
use Rattle.esm_model.specs.declared.config.Start.TheVariants.{TrimHorizon, Latest, At}

-- the start is behind all records that there are
abbrev pub is_latest : Start → Bool
is_latest Latest = true
is_latest TrimHorizon = false
is_latest (At moment) = false

-- the start of a mapping that was created at this moment
abbrev pub start_after : ℕ → Start → Start
start_after created Latest = At created
start_after created TrimHorizon = TrimHorizon
start_after created (At moment) = At moment
