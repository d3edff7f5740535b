-- The ruling on a batch. Source: the Lambda Developer Guide, error handling for Kinesis (`MaximumRetryAttempts`,
-- `BisectBatchOnFunctionError`, `ReportBatchItemFailures`). This product's own: a call that was not run adds no try, a
-- failed batch is split after its first `count - count / 2` records, and a split adds no try.
use Rattle.std.specs.Prelude.{ℕ, ◌+◌, ◌-◌, ◌/◌, nat_lt, min, Bool, true, false, ◌&&◌, Option, Some, None, if◌then◌else◌}
use Rattle.esm_model.specs.declared.limits.TheConstants.{MAX_TRIES}
use Rattle.esm_model.specs.declared.config.Config.{Config}
use Rattle.esm_model.specs.declared.verdict.Reading.{Reading}
use Rattle.esm_model.specs.declared.verdict.Reading.TheVariants.{Whole, NotRun, Failed, UpTo}
use Rattle.esm_model.specs.declared.verdict.Rest.{Rest}
use Rattle.esm_model.specs.declared.verdict.Rest.TheVariants as rest
use Rattle.esm_model.specs.declared.verdict.Verdict.{Verdict}

-- a number of tries, capped at `MAX_TRIES`
abbrev pub capped_tries : ℕ → ℕ
capped_tries n = min MAX_TRIES n

-- the rest of a batch that failed: given up where one more try exceeds the retries
abbrev pub after_try : Option ℕ → ℕ → Rest
after_try None tries = rest.Counted
after_try (Some retries) tries = if nat_lt retries (tries + 1) then rest.Exhausted else rest.Counted

-- this many succeeded, and what becomes of the others
abbrev pub verdict : ℕ → Rest → Verdict
verdict succeeded rest = record { succeeded = succeeded; rest = rest }

-- on a batch of `count` records that failed `tries` times before; a final call has no records
abbrev pub ruling : Config → ℕ → ℕ → Reading → Verdict
ruling config count tries Whole = verdict count rest.Nothing
ruling config count tries NotRun = verdict 0 rest.Again
ruling config count tries Failed =
    if config.bisect && nat_lt 1 count then verdict 0 (rest.Split (count - count / 2)) else verdict 0 (after_try config.retries tries)
ruling config count tries (UpTo p) =
    if config.bisect then verdict p (rest.Split (count - p)) else verdict p (after_try config.retries tries)

-- the rest counts one more try
abbrev pub is_counted : Rest → Bool
is_counted rest.Counted = true
is_counted _ = false

-- the rest is a failure, so the lane waits before its next call
abbrev pub is_failure : Rest → Bool
is_failure rest.Again = true
is_failure rest.Counted = true
is_failure _ = false
