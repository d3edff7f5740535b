use Rattle.std.proofs.Common.{inl, refl}
use Rattle.esm_run.proofs.DdbRuns.{ddb_refused}
use Rattle.esm_run.proofs.Results.{if_ok, on_err}
use Rattle.esm_run.proofs.ddb_ran.run_ddb.Goals as goal

pub returns-in-Err-clause-ended : goal.returns-in-Err-clause-ended
returns-in-Err-clause-ended g c =
    rw (c.not_begun.ensures.end, c.not_begun.ensures.nothing, c.not_begun.ensures.trace, c.not_begun.ensures.devices)
    (if_ok c.ending_of_files.result (λ e tells. ddb_refused _ _ _ _ _ _ _ _ c.not_begun.ensures.front (record {
      untouched = record { no_trace = refl; unread = refl; uncalled = refl };
      unwritten = c.in-Err.ensures.refused.unwritten;
      registry = refl;
    }) c.in-Err.refused.why e c.in-Err.ensures.refused refl tells) c.ending_of_files.ensures.told)

pub returns-in-Err-clause-stopped : goal.returns-in-Err-clause-stopped
returns-in-Err-clause-stopped g c =
    rw (c.not_begun.ensures.trace, c.not_begun.ensures.devices)
    (on_err c.not_begun.result.end _ (inl (record {
      untouched = record { no_trace = refl; unread = refl; uncalled = refl };
      unwritten = c.in-Err.ensures.refused.unwritten;
      registry = refl;
    })))
