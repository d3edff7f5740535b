use Rattle.std.proofs.Common.{◌∙◌, length, ap, inl, inr, reverse, subst, sym}
use Rattle.esm_run.specs.Ddb.{IsRead}
use Rattle.esm_run.proofs.Results.{if_ok, on_err, with_err}
use Rattle.esm_run.proofs.ddb_ran.run_mapping.Goals as goal

pub returns-in-Ok-clause-ended : goal.returns-in-Ok-clause-ended
returns-in-Ok-clause-ended g c = if_ok c.run_prepared.result.end (λ e ends. ends c.args.opened.input c.in-Ok.ensures.turned) c.run_prepared.ensures.ended

pub returns-in-Ok-clause-stopped : goal.returns-in-Ok-clause-stopped
returns-in-Ok-clause-stopped g c = with_err c.run_prepared.result.end (λ stopped. stopped c.args.opened.input c.in-Ok.ensures.turned) c.run_prepared.ensures.stopped

pub returns-in-Err-clause-stopped : goal.returns-in-Err-clause-stopped
returns-in-Err-clause-stopped g c =
    on_err c.closed.result.end _ (inr (inl (record {
      mapping = c.args.mapping;
      named = c.requires.named;
      good = c.closed.ensures.good c.args.opened.registry;
      no_trace = ap reverse c.closed.ensures.no_trace;
      uncalled = ap (λ v. v.items) c.closed.ensures.callers;
      unwritten = c.closed.ensures.unwritten;
      unopened = c.closed.ensures.registry;
      read = subst (λ input. IsRead g.S.Source.faults g.S.Source.left c.args.opened.input input) (sym c.closed.ensures.input) c.in-Err.ensures.back;
    })))

pub returns-in-Err-clause-as_many : goal.returns-in-Err-clause-as_many
returns-in-Err-clause-as_many g c = ap (λ v. length v.items) c.closed.ensures.callers ∙ c.requires.callers
