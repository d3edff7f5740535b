use Rattle.std.proofs.Common.{◌∙◌, length, ap, inl, reverse, subst, sym}
use Rattle.esm_io.specs.Meanings.{disk as meaning}
use Rattle.esm_run.specs.Asks.{IsRegistryLeft}
use Rattle.esm_run.proofs.Results.{on_err}
use Rattle.esm_run.proofs.ran.run_mapping.Goals as goal

pub returns-in-Err-clause-ended : goal.returns-in-Err-clause-ended
returns-in-Err-clause-ended g c = rw c.closed.ensures.end tt

pub returns-in-Err-clause-stopped : goal.returns-in-Err-clause-stopped
returns-in-Err-clause-stopped g c =
    on_err c.closed.result.end _ (λ registry named left. inl (record {
      untouched = record { no_trace = ap reverse c.closed.ensures.no_trace; unread = c.closed.ensures.input; uncalled = ap (λ v. v.items) c.closed.ensures.callers };
      unwritten = c.closed.ensures.unwritten;
      registry = subst (λ disk. IsRegistryLeft (meaning g.D.Disk) c.args.words.now.which registry disk) (sym c.closed.ensures.registry) left;
    }))

pub returns-in-Err-clause-as_many : goal.returns-in-Err-clause-as_many
returns-in-Err-clause-as_many g c = ap (λ v. length v.items) c.closed.ensures.callers ∙ c.requires.callers
