use Rattle.std.proofs.Common.{inl, refl}
use Rattle.esm_io.specs.Meanings.{disk as meaning}
use Rattle.esm_run.proofs.Results.{if_ok, on_err}
use Rattle.esm_run.proofs.RunEndings.{refused_ends, registry_unopened}
use Rattle.esm_run.proofs.Serves.{only_read_same}
use Rattle.esm_run.proofs.ran.run_words.Goals as goal

pub returns-in-Err-clause-ended : goal.returns-in-Err-clause-ended
returns-in-Err-clause-ended g c =
    let m = meaning g.D.Disk in
    let disk = c.args.devices.registry in
    rw (c.not_begun.ensures.end, c.not_begun.ensures.nothing, c.not_begun.ensures.trace, c.not_begun.ensures.devices)
    (if_ok c.ending_of_files.result (λ e tells. refused_ends _ _ _ _ _ _ c.not_begun.ensures.front (record {
      untouched = record { no_trace = refl; unread = refl; uncalled = refl };
      unwritten = c.in-Err.ensures.refused.unwritten;
      registry = registry_unopened m c.args.words.which disk (only_read_same m disk (λ bytes. (g.met.D.Disk g.world.𝓛 g.world.𝓜 g.world.𝓡 ((λ s x. x), (λ x. x), (λ x. x), λ x. x)).only_now disk bytes));
    }) c.in-Err.refused.why e c.in-Err.ensures.refused refl tells) c.ending_of_files.ensures.told)

pub returns-in-Err-clause-stopped : goal.returns-in-Err-clause-stopped
returns-in-Err-clause-stopped g c =
    let m = meaning g.D.Disk in
    let disk = c.args.devices.registry in
    rw (c.not_begun.ensures.trace, c.not_begun.ensures.devices)
    (on_err c.not_begun.result.end _ (inl (record {
      untouched = record { no_trace = refl; unread = refl; uncalled = refl };
      unwritten = c.in-Err.ensures.refused.unwritten;
      registry = registry_unopened m c.args.words.which disk (only_read_same m disk (λ bytes. (g.met.D.Disk g.world.𝓛 g.world.𝓜 g.world.𝓡 ((λ s x. x), (λ x. x), (λ x. x), λ x. x)).only_now disk bytes));
    })))

pub returns-in-Err-clause-registry : goal.returns-in-Err-clause-registry
returns-in-Err-clause-registry g c =
    let m = meaning g.D.Disk in
    let disk = c.args.devices.registry in
    rw c.not_begun.ensures.devices (registry_unopened m c.args.words.which disk (only_read_same m disk (λ bytes. (g.met.D.Disk g.world.𝓛 g.world.𝓜 g.world.𝓡 ((λ s x. x), (λ x. x), (λ x. x), λ x. x)).only_now disk bytes)))

pub returns-clause-ended : goal.returns-clause-ended
returns-clause-ended g c =
    let opened = c.in-Ok.ensures.opened in rw (← opened.0, ← opened.1, ← opened.2) c.run_opened.ensures.ended

pub returns-clause-stopped : goal.returns-clause-stopped
returns-clause-stopped g c =
    let opened = c.in-Ok.ensures.opened in rw (← opened.0, ← opened.1, ← opened.2) c.run_opened.ensures.stopped
