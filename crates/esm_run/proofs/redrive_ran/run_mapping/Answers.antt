use Rattle.std.proofs.Common.{◌∙◌, length, ap, refl, reverse, subst, sym}
use Rattle.esm_mapping.specs.Named.{IsConfigOf}
use Rattle.esm_run.proofs.RedriveRuns.{redrive_cut, redrive_ends}
use Rattle.esm_run.proofs.Results.{if_ok, on_err}
use Rattle.esm_run.proofs.RunEndings.{handed_on}
use Rattle.esm_traced.specs.Front.{front_text}
use Rattle.esm_run.proofs.redrive_ran.run_mapping.Goals as goal

pub run_redrive-run-requires-clause-config : goal.run_redrive-run-requires-clause-config
run_redrive-run-requires-clause-config g c κs within = subst (λ b. IsConfigOf b c.args.mapping.config) c.requires.kind c.requires.may_run.valid

pub run_redrive-run-requires-clause-patterns : goal.run_redrive-run-requires-clause-patterns
run_redrive-run-requires-clause-patterns g c κs within = c.requires.may_run.patterns

pub returns-clause-ended : goal.returns-clause-ended
returns-clause-ended g c =
    rw (c.redrive_ran.ensures.began, c.redrive_ran.ensures.trace, c.redrive_ran.ensures.devices)
    (if_ok c.redrive_ran.result.end (λ e told. redrive_ends _ c.args.words.now _ _ _ c.args.mapping c.args.opened.files (record {
      named = c.requires.named;
      registry = refl;
      journal = refl;
      spare = refl;
      failures = refl;
      opened = c.keeps.ensures;
    }) c.take_first-caller.result c.run_redrive-run.result.caller (record { rest = reverse c.take_first-caller.new.callers.items; was = c.take_first-caller.ensures.first; is = c.put_first.ensures })
    c.run_redrive-run.result.run.reading.value c.redrive_ran.result.front.items c.run_redrive-run.result.run.said c.run_redrive-run.result.run.end e c.run_redrive-run.ensures.said c.run_redrive-run.ensures.ended
    (handed_on (λ v. v.items) c.run_redrive-run.result.run.end c.run_redrive-run.result.front c.redrive_ran.result.front c.args.words.now.trace c.args.words.now.trace
    (λ b. front_text b c.args.mapping.config.kind (reverse c.run_redrive-run.result.run.trace.items)) told.1 refl c.run_redrive-run.ensures.front) told.0) c.redrive_ran.ensures.ended)

pub returns-clause-stopped : goal.returns-clause-stopped
returns-clause-stopped g c =
    rw (c.redrive_ran.ensures.trace, c.redrive_ran.ensures.devices)
    (on_err c.redrive_ran.result.end _ (redrive_cut _ c.args.words.now _ _ _ c.args.mapping c.args.opened.files (record {
      named = c.requires.named;
      registry = refl;
      journal = refl;
      spare = refl;
      failures = refl;
      opened = c.keeps.ensures;
    }) c.take_first-caller.result c.run_redrive-run.result.caller (record { rest = reverse c.take_first-caller.new.callers.items; was = c.take_first-caller.ensures.first; is = c.put_first.ensures })
    c.run_redrive-run.result.run.reading.value c.run_redrive-run.result.run.end c.run_redrive-run.ensures.ended c.run_redrive-run.ensures.stopped))

pub returns-clause-as_many : goal.returns-clause-as_many
returns-clause-as_many g c =
    ap (λ d. length d.callers.items) c.redrive_ran.ensures.devices ∙ (ap length c.put_first.ensures ∙ (sym (ap length c.take_first-caller.ensures.first) ∙ c.requires.callers))
