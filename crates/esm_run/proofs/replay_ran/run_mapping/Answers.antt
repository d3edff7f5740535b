use Rattle.std.proofs.Common.{◌∙◌, length, ap, refl, reverse, subst, sym}
use Rattle.esm_mapping.specs.Named.{IsConfigOf}
use Rattle.esm_run.proofs.ReplayRuns.{replay_cut, replay_ends}
use Rattle.esm_run.proofs.Results.{if_ok, on_err}
use Rattle.esm_run.proofs.RunEndings.{handed_on}
use Rattle.esm_traced.specs.Front.{front_text}
use Rattle.esm_model.specs.declared.config.Kind.TheVariants as source
use Rattle.esm_run.proofs.replay_ran.run_mapping.Goals as goal

pub run_replay-run-requires-clause-config : goal.run_replay-run-requires-clause-config
run_replay-run-requires-clause-config g c κs within = subst (λ b. IsConfigOf b c.args.mapping.config) c.requires.kind c.requires.may_run.valid

pub returns-clause-ended : goal.returns-clause-ended
returns-clause-ended g c =
    rw (c.replay_ran.ensures.began, c.replay_ran.ensures.trace, c.replay_ran.ensures.devices)
    (if_ok c.replay_ran.result.end (λ e told. replay_ends _ c.args.text.now c.args.calls c.args.trace _ _ _ c.args.mapping c.args.opened.files (record {
      named = c.requires.named;
      registry = refl;
      journal = refl;
      spare = refl;
      failures = refl;
      opened = c.keeps.ensures;
    }) c.take_first-caller.result c.run_replay-run.result.caller (record { rest = reverse c.take_first-caller.new.callers.items; was = c.take_first-caller.ensures.first; is = c.put_first.ensures })
    c.run_replay-run.result.run.reading.value c.run_replay-run.result.run.counts c.replay_ran.result.front.items c.run_replay-run.result.run.end e c.run_replay-run.ensures.ended
    (handed_on (λ v. v.items) c.run_replay-run.result.run.end c.run_replay-run.result.front c.replay_ran.result.front c.args.trace c.args.trace
    (λ b. front_text b source.Stream (reverse c.run_replay-run.result.run.trace.items)) told.1 refl c.run_replay-run.ensures.front) told.0) c.replay_ran.ensures.ended)

pub returns-clause-stopped : goal.returns-clause-stopped
returns-clause-stopped g c =
    rw (c.replay_ran.ensures.trace, c.replay_ran.ensures.devices)
    (on_err c.replay_ran.result.end _ (replay_cut _ c.args.text.now c.args.calls c.args.trace _ _ _ c.args.mapping c.args.opened.files (record {
      named = c.requires.named;
      registry = refl;
      journal = refl;
      spare = refl;
      failures = refl;
      opened = c.keeps.ensures;
    }) c.take_first-caller.result c.run_replay-run.result.caller (record { rest = reverse c.take_first-caller.new.callers.items; was = c.take_first-caller.ensures.first; is = c.put_first.ensures })
    c.run_replay-run.result.run.reading.value c.run_replay-run.result.run.counts c.run_replay-run.result.run.end c.run_replay-run.ensures.ended c.run_replay-run.ensures.stopped))

pub returns-clause-as_many : goal.returns-clause-as_many
returns-clause-as_many g c =
    ap (λ d. length d.callers.items) c.replay_ran.ensures.devices ∙ (ap length c.put_first.ensures ∙ (sym (ap length c.take_first-caller.ensures.first) ∙ c.requires.callers))
