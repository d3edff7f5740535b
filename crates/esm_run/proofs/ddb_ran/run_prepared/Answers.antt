use Rattle.std.proofs.Common.{◌∙◌, length, ap, refl, reverse, subst, sym}
use Rattle.esm_ddb.specs.Translating.{source_of}
use Rattle.esm_ddb.specs.TurnedInput.{IsTurnedInput}
use Rattle.esm_run.specs.World.{seen_by}
use Rattle.esm_run.proofs.DdbRuns.{ddb_cut, ddb_ends, same_devices_of, under_length}
use Rattle.esm_run.proofs.Results.{if_ok, on_err}
use Rattle.esm_run.proofs.RunEndings.{handed_on}
use Rattle.esm_model.specs.declared.config.Kind.TheVariants as source
use Rattle.esm_traced.specs.Front.{front_text}
use Rattle.esm_run.proofs.ddb_ran.run_prepared.Goals as goal

pub run_stream-traced-requires-clause-callers : goal.run_stream-traced-requires-clause-callers
run_stream-traced-requires-clause-callers g c = λ _ _.
    sym (under_length c.wrap.new.wrapped.items) ∙ ap length c.wrap.ensures.callers ∙ c.requires.callers

pub returns-clause-ended : goal.returns-clause-ended
returns-clause-ended g c =
    rw (c.ddb_ran.ensures.began, c.ddb_ran.ensures.trace)
    (if_ok c.ddb_ran.result.end (λ e told found is. ddb_ends _ _ _ _ _ _ (seen_by c.ddb_ran.result.devices) c.args.mapping c.args.opened.files (record {
      named = c.requires.named;
      registry = c.ddb_ran.ensures.registry;
      journal = refl;
      spare = refl;
      failures = refl;
      opened = c.keeps.ensures;
    }) c.args.prepared.lines c.args.prepared.end
    (subst (λ input. IsTurnedInput g.S.Source.faults g.S.Source.left (source_of c.args.mapping.config) found input c.args.prepared.lines c.args.prepared.end) (sym c.ddb_ran.ensures.input) is)
    c.run_stream-traced.result.run.input c.run_stream-traced.result.run.reading.value c.wrap.new.wrapped.items c.wrap.ensures.callers
    (record { journal = c.run_stream-traced.result.run.journal; spare = c.run_stream-traced.result.run.spare; failures = c.run_stream-traced.result.run.failures; callers = c.run_stream-traced.result.run.callers.items })
    (same_devices_of _ _ c.ddb_ran.ensures.disks.0 c.ddb_ran.ensures.disks.1 c.ddb_ran.ensures.disks.2 c.ddb_ran.ensures.callers)
    (c.run_stream-traced.ensures.read_first refl) c.ddb_ran.result.front.items c.run_stream-traced.result.run.said c.run_stream-traced.result.run.end e c.run_stream-traced.ensures.said c.run_stream-traced.ensures.ended
    (handed_on (λ v. v.items) c.run_stream-traced.result.run.end c.run_stream-traced.result.front c.ddb_ran.result.front c.args.prepared.room.trace c.args.trace
    (λ b. front_text b source.Stream (reverse c.run_stream-traced.result.run.trace.items)) told.1 c.requires.asked c.run_stream-traced.ensures.front) told.0) c.ddb_ran.ensures.ended)

pub returns-clause-stopped : goal.returns-clause-stopped
returns-clause-stopped g c =
    rw c.ddb_ran.ensures.trace
    (on_err c.ddb_ran.result.end _ (λ found is. ddb_cut _ _ _ _ _ _ (seen_by c.ddb_ran.result.devices) c.args.mapping c.args.opened.files (record {
      named = c.requires.named;
      registry = c.ddb_ran.ensures.registry;
      journal = refl;
      spare = refl;
      failures = refl;
      opened = c.keeps.ensures;
    }) c.args.prepared.lines c.args.prepared.end
    (subst (λ input. IsTurnedInput g.S.Source.faults g.S.Source.left (source_of c.args.mapping.config) found input c.args.prepared.lines c.args.prepared.end) (sym c.ddb_ran.ensures.input) is)
    c.run_stream-traced.result.run.input c.run_stream-traced.result.run.reading.value c.wrap.new.wrapped.items c.wrap.ensures.callers
    (record { journal = c.run_stream-traced.result.run.journal; spare = c.run_stream-traced.result.run.spare; failures = c.run_stream-traced.result.run.failures; callers = c.run_stream-traced.result.run.callers.items })
    (same_devices_of _ _ c.ddb_ran.ensures.disks.0 c.ddb_ran.ensures.disks.1 c.ddb_ran.ensures.disks.2 c.ddb_ran.ensures.callers)
    (c.run_stream-traced.ensures.read_first refl) c.run_stream-traced.result.run.end c.run_stream-traced.ensures.ended c.run_stream-traced.ensures.stopped))

pub returns-clause-as_many : goal.returns-clause-as_many
returns-clause-as_many g c = ap length c.ddb_ran.ensures.callers ∙ under_length c.run_stream-traced.result.run.callers.items ∙ c.run_stream-traced.ensures.as_many
