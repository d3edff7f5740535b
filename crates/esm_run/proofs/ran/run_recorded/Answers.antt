use Rattle.std.proofs.Common.{◌∙◌, refl, reverse, sym}
use Rattle.esm_model.specs.declared.config.Kind.TheVariants as source
use Rattle.esm_traced.specs.Front.{front_text}
use Rattle.esm_run.proofs.Results.{if_ok, on_err}
use Rattle.esm_run.proofs.RunEndings.{handed_on, queue_cut, queue_ends, stream_cut, stream_ends}
use Rattle.esm_run.proofs.ran.run_recorded.Goals as goal

pub returns-then-is_stream-clause-ended : goal.returns-then-is_stream-clause-ended
returns-then-is_stream-clause-ended g c =
    rw (c.stream_ran.ensures.began, c.stream_ran.ensures.trace, c.stream_ran.ensures.devices)
    (if_ok c.stream_ran.result.end (λ e told registry named left. stream_ends _ _ _ _ _ c.args.mapping c.args.opened.files c.run_stream-traced.result.run.reading.value (record {
      named = named;
      registry = left;
      journal = refl;
      spare = refl;
      failures = refl;
      opened = c.keeps.ensures;
    }) c.run_stream-traced.ensures.read_first (sym c.is_stream.ensures ∙ c.if-is_stream.true) c.stream_ran.result.front.items c.run_stream-traced.result.run.said c.run_stream-traced.result.run.end e c.run_stream-traced.ensures.said c.run_stream-traced.ensures.ended
    (handed_on (λ v. v.items) c.run_stream-traced.result.run.end c.run_stream-traced.result.front c.stream_ran.result.front c.args.room.trace c.args.words.now.trace
    (λ b. front_text b source.Stream (reverse c.run_stream-traced.result.run.trace.items)) told.1 c.requires.asked c.run_stream-traced.ensures.front) told.0) c.stream_ran.ensures.ended)

pub returns-then-is_stream-clause-stopped : goal.returns-then-is_stream-clause-stopped
returns-then-is_stream-clause-stopped g c =
    rw (c.stream_ran.ensures.trace, c.stream_ran.ensures.devices)
    (on_err c.stream_ran.result.end _ (λ registry named left. stream_cut _ _ _ _ _ c.args.mapping c.args.opened.files c.run_stream-traced.result.run.reading.value (record {
      named = named;
      registry = left;
      journal = refl;
      spare = refl;
      failures = refl;
      opened = c.keeps.ensures;
    }) c.run_stream-traced.ensures.read_first (sym c.is_stream.ensures ∙ c.if-is_stream.true) c.run_stream-traced.result.run.end c.run_stream-traced.ensures.ended c.run_stream-traced.ensures.stopped))

pub returns-else-is_stream-clause-ended : goal.returns-else-is_stream-clause-ended
returns-else-is_stream-clause-ended g c =
    rw (c.queue_ran.ensures.began, c.queue_ran.ensures.trace, c.queue_ran.ensures.devices)
    (if_ok c.queue_ran.result.end (λ e told registry named left. queue_ends _ _ _ _ _ c.args.mapping c.args.opened.files c.run_queue-traced.result.run.reading.value (record {
      named = named;
      registry = left;
      journal = refl;
      spare = refl;
      failures = refl;
      opened = c.keeps.ensures;
    }) c.run_queue-traced.ensures.read_first (sym c.is_stream.ensures ∙ c.if-is_stream.false) c.queue_ran.result.front.items c.run_queue-traced.result.run.said c.run_queue-traced.result.run.end e c.run_queue-traced.ensures.said c.run_queue-traced.ensures.ended
    (handed_on (λ v. v.items) c.run_queue-traced.result.run.end c.run_queue-traced.result.front c.queue_ran.result.front c.args.room.trace c.args.words.now.trace
    (λ b. front_text b c.args.mapping.config.kind (reverse c.run_queue-traced.result.run.trace.items)) told.1 c.requires.asked c.run_queue-traced.ensures.front) told.0) c.queue_ran.ensures.ended)

pub returns-else-is_stream-clause-stopped : goal.returns-else-is_stream-clause-stopped
returns-else-is_stream-clause-stopped g c =
    rw (c.queue_ran.ensures.trace, c.queue_ran.ensures.devices)
    (on_err c.queue_ran.result.end _ (λ registry named left. queue_cut _ _ _ _ _ c.args.mapping c.args.opened.files c.run_queue-traced.result.run.reading.value (record {
      named = named;
      registry = left;
      journal = refl;
      spare = refl;
      failures = refl;
      opened = c.keeps.ensures;
    }) c.run_queue-traced.ensures.read_first (sym c.is_stream.ensures ∙ c.if-is_stream.false) c.run_queue-traced.result.run.end c.run_queue-traced.ensures.ended c.run_queue-traced.ensures.stopped))

pub returns-then-is_stream-clause-as_many : goal.returns-then-is_stream-clause-as_many
returns-then-is_stream-clause-as_many g c = rw c.stream_ran.ensures.devices c.run_stream-traced.ensures.as_many

pub returns-else-is_stream-clause-as_many : goal.returns-else-is_stream-clause-as_many
returns-else-is_stream-clause-as_many g c = rw c.queue_ran.ensures.devices c.run_queue-traced.ensures.as_many
