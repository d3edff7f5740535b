use Rattle.std.proofs.Common.{◌∙◌, ap, is_some, length, List, map, reverse, subst, sym}
use Rattle.std.specs.Prelude.{IfSome, is_ok}
use Rattle.std.proofs.lemmas.List.{length-map}
use Rattle.esm_model.specs.declared.entry.Entry.{Entry}
use Rattle.esm_recorder.specs.Recorder.{new_recorder}
use Rattle.esm_trace.specs.InOrder.{AreOfBatchers}
use Rattle.esm_trace.specs.declared.batchers.Batchers.TheVariants.{OfStream}
use Rattle.esm_traced.proofs.Below.{ended_below, stopped_below}
use Rattle.esm_traced.proofs.Fronts.{stream_front}
use Rattle.esm_traced.proofs.Results.{if_ok, with_err}
use Rattle.esm_traced.proofs.stream.run_stream.Goals as goal

pub run_stream-run-requires-clause-callers : goal.run_stream-run-requires-clause-callers
run_stream-run-requires-clause-callers g c κs within =
    ap length c.record.ensures.recorders ∙ length-map c.args.callers.items (new_recorder c.args.room.trace) ∙ c.requires.callers

pub front_by-front-requires : goal.front_by-front-requires
front_by-front-requires g c = λ traced ended.
    subst (λ (es : List Entry). IfSome c.taken_apart-run.result.lists (λ v. AreOfBatchers (OfStream c.args.config.factor) (reverse es) (map (λ rs. rs.items) v.items)))
    (sym (c.deref.ensures.value ∙ ap (λ r. r.trace.items) c.taken_apart-run.ensures.run))
    (stream_front _ _ _ _ c.args.calls c.args.files c.args.input c.run_stream-run.result.input c.run_stream-run.result.reading.value
    (reverse c.run_stream-run.result.trace.items) c.logs_tell.ensures.kept c.args.room.trace c.args.callers.items c.record.new.recorders.items c.record.ensures.recorders
    (record { journal = c.run_stream-run.result.journal; spare = c.run_stream-run.result.spare; failures = c.run_stream-run.result.failures; callers = c.run_stream-run.result.callers.items })
    c.taken_apart-run.ensures.recorded (c.run_stream-run.ensures.as_many ∙ sym c.requires.callers) (λ v. map (λ rs. rs.items) v.items) (is_some c.args.room.lists) c.taken_apart-run.result.lists c.taken_apart-run.ensures.kept
    c.calls_tell_replies.ensures.stream c.args.start c.run_stream-run.result.end c.run_stream-run.ensures.ended
    (sym (ap (λ r. is_ok r.end) c.taken_apart-run.ensures.run) ∙ sym c.is_ok-ended.ensures.value ∙ ended))

pub returns-clause-ended : goal.returns-clause-ended
returns-clause-ended g c =
    rw (c.taken_apart-run.ensures.run, c.taken_apart-run.ensures.callers)
    (if_ok c.run_stream-run.result.end (ended_below _ _ _ _ c.args.start c.args.calls c.args.files c.args.input c.run_stream-run.result.input
    (reverse c.run_stream-run.result.trace.items) c.logs_tell.ensures.below c.args.room.trace c.args.callers.items c.record.new.recorders.items c.record.ensures.recorders
    (record { journal = c.run_stream-run.result.journal; spare = c.run_stream-run.result.spare; failures = c.run_stream-run.result.failures; callers = c.run_stream-run.result.callers.items })
    c.taken_apart-run.ensures.recorded (c.run_stream-run.ensures.as_many ∙ sym c.requires.callers) c.run_stream-run.result.reading.value) c.run_stream-run.ensures.ended)

pub returns-clause-stopped : goal.returns-clause-stopped
returns-clause-stopped g c =
    rw (c.taken_apart-run.ensures.run, c.taken_apart-run.ensures.callers)
    (with_err c.run_stream-run.result.end (stopped_below _ g.S.Source.faults _ _ c.args.start c.args.calls c.args.files c.args.input c.run_stream-run.result.input
    (reverse c.run_stream-run.result.trace.items) c.logs_tell.ensures.below c.args.room.trace c.args.callers.items c.record.new.recorders.items c.record.ensures.recorders
    (record { journal = c.run_stream-run.result.journal; spare = c.run_stream-run.result.spare; failures = c.run_stream-run.result.failures; callers = c.run_stream-run.result.callers.items })
    c.taken_apart-run.ensures.recorded (c.run_stream-run.ensures.as_many ∙ sym c.requires.callers)) c.run_stream-run.ensures.stopped)

pub returns-clause-as_many : goal.returns-clause-as_many
returns-clause-as_many g c =
    ap length c.taken_apart-run.ensures.callers ∙ length-map c.run_stream-run.result.callers.items (λ r. r.caller) ∙ c.run_stream-run.ensures.as_many

pub returns-clause-read_first : goal.returns-clause-read_first
returns-clause-read_first g c = rw c.taken_apart-run.ensures.run c.run_stream-run.ensures.read_first

pub returns-clause-said : goal.returns-clause-said
returns-clause-said g c = rw c.taken_apart-run.ensures.run c.run_stream-run.ensures.said
