use Rattle.std.proofs.Common.{◌≡◌, ◌∙◌, List, reverse, subst, sym}
use Rattle.std.specs.Prelude.{IfSome}
use Rattle.esm_model.specs.declared.entry.Entry.{Entry}
use Rattle.esm_trace.specs.Trace.{replies_of}
use Rattle.esm_traced.proofs.Fronts.{replay_front}
use Rattle.esm_traced.proofs.ReplayBelow.{replay_ended_below, replay_stopped_below}
use Rattle.esm_traced.proofs.Results.{if_ok, with_err}
use Rattle.esm_traced.proofs.replay.run_replay.Goals as goal

pub front_of-front-requires : goal.front_of-front-requires
front_of-front-requires g c = λ traced ended.
    subst (λ (es : List Entry). IfSome c.into_parts-caller.result.1 (λ replies. replies.items ≡ replies_of (reverse es)))
    (sym c.deref.ensures.value)
    (replay_front _ _ _ _ c.args.calls c.args.files c.args.input c.run_replay-run.result.input c.run_replay-run.result.reading.value c.log_tells.ensures c.args.trace c.args.caller
    c.run_replay-run.new.caller c.into_parts-caller.ensures.recorded (reverse c.run_replay-run.result.trace.items) c.run_replay-run.result.counts
    (record { journal = c.run_replay-run.result.journal; spare = c.run_replay-run.result.spare; failures = c.run_replay-run.result.failures })
    (λ v. v.items) c.into_parts-caller.result.1 c.into_parts-caller.ensures.kept c.run_replay-run.result.end c.new-recorder.result c.new-recorder.ensures c.run_replay-run.ensures.ended
    (sym c.is_ok-ended.ensures.value ∙ ended))

pub returns-clause-ended : goal.returns-clause-ended
returns-clause-ended g c =
    rw c.into_parts-caller.ensures.caller
    (if_ok c.run_replay-run.result.end (replay_ended_below _ _ _ _ c.args.calls c.args.files c.args.input c.run_replay-run.result.input c.run_replay-run.result.reading.value c.log_tells.ensures c.args.trace c.args.caller
    c.run_replay-run.new.caller c.into_parts-caller.ensures.recorded (reverse c.run_replay-run.result.trace.items) c.run_replay-run.result.counts
    (record { journal = c.run_replay-run.result.journal; spare = c.run_replay-run.result.spare; failures = c.run_replay-run.result.failures })
    c.new-recorder.result c.new-recorder.ensures) c.run_replay-run.ensures.ended)

pub returns-clause-stopped : goal.returns-clause-stopped
returns-clause-stopped g c =
    rw c.into_parts-caller.ensures.caller
    (with_err c.run_replay-run.result.end (replay_stopped_below _ _ _ _ c.args.calls c.args.files c.args.input c.run_replay-run.result.input c.run_replay-run.result.reading.value c.log_tells.ensures c.args.trace c.args.caller
    c.run_replay-run.new.caller c.into_parts-caller.ensures.recorded (reverse c.run_replay-run.result.trace.items) c.run_replay-run.result.counts
    (record { journal = c.run_replay-run.result.journal; spare = c.run_replay-run.result.spare; failures = c.run_replay-run.result.failures })
    c.new-recorder.result c.new-recorder.ensures) c.run_replay-run.ensures.stopped)
