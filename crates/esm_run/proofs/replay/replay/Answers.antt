use Rattle.std.proofs.Common.{◌∙◌, ap, inr, length, reverse, subst, sym}
use Rattle.esm_run.specs.Replay.{IsReplayCut, ReplayCause}
use Rattle.esm_run.specs.Ran.{IsReport}
use Rattle.esm_run.specs.World.{run_tells, seen, seen_by}
use Rattle.esm_run.proofs.Alone.{not_bad_replay_words}
use Rattle.esm_run.proofs.Results.{at_ok, by_result, if_ok}
use Rattle.esm_run.proofs.Worlds.{of_worlds, told_of_worlds}
use Rattle.esm_run.proofs.replay.replay.Goals as goal

pub run_replay_words-ran-requires-clause-callers : goal.run_replay_words-ran-requires-clause-callers
run_replay_words-ran-requires-clause-callers g c κs within = ap (λ d. length d.callers.items) c.parted-devices.ensures.devices ∙ c.requires

pub told-requires : goal.told-requires
told-requires g c = λ nothing.
    if_ok c.run_replay_words-ran.result.end
    (λ e ends. (subst (λ b. IsReport (reverse c.run_replay_words-ran.result.trace.items) e b ends.report.report) nothing ends.report.is_report).alone) c.run_replay_words-ran.ensures.ended

pub returns-clause-outcome : goal.returns-clause-outcome
returns-clause-outcome g c = λ known.
    let o = run_tells g.C.Clock g.F.Caller g.D.Disk g.S.Source in
    told_of_worlds g.K.Sink.faults g.K.Sink.written (λ h old new. ReplayCause o c.args.text c.args.calls c.args.trace h old new)
    (reverse c.run_replay_words-ran.result.trace.items) (reverse c.told.result.world.trace.items) (seen_by c.parted-devices.result.0) (seen c.args.world) (seen_by c.run_replay_words-ran.result.devices) (seen c.told.result.world)
    c.parted-devices.result.1.out c.args.world.out c.told.result.world.out c.run_replay_words-ran.result.front.items c.run_replay_words-ran.result.began c.told.result.status c.run_replay_words-ran.result.end
    (sym (ap (λ w. reverse w.trace.items) c.told.ensures.world)) (ap (λ d. seen_by d) c.parted-devices.ensures.devices) (sym (ap (λ w. seen w) c.told.ensures.world)) (ap (λ r. r.out) c.parted-devices.ensures.rest)
    c.run_replay_words-ran.ensures.ended (c.told.ensures.told known)

pub returns-clause-want_of_memory : goal.returns-clause-want_of_memory
returns-clause-want_of_memory g c = λ short.
    let o = run_tells g.C.Clock g.F.Caller g.D.Disk g.S.Source in
    of_worlds (λ h old new. IsReplayCut o c.args.text c.args.calls c.args.trace h old new)
    (reverse c.run_replay_words-ran.result.trace.items) (reverse c.told.result.world.trace.items) (seen_by c.parted-devices.result.0) (seen c.args.world) (seen_by c.run_replay_words-ran.result.devices) (seen c.told.result.world)
    (sym (ap (λ w. reverse w.trace.items) c.told.ensures.world)) (ap (λ d. seen_by d) c.parted-devices.ensures.devices) (sym (ap (λ w. seen w) c.told.ensures.world))
    (by_result c.run_replay_words-ran.result.end (λ e ends. inr (inr (e, ends.ended))) (λ stopped. stopped) c.run_replay_words-ran.ensures.ended c.run_replay_words-ran.ensures.stopped)

pub returns-clause-good_words : goal.returns-clause-good_words
returns-clause-good_words g c = λ is.
    not_bad_replay_words _ _ _ _ _ _ _ (at_ok _ c.run_replay_words-ran.result.end _ (c.told.ensures.words is) c.run_replay_words-ran.ensures.ended).ended

pub returns-clause-untold : goal.returns-clause-untold
returns-clause-untold g c = λ short. c.told.ensures.untold short ∙ ap (λ r. r.out) c.parted-devices.ensures.rest

pub returns-clause-as_many : goal.returns-clause-as_many
returns-clause-as_many g c = ap (λ w. length w.callers.items) c.told.ensures.world ∙ c.run_replay_words-ran.ensures.as_many

pub returns-clause-registry : goal.returns-clause-registry
returns-clause-registry g c = ap (λ w. w.registry) c.told.ensures.world ∙ c.run_replay_words-ran.ensures.registry ∙ ap (λ d. d.registry) c.parted-devices.ensures.devices

pub returns-clause-kept : goal.returns-clause-kept
returns-clause-kept g c = (
  ap (λ w. w.clock) c.told.ensures.world ∙ ap (λ r. r.clock) c.parted-devices.ensures.rest,
  ap (λ w. w.door) c.told.ensures.world ∙ ap (λ r. r.door) c.parted-devices.ensures.rest,
)
