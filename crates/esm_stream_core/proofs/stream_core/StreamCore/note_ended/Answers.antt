use Rattle.std.proofs.Common.{◌∙◌, ℕ, ap, subst}
use Rattle.esm_model.specs.declared.entry.Entry.TheVariants.{Ended}
use Rattle.esm_model.specs.declared.entry.Reply.{Reply}
use Rattle.esm_stream_core.specs.declared.standing.Standing.TheVariants.{Left}
use Rattle.esm_stream_core.specs.CoreView.{CoreView, noted}
use Rattle.esm_stream_core.specs.Inside.{view_of}
use Rattle.esm_stream_core.specs.Adding.{IsPushed}
use Rattle.esm_stream_core.proofs.Keeping.{IsCoreOf}
use Rattle.esm_stream_core.proofs.Ledgers.{moment_is}
use Rattle.esm_stream_core.proofs.Shutting.{ends_quietly, room_for, core_noted}
use Rattle.esm_stream_core.proofs.stream_core.StreamCore.note_ended.Goals as goal
use Rattle.esm_stream_core.proofs.stream_core.StreamCore.note_ended.Goals.{After-drop-job-5}

pub push-requires-clause-room : goal.push-requires-clause-room
push-requires-clause-room c =
    let m = c.raised_to-now.result in
    room_for c.self.inside (Ended c.args.job.lane c.args.reply m) c.self.invariant (ends_quietly c.args.self.now c.self.inside c.args.job.lane c.args.reply m c.self.view_is c.requires.runs.runs c.raised_to-now.ensures.in_time)

all_noted : (c : After-drop-job-5) → IsCoreOf (noted (view_of c.self.inside) (Ended c.args.job.lane c.args.reply c.raised_to-now.result)) (record c.self.inside { ledger = c.push.new.ledger; standing = Left })
all_noted c =
    let m = c.raised_to-now.result in
    core_noted c.progress_stays.ensures c.self.inside c.push.new.ledger (Ended c.args.job.lane c.args.reply m) c.self.invariant
    (ends_quietly c.args.self.now c.self.inside c.args.job.lane c.args.reply m c.self.view_is c.requires.runs.runs c.raised_to-now.ensures.in_time) tt
    (subst (λ (r : Reply). IsPushed c.self.inside.ledger c.push.new.ledger (Ended c.args.job.lane r m)) c.of.ensures c.push.ensures)

pub invariant_of-self : goal.invariant_of-self
invariant_of-self c = (all_noted c).core

pub returns : goal.returns
returns c =
    let v = c.args.self.now in
    (all_noted c).is
    ∙ ap (λ (w : CoreView). noted w (Ended c.args.job.lane c.args.reply c.raised_to-now.result)) c.self.view_is
    ∙ ap (λ (m : ℕ). noted v (Ended c.args.job.lane c.args.reply m)) (moment_is v c.self.inside c.args.moment c.raised_to-now.result c.self.view_is c.self.invariant c.raised_to-now.ensures.value)
