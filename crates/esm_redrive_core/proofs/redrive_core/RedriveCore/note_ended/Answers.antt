use Rattle.std.proofs.Common.{◌≡◌, ◌∙◌, ◌++◌, ◌∷◌, [], true, false, length, vec_len, rules, arith, sym, ap, subst}
use Rattle.esm_model.specs.declared.lane.LaneId.{LaneId}
use Rattle.esm_model.specs.declared.entry.Reply.{Reply}
use Rattle.esm_model.specs.declared.entry.Entry.{Entry}
use Rattle.esm_model.specs.declared.entry.Entry.TheVariants.{Ended}
use Rattle.esm_model.specs.Entries.{is_running}
use Rattle.esm_queue_model.specs.QueueEntries.{queue_lane}
use Rattle.esm_redrive_core.specs.RedriveView.{RedriveView}
use Rattle.esm_redrive_core.specs.Inside.{parts_of}
use Rattle.esm_redrive_core.proofs.Keeping.{kept_pushed, pushed_past, pushed_number}
use Rattle.esm_redrive_core.proofs.Noting.{noting, kept_noted, end_notes, end_room}
use Rattle.esm_redrive_core.proofs.redrive_core.RedriveCore.note_ended.Goals as goal

pub push_reserved-requires : goal.push_reserved-requires
push_reserved-requires c =
    let p = parts_of c.self.inside in
    let runs : is_running p.past (queue_lane 0) ≡ true = ap (λ (v : RedriveView). is_running v.past (queue_lane 0)) c.self.view_is ∙ c.requires.runs in
    let room = end_room p c.self.invariant runs in
    let all : vec_len c.self.inside.history ≡ length c.self.inside.history.items = search rules in
    omega (arith, room, all)

pub invariant_of-self : goal.invariant_of-self
invariant_of-self c =
    let p = parts_of c.self.inside in
    let old = c.self.inside.history.items in
    let new = c.push_reserved.new.self.items in
    let e : Entry = Ended (queue_lane 0) c.args.reply c.raised_to-now.result in
    let runs : is_running p.past (queue_lane 0) ≡ true = ap (λ (v : RedriveView). is_running v.past (queue_lane 0)) c.self.view_is ∙ c.requires.runs in
    let pushed : new ≡ old ++ e ∷ []
    = subst (λ (l : LaneId). new ≡ old ++ Ended l c.args.reply c.raised_to-now.result ∷ []) c.requires.lane (subst (λ (r : Reply). new ≡ old ++ Ended c.args.job.lane r c.raised_to-now.result ∷ []) c.of.ensures c.push_reserved.ensures.items) in
    kept_pushed (noting p e p.shut false) new _ (kept_noted p e p.shut false c.self.invariant (end_notes p c.args.reply c.raised_to-now.result c.self.invariant runs c.raised_to-now.ensures.in_time))
    (pushed_past old new e pushed) (pushed_number old new e pushed) (sym c.push_reserved.ensures.capacity)
