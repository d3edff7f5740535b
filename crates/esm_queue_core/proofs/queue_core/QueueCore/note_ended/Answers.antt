use Rattle.std.proofs.Common.{◌≡◌, ◌∙◌, ◌++◌, ◌∷◌, [], true, length, vec_len, rules, arith, sym, ap, subst}
use Rattle.esm_model.specs.declared.entry.Reply.{Reply}
use Rattle.esm_model.specs.declared.entry.Entry.{Entry}
use Rattle.esm_model.specs.declared.entry.Entry.TheVariants.{Ended}
use Rattle.esm_model.specs.Entries.{is_running}
use Rattle.esm_queue_core.specs.declared.standing.Standing.TheVariants.{Left}
use Rattle.esm_queue_core.specs.CoreView.{CoreView}
use Rattle.esm_queue_core.specs.Inside.{parts_of}
use Rattle.esm_queue_core.proofs.Rooms.{ended_fewer}
use Rattle.esm_queue_core.proofs.Added.{noting, kept_noted, ended_notes, kept_pushed, pushed_past, pushed_number}
use Rattle.esm_queue_core.proofs.queue_core.QueueCore.note_ended.Goals as goal

pub push_reserved-requires : goal.push_reserved-requires
push_reserved-requires c =
    let p = parts_of c.self.inside in
    let runs : is_running p.past c.args.job.lane ≡ true = ap (λ (v : CoreView). is_running v.past c.args.job.lane) c.self.view_is ∙ c.requires.runs in
    let fewer = ended_fewer p.past c.args.job.lane c.args.reply 0 runs in
    let room = c.self.invariant.room in
    let all : vec_len c.self.inside.history ≡ length c.self.inside.history.items = search rules in
    omega arith

pub invariant_of-self : goal.invariant_of-self
invariant_of-self c =
    let p = parts_of c.self.inside in
    let old = c.self.inside.history.items in
    let new = c.push_reserved.new.self.items in
    let e : Entry = Ended c.args.job.lane c.args.reply c.raised_to-now.result in
    let runs : is_running p.past c.args.job.lane ≡ true = ap (λ (v : CoreView). is_running v.past c.args.job.lane) c.self.view_is ∙ c.requires.runs in
    let pushed : c.push_reserved.new.self.items ≡ c.self.inside.history.items ++ Ended c.args.job.lane c.args.reply c.raised_to-now.result ∷ []
    = subst (λ (r : Reply). new ≡ old ++ Ended c.args.job.lane r c.raised_to-now.result ∷ []) c.of.ensures c.push_reserved.ensures.items in
    kept_pushed (noting p e p.shut Left) new _ (kept_noted p e p.shut Left c.self.invariant (ended_notes p c.args.job.lane c.args.reply c.raised_to-now.result c.self.invariant c.raised_to-now.ensures.in_time runs))
    (pushed_past old new e pushed) (pushed_number old new e pushed) (sym c.push_reserved.ensures.capacity)
