use Rattle.std.proofs.Common.{◌≡◌, ◌∙◌, sym, ap, ℕ}
use Rattle.esm_queue_model.specs.QueueSetting.{is_found}
use Rattle.esm_queue_core.proofs.Bringing.{came_deleted, found_as, last_state, last_number, last_deleted}
use Rattle.esm_redrive_core.proofs.paying.bring_one.Goals as goal

pub returns-then-gone-clause-state : goal.returns-then-gone-clause-state
returns-then-gone-clause-state c = λ s same.
    let q = c.args.queue.now.state in
    let is = came_deleted q c.came.new.self.state c.delete.new.self.state c.args.message c.args.moment c.in-Ok.place c.is_some-gone.result c.requires.in_time c.in-Ok.ensures.ok c.in-Ok.ensures.place c.delete.ensures.state c.if-gone.true in
    let found : is_found s c.in-Ok.place ≡ c.is_some-gone.result = found_as _ _ s c.args.said.now c.in-Ok.place c.deleted.ensures same ∙ sym c.is_some-gone.ensures in
    last_state s q c.delete.new.self.state c.args.message c.args.moment c.is_some-gone.result is (ap (λ (i : ℕ). is_found s i) (sym c.in-Ok.ensures.place) ∙ found)

pub returns-then-gone-clause-number : goal.returns-then-gone-clause-number
returns-then-gone-clause-number c =
    let q = c.args.queue.now.state in
    let is = came_deleted q c.came.new.self.state c.delete.new.self.state c.args.message c.args.moment c.in-Ok.place c.is_some-gone.result c.requires.in_time c.in-Ok.ensures.ok c.in-Ok.ensures.place c.delete.ensures.state c.if-gone.true in
    last_number q c.delete.new.self.state c.args.message c.args.moment c.is_some-gone.result is

pub returns-then-gone-clause-deleted : goal.returns-then-gone-clause-deleted
returns-then-gone-clause-deleted c =
    let q = c.args.queue.now.state in
    let is = came_deleted q c.came.new.self.state c.delete.new.self.state c.args.message c.args.moment c.in-Ok.place c.is_some-gone.result c.requires.in_time c.in-Ok.ensures.ok c.in-Ok.ensures.place c.delete.ensures.state c.if-gone.true in
    last_deleted q c.delete.new.self.state c.args.message c.args.moment c.is_some-gone.result is
