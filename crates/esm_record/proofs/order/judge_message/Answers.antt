use Rattle.std.proofs.Common.{Bool, ap}
use Rattle.esm_model.specs.declared.item.Item.TheVariants.{Queue}
use Rattle.esm_record.specs.Ids.{stood_in}
use Rattle.esm_record.specs.Input.{has_stood, as_new}
use Rattle.esm_record.proofs.Follows.{item_fails}
use Rattle.esm_record.proofs.order.judge_message.Goals as goal

pub returns-in-Err-clause-item : goal.returns-in-Err-clause-item
returns-in-Err-clause-item c = λ items follows.
    item_fails Queue c.in-Err.refusal (as_new (stood_in c.args.seen.now.ids c.args.given.id) c.args.given) (as_new (has_stood c.args.given.id items) c.args.given)
    (ap (λ (stood : Bool). as_new stood c.args.given) (follows.id c.args.given.id))
    c.in-Err.ensures.item
