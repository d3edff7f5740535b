use Rattle.std.proofs.Common.{ℕ, List, Option, refl, ap}
use Rattle.esm_model.specs.declared.item.Item.TheVariants.{Stream}
use Rattle.esm_record.specs.Input.{last_number, in_order}
use Rattle.esm_record.specs.Numbers.{number_in}
use Rattle.esm_record.proofs.Follows.{item_fails, record_follows}
use Rattle.esm_record.proofs.order.judge_record.Goals as goal

pub returns-in-Err-clause-item : goal.returns-in-Err-clause-item
returns-in-Err-clause-item c = λ items follows.
    item_fails Stream c.in-Err.refusal (in_order (number_in c.args.seen.now.numbers c.args.given.shard) c.args.given) (in_order (last_number c.args.given.shard items) c.args.given)
    (ap (λ (last : Option (List ℕ)). in_order last c.args.given) (follows.number c.args.given.shard))
    c.in-Err.ensures.item

pub returns-in-Ok-clause-kept : goal.returns-in-Ok-clause-kept
returns-in-Ok-clause-kept c = λ items follows. record_follows items c.in-Ok.record c.args.seen.now _ follows c.in-Ok.ensures.kept refl
