use Rattle.esm_ddb.proofs.OwnParts.{id_last}
use Rattle.esm_ddb.proofs.own_element.after_id.Goals as goal

pub returns : goal.returns
returns c =
    id_last c.args.text.now c.in_ok-moment.moment.now c.in_ok-behind_moment.behind_moment.now c.in_ok-id.id.now c.after_text.result
    c.in_ok-moment.ensures c.in_ok-behind_moment.ensures c.in_ok-id.ensures c.after_text.ensures
