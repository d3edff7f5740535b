use Rattle.esm_ddb.proofs.OwnParts.{tail_passed}
use Rattle.esm_ddb.proofs.own_element.tail_of.Goals as goal

pub returns : goal.returns
returns c =
    tail_passed c.args.text.now c.in_ok-role.role.now c.in_ok-behind_role.behind_role.now c.in_ok-region.region.now c.in_ok-behind_region.behind_region.now c.in_ok-arn.arn.now
    c.in_ok-behind_arn.behind_arn.now c.in_ok-rest.rest.now
    c.in_ok-role.ensures c.in_ok-behind_role.ensures c.in_ok-region.ensures c.in_ok-behind_region.ensures c.in_ok-arn.ensures c.in_ok-behind_arn.ensures c.in_ok-rest.ensures
