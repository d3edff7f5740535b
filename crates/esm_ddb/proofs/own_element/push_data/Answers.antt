use Rattle.esm_ddb.proofs.OwnParts.{data_passed}
use Rattle.esm_ddb.proofs.own_element.push_data.Goals as goal

pub returns-then-is_data : goal.returns-then-is_data
returns-then-is_data c =
    data_passed c.args.text.now c.in-Some.at c.args.out.now.items c.push_decoded.new.out.items (c.in_ok-is_data.ensures c.if-is_data.true)
