use Rattle.std.proofs.Common.{List, ℕ, Bor}
use Rattle.esm_ddb.specs.OwnForm.{PassesData}
use Rattle.esm_ddb.proofs.OwnParts.{front_last, some_is}
use Rattle.esm_ddb.proofs.own_element.push_front.Goals as goal

pub returns : goal.returns
returns c =
    let text = c.in-Some.data.now in
    let before = c.args.out.now.items in
    let after = c.push_data.new.out.items in
    let passed = some_is (λ (r : Bor (List ℕ)). PassesData text r.now before after) _ c.in-Some-2.behind c.in-Some-2.is c.in_ok-behind.ensures in
    front_last c.args.text.now text c.in-Some-2.behind.now before after c.after_id.result c.in-Some.ensures passed c.after_id.ensures
