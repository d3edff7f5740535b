use Rattle.std.proofs.Common.{List, ℕ, Bor}
use Rattle.esm_ddb.specs.OwnForm.{PassesFront}
use Rattle.esm_ddb.proofs.OwnParts.{own_last, some_is}
use Rattle.esm_ddb.proofs.own_event.push_own.Goals as goal

pub returns : goal.returns
returns c =
    let text = c.args.text.now in
    let before = c.args.out.now.items in
    let after = c.push_front.new.out.items in
    let passed = some_is (λ (r : Bor (List ℕ)). PassesFront text r.now before after) _ c.in-Some.behind c.in-Some.is c.in_ok-behind.ensures in
    own_last text c.in-Some.behind.now c.args.tail.now before after c.after_part.result passed c.requires c.after_part.ensures
