use Rattle.std.proofs.Common.{◌∙◌, List, ℕ, Bor, ap, ◌++◌}
use Rattle.esm_ddb.specs.OwnForm.{PassesFront, head_text}
use Rattle.esm_ddb.proofs.OwnParts.{event_last, first_passed, some_is}
use Rattle.esm_ddb.proofs.own_event.push_event.Goals as goal

pub returns : goal.returns
returns c =
    let event = c.args.event.now in
    let elements = c.in-Some.elements.now in
    let start = c.push_bytes.new.out.items in
    let out = c.push_front.new.out.items in
    let front = some_is (λ (r : Bor (List ℕ)). PassesFront elements r.now start out) _ c.in-Some-2.behind c.in-Some-2.is c.in_ok-behind.ensures in
    let head = c.in_ok-push_bytes.ensures ∙ ap (λ (l : List ℕ). l ++ head_text) c.requires in
    event_last event out c.in-Some-tail_of.left.now c.push_others.new.out.items c.push_others.result c.push_others.ensures
    (first_passed event elements c.in-Some-2.behind.now c.in-Some-tail_of.tail.now c.in-Some-tail_of.left.now start out c.in-Some.ensures head front c.in-Some-tail_of.ensures)

pub push_others-requires : goal.push_others-requires
push_others-requires c = c.in-Some-tail_of.ensures.tail_is
