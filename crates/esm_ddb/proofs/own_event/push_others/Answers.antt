use Rattle.std.proofs.Common.{List, ℕ, Bor}
use Rattle.esm_ddb.specs.OwnForm.{PassesOwn}
use Rattle.esm_ddb.proofs.OwnParts.{last_passed, other_passed, shorter, some_is}
use Rattle.esm_ddb.proofs.own_event.push_others.Goals as goal

pub loop-next-preserved : goal.loop-next-preserved
loop-next-preserved c = λ event so.
    let next = c.in-Some.next.now in
    let comma = c.push_bytes.new.out.items in
    let after = c.push_own.new.out.items in
    let passed = some_is (λ (r : Bor (List ℕ)). PassesOwn next r.now comma after) _ c.in-Some-2.rest c.in-Some-2.is c.in_ok-rest.ensures in
    other_passed event c.loop-next.out.items comma after c.loop-next.left.now next c.in-Some-2.rest.now (c.loop-next.invariant event so) c.in-Some.ensures c.in_ok-push_bytes.ensures passed

pub loop-next-smaller : goal.loop-next-smaller
loop-next-smaller c =
    let next = c.in-Some.next.now in
    let comma = c.push_bytes.new.out.items in
    let after = c.push_own.new.out.items in
    let passed = some_is (λ (r : Bor (List ℕ)). PassesOwn next r.now comma after) _ c.in-Some-2.rest c.in-Some-2.is c.in_ok-rest.ensures in
    shorter c.loop-next.left.now next c.in-Some-2.rest.now comma after c.in-Some.ensures passed

pub returns : goal.returns
returns c = λ is event so.
    last_passed event c.loop-next.out.items c.loop-next.left.now c.push_bytes-2.new.out.items (c.loop-next.invariant event so) (c.is_end-is_whole.ensures is) c.in_ok-push_bytes-2.ensures
