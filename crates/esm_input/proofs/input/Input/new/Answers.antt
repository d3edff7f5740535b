use Rattle.std.proofs.Common.{◌≡◌, ◌<◌, [], false, arith, vec_len}
use Rattle.esm_input.proofs.Pieces.{new_reading, none_handed}
use Rattle.esm_input.proofs.input.Input.new.Goals as goal

pub invariant_of-result : goal.invariant_of-result
invariant_of-result g c = λ _.
    let lines : c.in-Ok.lines ≡ record { kind = c.args.kind; bytes = []; failed = false; finished = false } = cc (c.in-Ok.is, c.for_lanes.ensures) in
    let size : vec_len c.in-Ok-vec.buffer ≡ 1048576 = c.in-Ok-vec.ensures.len in
    let room : 0 < vec_len c.in-Ok-vec.buffer = omega (arith, size) in
    new_reading g.S.Source.faults g.S.Source.left c.in-Ok.lines c.args.kind c.args.factor c.args.start c.of.result.value c.args.source c.new.result c.new-2.result.begun.items (vec_len c.in-Ok-vec.buffer)
    lines c.of.ensures c.requires.factor c.new.ensures.count c.new.ensures.within c.new-2.ensures room

pub returns-clause-nothing : goal.returns-clause-nothing
returns-clause-nothing g c =
    let lines : c.in-Ok.lines ≡ record { kind = c.args.kind; bytes = []; failed = false; finished = false } = cc (c.in-Ok.is, c.for_lanes.ensures) in
    none_handed c.in-Ok.lines c.args.kind c.args.factor c.args.start lines
