use Rattle.std.proofs.Common.{◌<◌, ◌+◌, length, arith, rules}
use Rattle.esm_journal.proofs.Lists.{total_more, total_take}
use Rattle.esm_journal.proofs.list.room_bytes.Goals as goal

pub overflow_add-total : goal.overflow_add-total
overflow_add-total c =
    let spares = c.args.spares.now.items in
    let spare = c.index.result.now in
    let within : c.loop-i.i < length spares = search rules in
    let more = total_more spares c.loop-i.i spare within c.index.ensures in
    let le = total_take spares (c.loop-i.i + 1) in
    omega (arith, more, le, c.capacity.ensures, c.loop-i.invariant, c.requires)

pub loop-i-preserved : goal.loop-i-preserved
loop-i-preserved c =
    let spares = c.args.spares.now.items in
    let spare = c.index.result.now in
    let within : c.loop-i.i < length spares = search rules in
    let more = total_more spares c.loop-i.i spare within c.index.ensures in
    omega (arith, more, c.capacity.ensures, c.loop-i.invariant)
