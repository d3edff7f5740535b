use Rattle.std.proofs.Common.{arith}
use Rattle.esm_ddb.proofs.OwnPieces.{becomes}
use Rattle.esm_ddb.proofs.own_turned.own_turned.Goals as goal

pub returns : goal.returns
returns c =
    becomes c.args.text.now c.in_ok-payload.payload.items c.in_ok-becomes.becomes.items c.in-Some.line c.args.source.now c.in-Some.ensures c.in_ok-payload.ensures (omega arith) (rw c.as_slice.ensures.value at c.in_ok-becomes.ensures)
