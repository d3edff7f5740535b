use Rattle.std.proofs.Common.{sym}
use Rattle.esm_ddb.proofs.OwnPieces.{shard_passed}
use Rattle.esm_ddb.proofs.own_line.split_shard.Goals as goal

pub returns : goal.returns
returns c =
    shard_passed c.args.text.now c.in_ok-id.id.now c.in_ok-shard.shard.now c.in_ok-shard.rest.now c.in_ok-number.number c.in_ok-id.ensures c.in_ok-shard.ensures (sym c.in_ok-number.ensures)
