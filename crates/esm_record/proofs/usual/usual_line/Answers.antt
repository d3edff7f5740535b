use Rattle.esm_record.proofs.UsualParts.{line_passed}
use Rattle.esm_record.proofs.usual.usual_line.Goals as goal

pub returns : goal.returns
returns c =
    line_passed c.args.line.now c.in_ok-shard.behind_shard.now c.in_ok-seq.behind_seq.now c.in_ok-key.behind_key.now c.in_ok-payload.behind_payload.now _
    c.in_ok-shard.ensures c.in_ok-seq.ensures c.in_ok-key.ensures c.in_ok-payload.ensures c.in_ok-arrival.ensures
