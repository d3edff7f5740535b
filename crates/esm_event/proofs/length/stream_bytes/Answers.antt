use Rattle.std.proofs.Common.{length, ap, arith}
use Rattle.esm_event.proofs.LengthLemmas.{length-record_text}
use Rattle.esm_event.proofs.length.stream_bytes.Goals as goal

pub returns-clause-value : goal.returns-clause-value
returns-clause-value c =
    let sequence = ap length c.seq-sequence.ensures.value in
    omega (arith, length-record_text c.args.config.now c.args.item.now, sequence, c.data_bytes-data.ensures.value, c.key_bytes-key.ensures.value, rw c.arrival.ensures at c.decimal_bytes-seconds.ensures.value, c.source_bytes-source.ensures.value)
