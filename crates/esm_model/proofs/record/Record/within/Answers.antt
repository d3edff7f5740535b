use Rattle.std.proofs.Common.{ap}
use Rattle.esm_model.proofs.EncodedFacts.{is_base64}
use Rattle.esm_model.specs.Records.{part_of}
use Rattle.esm_model.proofs.record.Record.within.Goals as goal

pub invariant_of-result : goal.invariant_of-result
invariant_of-result c =
    let text = part_of c.args.text c.args.payload in (
      record {
        seq_within = c.requires.seq_within;
        key_within = c.requires.key_within;
        payload_within = c.requires.payload_within;
        number = c.requires.number;
        utf8 = c.requires.utf8;
        encoded = is_base64 text c.args.len (rw (ap (λ l. part_of l c.args.payload) c.as_slice.ensures) at (rw c.of.ensures at c.are_bytes.ensures)) c.requires.encoded;
      },
      tt,
    )
