use Rattle.std.proofs.Common.{◌≡◌, true, false}
use Rattle.esm_redrive_core.proofs.Moving.{letter_utf8}
use Rattle.esm_redrive_core.proofs.giving.letter_of.Goals as goal

pub unreachable-requires : goal.unreachable-requires
unreachable-requires c =
    let utf8 = letter_utf8 c.requires.0 c.args.message.now c.in_ok-bytes.bytes.items c.requires.1 c.in_ok-bytes.ensures.reads_back in
    absurd (let clash : false ≡ true = c.in-Err.ensures.succeeds utf8 in cc)
