use Rattle.std.proofs.Common.{length, ap, arith}
use Rattle.esm_event.proofs.LengthLemmas.{key_short}
use Rattle.esm_event.proofs.length.key_bytes.Goals as goal

pub escaped_bytes-requires : goal.escaped_bytes-requires
escaped_bytes-requires c = omega (arith, key_short c.args.item.now.key c.key.ensures.utf8 c.requires.key, ap length c.key.ensures.value)

pub returns-clause-bound : goal.returns-clause-bound
returns-clause-bound c = omega (arith, key_short c.args.item.now.key c.key.ensures.utf8 c.requires.key, ap length c.key.ensures.value, c.escaped_bytes.ensures.bound)
