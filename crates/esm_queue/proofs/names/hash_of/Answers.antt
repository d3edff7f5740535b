use Rattle.std.proofs.Common.{ap, ◌∙◌, fold, arith}
use Rattle.std.proofs.lemmas.List.{take_all}
use Rattle.esm_queue.specs.Names.{hash_of, hash_step}
use Rattle.esm_queue.proofs.names.hash_of.Goals as goal

pub returns : goal.returns
unfolding hash_of
returns c = c.loop-byte.invariant.so_far ∙ ap (fold hash_step 0) (take_all c.loop-byte.byte-index c.args.name.now (omega arith))
