use Rattle.std.proofs.Common.{◌≡◌, ◌<◌, take, fold}
use Rattle.esm_queue.specs.Names.{hash_step}
use Rattle.esm_queue.proofs.names.hash_of.Given as goal

abbrev pub invariant-loop-byte : goal.invariant-loop-byte
invariant-loop-byte l = record {
  small : l.hash < 4294967291;
  so_far : l.hash ≡ fold hash_step 0 (take l.byte-index l.name);
}
