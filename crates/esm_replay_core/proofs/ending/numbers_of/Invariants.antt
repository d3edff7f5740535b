use Rattle.std.proofs.Common.{◌≡◌, take}
use Rattle.esm_replay_core.proofs.ending.numbers_of.Given as goal

abbrev pub invariant-loop-name : goal.invariant-loop-name
invariant-loop-name l = l.numbers.items ≡ take l.name-index l.names
