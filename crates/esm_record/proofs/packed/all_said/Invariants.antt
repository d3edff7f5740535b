use Rattle.std.proofs.Common.{◌≡◌}
use Rattle.esm_record.specs.Packing.{all_said}
use Rattle.esm_record.proofs.packed.all_said.Given as goal

abbrev pub invariant-loop-row : goal.invariant-loop-row
invariant-loop-row l = l.parsed.items ≡ all_said l.text l.yielded
