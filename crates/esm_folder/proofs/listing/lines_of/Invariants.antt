use Rattle.std.proofs.Common.{◌≡◌, ◌++◌, drop}
use Rattle.esm_folder.specs.UpkeepText.{failure_lines}
use Rattle.esm_folder.proofs.listing.lines_of.Given as goal

abbrev pub invariant-loop-payload : goal.invariant-loop-payload
invariant-loop-payload l = l.lines.items ++ failure_lines (drop l.payload-index l.payloads) ≡ failure_lines l.payloads
