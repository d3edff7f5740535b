use Rattle.std.proofs.Common.{◌≡◌, drop}
use Rattle.esm_journal.specs.Replace.{first_too_long}
use Rattle.esm_journal.proofs.list.first_too_long.Given as goal

abbrev pub invariant-loop-payload : goal.invariant-loop-payload
invariant-loop-payload l = first_too_long l.payloads ≡ first_too_long (drop l.payload-index l.payloads)
