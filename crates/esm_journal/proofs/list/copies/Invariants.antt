use Rattle.std.proofs.Common.{◌≡◌, take}
use Rattle.esm_journal.proofs.list.copies.Given as goal

abbrev pub invariant-loop-payload : goal.invariant-loop-payload
invariant-loop-payload l = l.copies.items ≡ take l.payload-index l.payloads
