use Rattle.std.proofs.Common.{◌≡◌, take}
use Rattle.esm_journal.specs.File.{entries}
use Rattle.esm_journal.proofs.list.list_bytes.Given as goal

abbrev pub invariant-loop-payload : goal.invariant-loop-payload
invariant-loop-payload l = l.list.items ≡ entries (take l.payload-index l.payloads)
