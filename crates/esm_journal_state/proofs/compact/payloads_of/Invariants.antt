use Rattle.std.proofs.Common.{◌≡◌, take}
use Rattle.std.specs.Prelude.{map}
use Rattle.esm_journal_record.specs.Payload.{payload_of}
use Rattle.esm_journal_state.proofs.compact.payloads_of.Given as goal

abbrev pub invariant-loop-said : goal.invariant-loop-said
invariant-loop-said l = l.payloads.items ≡ map payload_of (take l.said-index l.saids)
