use Rattle.std.proofs.Common.{◌≡◌, drop}
use Rattle.esm_journal_record.specs.Payload.{rises, rises_from}
use Rattle.esm_journal_record.proofs.names.rises.Given as goal

abbrev pub invariant-loop-place : goal.invariant-loop-place
invariant-loop-place l = rises_from l.low (drop l.place-index l.places) ≡ rises l.places
