use Rattle.std.proofs.Common.{◌≡◌, take}
use Rattle.std.specs.Prelude.{reverse}
use Rattle.std.specs.List.{AllByRecursion}
use Rattle.esm_journal_state.specs.Compact.{greatest_moment}
use Rattle.esm_journal_state.specs.Meaning.{history}
use Rattle.esm_journal_record.specs.Payload.{IsSaid}
use Rattle.esm_journal_state.proofs.compact.greatest_moment.Given as goal

abbrev pub invariant-loop-payload : goal.invariant-loop-payload
invariant-loop-payload l = record {
  moment : l.greatest ≡ greatest_moment (history (reverse (take l.payload-index l.payloads)));
  said : AllByRecursion IsSaid (history (reverse (take l.payload-index l.payloads)));
}
