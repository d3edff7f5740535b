-- What a crash leaves of a journal to which nothing, or one payload, was written.
use Rattle.std.proofs.Common.{ℕ, List, Option, Some, None, arith, inl, subst, sym}
use Rattle.esm_io.specs.Images.{LeavesOnly}
use Rattle.esm_io.specs.Meanings.{DiskMeaning}
use Rattle.esm_journal.specs.File.{header_of}
use Rattle.esm_journal.specs.State.{JournalState, Keeps, OpensTo}
use Rattle.esm_registry.specs.State.{OpensToStep}

-- a file that opens to the payloads opens to them or to one more
pub opens_still : (payloads : List (List ℕ)) (payload : Option (List ℕ)) (bytes : List ℕ) → OpensTo (header_of 1) payloads bytes → OpensToStep payloads payload bytes
opens_still payloads None bytes opens = opens
opens_still payloads (Some payload) bytes opens = inl opens

-- no call of the disk was made
pub stays : {D : Type 0} (m : DiskMeaning D) (journal : JournalState D) (payload : Option (List ℕ))
    → ((left : List ℕ) → m.since journal.disk (m.moment journal.disk) left → m.image journal.disk left)
    → Keeps m (header_of 1) journal.payloads journal.disk
    → LeavesOnly m.moment m.since journal.disk journal.disk (OpensToStep journal.payloads payload)
stays m journal payload only_now keeps = record {
  later = omega arith;
  each = λ image since.
      opens_still journal.payloads payload image
      (subst (OpensTo (header_of 1) journal.payloads) (sym (keeps.durable image (only_now image since))) keeps.opens);
  before = λ t image le since. inl since;
}
