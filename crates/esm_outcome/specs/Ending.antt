-- The end of a call of a ledger's history, over all lists of records that extend the ledger's own. This product's own.
use Rattle.std.specs.Prelude.{◌≡◌, ℕ, List, [], ◌∷◌, map, Some}
use Rattle.esm_model.specs.declared.lane.LaneId.{LaneId}
use Rattle.esm_model.specs.Records.{Record}
use Rattle.esm_model.specs.declared.entry.Reply.{Reply}
use Rattle.esm_model.specs.declared.verdict.Verdict.{Verdict}
use Rattle.esm_model.specs.declared.entry.Entry.{Entry}
use Rattle.esm_model.specs.declared.entry.Entry.TheVariants.{Ended}
use Rattle.esm_model.specs.Setting.{Setting, Stream, Extends, over, record_at}
use Rattle.esm_model.specs.Valid.{IsValidRecord}
use Rattle.esm_model.specs.Tries.{verdict_after}
use Rattle.esm_model.specs.Owed.{owed, Settled}
use Rattle.esm_ledger.specs.Ledger.{LegalOver}
use Rattle.esm_outcome.specs.declared.outcome.Due.{Due}
use Rattle.esm_outcome.specs.Dues.{due_entry}

-- each record is valid, and is of the shard in whose list it is
abbrev pub AreValidRecords : Setting → Type 0
AreValidRecords s = (n i : ℕ) (r : Record) → record_at s n i ≡ Some r → (r.shard ≡ n) × IsValidRecord r

-- each open record passes the filter and no lane is owed anything, over all lists of records that extend the setting's own
abbrev pub SettledOver : Setting → List Entry → Type 0
SettledOver s h = (streams : List Stream) → Extends s.streams streams → Settled (over s streams) h

-- it is the verdict on the lane's call, over all of them
abbrev pub IsVerdictOver : Setting → List Entry → LaneId → Reply → Verdict → Type 0
IsVerdictOver s h lane reply v = (streams : List Stream) → Extends s.streams streams → v ≡ verdict_after (over s streams) h lane reply

-- they are what the end requires, in order, over all of them
abbrev pub AreOwedOver : Setting → List Entry → LaneId → Reply → ℕ → List Due → Type 0
AreOwedOver s h lane reply m dues =
    (streams : List Stream) → Extends s.streams streams → map (due_entry lane m) dues ≡ owed (over s streams) (Ended lane reply m ∷ h) lane

-- each of the entries, the oldest first, may be added after those before it, and after all of them nothing is owed
abbrev pub MaySettle : Setting → List Entry → List Entry → Type 0
MaySettle s h [] = SettledOver s h
MaySettle s h (e ∷ es) = LegalOver s (e ∷ h) × MaySettle s (e ∷ h) es
