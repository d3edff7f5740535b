-- What `compact` and `migrate` leave of what a pair held, once they wrote it and came to their end.
use Rattle.std.proofs.Common.{◌≡◌, ◌∙◌, ◌⊎◌, ◌+◌, ℕ, Bool, true, false, List, ap₂, arith, inl, inr, subst, sym, true≢false}
use Rattle.std.specs.Prelude.{◌==◌, if◌then◌else◌}
use Rattle.esm_cli.specs.declared.command.Command.TheVariants as command
use Rattle.esm_folder.specs.Upkeep.{AreCompacted, AreHonest, HasCompacted, IsCompactEnd, IsMigrated, PairHolds, found}
use Rattle.esm_folder.specs.UpkeepText.{upkeep_status}
use Rattle.esm_folder.specs.declared.ending.UpkeepEnd.{UpkeepEnd}
use Rattle.esm_folder.specs.declared.ending.UpkeepEnd.TheVariants as end
use Rattle.esm_io.specs.Meanings.{DiskMeaning}
use Rattle.esm_journal.specs.File.{Damaged, Foreign, Holding, Opening, header_of}
use Rattle.esm_journal.specs.Migrate.{is_version_2, with_next_epoch}
use Rattle.esm_journal.specs.Pair.{pair_opened}
use Rattle.esm_program_life.specs.Written.{HasWritten}

-- what can be written with the next epoch is what was found

held : (e : ℕ) (ps : List (List ℕ)) (b : Bool) (epoch : ℕ) (payloads : List (List ℕ)) → (if b then Damaged 8 else Holding e ps) ≡ Holding epoch payloads → Holding e ps ≡ Holding epoch payloads
held e ps true epoch payloads is = cc
held e ps false epoch payloads is = is

next_epoch : (o : Opening) (epoch : ℕ) (payloads : List (List ℕ)) → with_next_epoch o ≡ Holding epoch payloads → o ≡ Holding epoch payloads
next_epoch (Holding e ps) epoch payloads is = held e ps (e == 18446744073709551615) epoch payloads is
next_epoch Foreign epoch payloads is = is
next_epoch (Damaged place) epoch payloads is = is

same_payloads : (epoch was : ℕ) (payloads list : List (List ℕ)) (o : Opening) → o ≡ Holding epoch payloads → o ≡ Holding was list → payloads ≡ list
same_payloads epoch was payloads list o one two =
    let both : Holding epoch payloads ≡ Holding was list = sym one ∙ two in cc

same_epoch : (epoch was : ℕ) (payloads list : List (List ℕ)) (o : Opening) → o ≡ Holding epoch payloads → o ≡ Holding was list → epoch ≡ was
same_epoch epoch was payloads list o one two =
    let both : Holding epoch payloads ≡ Holding was list = sym one ∙ two in cc

-- what disks hold alone opens so in each image
pub opens_now : {D : Type 0} (m : DiskMeaning D) (epoch : ℕ) (list : List (List ℕ)) (journal spare : D) (one other : List ℕ) → PairHolds m epoch list journal spare → m.image journal one → m.image spare other → pair_opened (header_of 2) one other ≡ Holding epoch list
opens_now m epoch list journal spare one other holds now spare_now = ap₂ (pair_opened (header_of 2)) (holds.settled.0 one now) (holds.settled.1 other spare_now) ∙ holds.opens

-- `compact` over a pair that opened to these payloads
pub record Compacts {D : Type 0} (m : DiskMeaning D) (payloads : List (List ℕ)) (journal spare : D) : Type 0 where
  pub list : List (List ℕ)
  pub compacted : AreCompacted payloads list
  pub epoch : ℕ
  pub holds : PairHolds m epoch list journal spare

pub compacts : {D : Type 0} (m : DiskMeaning D) (journal spare journal' spare' : D) (before after epoch : ℕ) (payloads : List (List ℕ)) → HasCompacted m journal spare journal' spare' before after → AreHonest m journal spare
    → found m journal spare ≡ Holding epoch payloads → Compacts m payloads journal' spare'
compacts m journal spare journal' spare' before after epoch payloads has honest opened = record {
  list = has.list;
  compacted = subst (λ (old : List (List ℕ)). AreCompacted old has.list) (same_payloads has.epoch epoch has.payloads payloads (found m journal spare) (next_epoch (found m journal spare) has.epoch has.payloads (has.are_found honest)) opened) has.compacted;
  epoch = has.epoch + 1;
  holds = has.holds honest;
}

-- it ended with 0
pub has_compacted : {D : Type 0} (m : DiskMeaning D) (journal spare journal' spare' : D) (e : UpkeepEnd) → IsCompactEnd m journal spare journal' spare' e → upkeep_status e ≡ 0 → HasWritten m command.Compact journal spare journal' spare'
has_compacted m journal spare journal' spare' (end.Compacted before after) cause is = (before, after, cause)
has_compacted m journal spare journal' spare' (end.Shown summary) cause is = absurd cause
has_compacted m journal spare journal' spare' (end.Listed lines) cause is = absurd cause
has_compacted m journal spare journal' spare' (end.Migrated count) cause is = absurd cause
has_compacted m journal spare journal' spare' end.WasVersion2 cause is = absurd cause
has_compacted m journal spare journal' spare' (end.NotAJournal f) cause is = absurd (omega (arith, is))
has_compacted m journal spare journal' spare' (end.Damaged f place) cause is = absurd (omega (arith, is))
has_compacted m journal spare journal' spare' (end.BadPayload f index) cause is = absurd (omega (arith, is))
has_compacted m journal spare journal' spare' end.DiskFault cause is = absurd (omega (arith, is))

-- where the status is 0 the end's is
pub told_so : (e : UpkeepEnd) (status : ℕ) → (status ≡ upkeep_status e) ⊎ (status ≡ 5) → status ≡ 0 → upkeep_status e ≡ 0
told_so e status (inl is) none = sym is ∙ none
told_so e status (inr is) none = absurd (omega (arith, none, is))

-- `migrate` over a pair of version 1 that opened to these payloads

migrates_found : (b : Bool) (o p : Opening) (epoch : ℕ) (payloads : List (List ℕ)) → b ≡ false → (if b then o else with_next_epoch p) ≡ Holding epoch payloads → p ≡ Holding epoch payloads
migrates_found true o p epoch payloads version is = absurd (true≢false version)
migrates_found false o p epoch payloads version is = next_epoch p epoch payloads is

pub migrated_now : {D : Type 0} (m : DiskMeaning D) (journal spare journal' spare' : D) (payloads : List (List ℕ)) (epoch : ℕ) (list : List (List ℕ)) (one other : List ℕ) → IsMigrated m journal spare journal' spare' payloads
    → pair_opened (header_of 1) (m.content journal) (m.content spare) ≡ Holding epoch list → m.image journal' one → m.image spare' other → pair_opened (header_of 2) one other ≡ Holding (epoch + 1) list
migrated_now m journal spare journal' spare' payloads epoch list one other has opened now spare_now =
    let was = pair_opened (header_of 1) (m.content journal) (m.content spare) in
    let here : was ≡ Holding has.epoch payloads = migrates_found (is_version_2 (m.content journal) (m.content spare)) (pair_opened (header_of 2) (m.content journal) (m.content spare)) was has.epoch payloads has.version has.are_found in
    opens_now m (has.epoch + 1) payloads journal' spare' one other has.holds now spare_now
    ∙ ap₂ (λ (e : ℕ) (ps : List (List ℕ)). Holding (e + 1) ps) (same_epoch has.epoch epoch payloads list was here opened) (same_payloads has.epoch epoch payloads list was here opened)
