-- What is left of a pair that was brought to version 2, or was of version 2.
use Rattle.std.proofs.Common.{◌≡◌, ◌∙◌, ◌⊎◌, ◌≤◌, ◌+◌, ℕ, Bool, true, false, List, inl, inr, refl, subst, sym}
use Rattle.std.specs.Prelude.{◌≢◌, ◌==◌, if◌then◌else◌}
use Rattle.std.proofs.lemmas.Bool.Decides.{eqb_tells}
use Rattle.esm_io.specs.Meanings.{DiskMeaning}
use Rattle.esm_journal.specs.Bytes.{rewritten}
use Rattle.esm_journal.specs.File.{header_of, Holding}
use Rattle.esm_journal.specs.Migrate.{is_version_2, IsMoving, IsWrittenAnew}
use Rattle.esm_journal.specs.Pair.{PairKeeps, PairState, first_disk, second_disk}
use Rattle.esm_journal.specs.Reads.{IsOnlyRead}
use Rattle.esm_folder.specs.Upkeep.{AreHonest, AreKept, AreSettled, HasFound, HasMigrated, IsKept, IsMigrated, IsMigrating, IsWritten, PairHolds, found_of_any_version}
use Rattle.esm_folder.proofs.OpenedDisks.{pair_holds}

written_anew : {D : Type 0} (m : DiskMeaning D) (epoch : ℕ) (list : List (List ℕ)) (swapped : Bool) (journal spare used other : D)
    → m.content used ≡ rewritten (header_of 2) epoch list (m.content (if swapped then spare else journal)) → m.content other ≡ m.content (if swapped then journal else spare)
    → IsWritten m epoch list journal spare (if swapped then other else used) (if swapped then used else other)
written_anew m epoch list false journal spare used other written kept = inr (written, kept)
written_anew m epoch list true journal spare used other written kept = inl (kept, written)

version_of : (is_2 : Bool) (was : ℕ) → was ≡ (if is_2 then 2 else 1) → ((was ≡ 2) × (is_2 ≡ true)) ⊎ ((was ≡ 1) × (is_2 ≡ false))
version_of true was e = inl (e, refl)
version_of false was e = inr (e, refl)

-- what was found of a pair, and the epoch that it has now
abbrev pub FoundWith : {D : Type 0} → DiskMeaning D → (journal spare : D) → PairState D → ℕ → Type 0
FoundWith m journal spare p was =
    (epoch : ℕ) × (found_of_any_version m journal spare ≡ Holding epoch p.payloads) × (p.epoch ≡ (if was == 1 then epoch + 1 else epoch))

-- what the opening of a pair of version 1 or 2 left
pub record IsOpenedAnew {D : Type 0} (m : DiskMeaning D) (journal spare journal' spare' : D) (p : PairState D) (was : ℕ) : Type 0 where
  pub version : AreHonest m journal spare → was ≡ (if is_version_2 (m.content journal) (m.content spare) then 2 else 1)
  pub found : AreHonest m journal spare → FoundWith m journal spare p was
  pub bytes : AreHonest m journal spare → was ≡ 1 → IsWrittenAnew m.content journal spare p
  pub keeps : AreHonest m journal spare → PairKeeps m (header_of 2) p.epoch p.payloads p.used p.spare
  pub first_read : was ≡ 2 → IsOnlyRead m journal (first_disk p)
  pub second_read : was ≡ 2 → IsOnlyRead m spare (second_disk p)
  pub first : journal' ≡ first_disk p
  pub second : spare' ≡ second_disk p

is_migrated : {D : Type 0} (m : DiskMeaning D) (journal spare journal' spare' : D) (p : PairState D) (was : ℕ) → IsOpenedAnew m journal spare journal' spare' p was
    → AreHonest m journal spare → was ≡ 1 → is_version_2 (m.content journal) (m.content spare) ≡ false → IsMigrated m journal spare journal' spare' p.payloads
is_migrated m journal spare journal' spare' p was o honest is_1 version =
    let f = o.found honest in
    let w = o.bytes honest is_1 in
    let next : p.epoch ≡ f.0 + 1 = subst (λ n. p.epoch ≡ (if n == 1 then f.0 + 1 else f.0)) is_1 f.2 in
    let holds : PairHolds m p.epoch p.payloads (first_disk p) (second_disk p) = pair_holds m p.epoch p.payloads p.swapped p.used p.spare (o.keeps honest) in
    let written : IsWritten m p.epoch p.payloads journal spare (first_disk p) (second_disk p) = written_anew m p.epoch p.payloads p.swapped journal spare p.used p.spare w.written w.kept in
    record {
      epoch = f.0;
      version = version;
      are_found = f.1;
      holds = rw (o.first, o.second) (subst (λ n. PairHolds m n p.payloads (first_disk p) (second_disk p)) next holds);
      written = rw (o.first, o.second) (subst (λ n. IsWritten m n p.payloads journal spare (first_disk p) (second_disk p)) next written);
    }

has_migrated : {D : Type 0} (m : DiskMeaning D) (journal spare journal' spare' : D) (p : PairState D) (was : ℕ) → IsOpenedAnew m journal spare journal' spare' p was
    → was ≢ 2 → HasMigrated m journal spare journal' spare' p.payloads
has_migrated m journal spare journal' spare' p was o not_2 honest =
    elim (version_of (is_version_2 (m.content journal) (m.content spare)) was (o.version honest)) [
      | inl v ↦ absurd (not_2 v.0)
      | inr v ↦ is_migrated m journal spare journal' spare' p was o honest v.0 v.1
    ]

is_version_2_found : (is_2 : Bool) (was : ℕ) → was ≡ 2 → was ≡ (if is_2 then 2 else 1) → is_2 ≡ true
is_version_2_found true was e v = refl
is_version_2_found false was e v = let clash : 2 ≡ 1 = sym e ∙ v in absurd (cc)

has_found : {D : Type 0} (m : DiskMeaning D) (journal spare journal' spare' : D) (p : PairState D) (was : ℕ) → IsOpenedAnew m journal spare journal' spare' p was
    → was ≡ 2 → HasFound m journal spare journal' spare' p.payloads
has_found m journal spare journal' spare' p was o is_2 = record {
  version = λ honest. is_version_2_found (is_version_2 (m.content journal) (m.content spare)) was is_2 (o.version honest);
  are_found = λ honest. ((o.found honest).0, (o.found honest).1);
  only_read = (subst (IsOnlyRead m journal) (sym o.first) (o.first_read is_2), subst (IsOnlyRead m spare) (sym o.second) (o.second_read is_2));
}

pub migrated_or_found : {D : Type 0} (m : DiskMeaning D) (journal spare journal' spare' : D) (p : PairState D) (was : ℕ) → IsOpenedAnew m journal spare journal' spare' p was
    → ((was ≢ 2) × HasMigrated m journal spare journal' spare' p.payloads) ⊎ ((was ≡ 2) × HasFound m journal spare journal' spare' p.payloads)
migrated_or_found m journal spare journal' spare' p was o =
    elim (eqb_tells was 2) [
      | inl t ↦ inr (t.1, has_found m journal spare journal' spare' p was o t.1)
      | inr t ↦ inl (t.1, has_migrated m journal spare journal' spare' p was o t.1)
    ]

pub migrating_opened : {D : Type 0} (m : DiskMeaning D) (journal spare journal' spare' : D) (p : PairState D) (was : ℕ) → IsOpenedAnew m journal spare journal' spare' p was
    → (AreHonest m journal spare → AreSettled m journal spare → is_version_2 (m.content journal) (m.content spare) ≡ false
    → IsMoving m (m.content journal) (m.content spare) journal spare (first_disk p) (second_disk p))
    → IsMigrating m journal spare journal' spare'
migrating_opened m journal spare journal' spare' p was o moves = record {
  version_1 = λ honest settled version. subst (λ d. IsMoving m (m.content journal) (m.content spare) journal spare d spare') (sym o.first)
      (subst (λ d. IsMoving m (m.content journal) (m.content spare) journal spare (first_disk p) d) (sym o.second) (moves honest settled version));
  version_2 = λ honest version.
      let is_2 : was ≡ 2 = subst (λ b. was ≡ (if b then 2 else 1)) version (o.version honest) in
      (subst (IsOnlyRead m journal) (sym o.first) (o.first_read is_2), subst (IsOnlyRead m spare) (sym o.second) (o.second_read is_2));
}

pub kept_opened : {D : Type 0} (m : DiskMeaning D) (journal spare journal' spare' first second : D) → journal' ≡ first → spare' ≡ second
    → (m.honest first ≡ m.honest journal) × (m.honest second ≡ m.honest spare) → (m.faults journal ≤ m.faults first) × (m.faults spare ≤ m.faults second)
    → AreKept m journal spare journal' spare'
kept_opened m journal spare journal' spare' first second is_first is_second honesty faults =
    let one : IsKept m journal first = record { honesty = honesty.0; never_falls = faults.0 } in
    let other : IsKept m spare second = record { honesty = honesty.1; never_falls = faults.1 } in
    (subst (IsKept m journal) (sym is_first) one, subst (IsKept m spare) (sym is_second) other)
