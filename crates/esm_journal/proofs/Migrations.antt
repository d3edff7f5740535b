-- What images of a pair of version 1 open to while its list is written anew as version 2.
use Rattle.std.proofs.Common.{◌≡◌, ◌⊎◌, inl, inr, ◌==◌, ◌||◌, ◌&&◌, ◌≤◌, slice_index, ℕ, ◌+◌, ◌<◌, Bool, true, false, if◌then◌else◌, List, [], length, nat_eq, arith, refl, sym, ap, subst, ◌∙◌}
use Rattle.std.proofs.lemmas.Bool.Decides.{nat_tests}
use Rattle.std.specs.Cmp.Lexicographic.{pointwise}
use Rattle.esm_io.specs.Meanings.{DiskMeaning}
use Rattle.esm_io.specs.Images.{LeavesOnly, Only}
use Rattle.esm_io.specs.Faults.{Rose}
use Rattle.esm_journal.specs.File.{header_of, Opening, Holding, Foreign, Damaged, IsFile}
use Rattle.esm_journal.specs.Pair.{PairState, is_sealed, pair_opened, IsSpare}
use Rattle.esm_journal.specs.Replace.{IsSpareOrNew}
use Rattle.esm_journal.specs.Bytes.{rewritten}
use Rattle.esm_journal.specs.Migrate.{is_version_2, with_next_epoch, migration, MigratesTo, IsWrittenAnew}
use Rattle.esm_journal.specs.Taken.{IsTaken, IsReadPair}
use Rattle.esm_journal.specs.declared.pair_reading.Taken.{Taken}
use Rattle.esm_journal.proofs.Files.{first_of_file}
use Rattle.esm_journal.proofs.Heads.{not_true}
use Rattle.esm_journal.proofs.Pairs.{pair_opens, sealed_file}
use Rattle.esm_io.proofs.Leaving.{goes_on}
use Rattle.esm_journal.specs.Reads.{IsOnlyRead}

opened_in : (header : List ℕ) (first second : List ℕ) (epoch : ℕ) (payloads : List (List ℕ)) (swapped : Bool) → length header ≡ 8 → IsFile header epoch payloads (if swapped then second else first) → IsSpare header epoch (if swapped then first else second)
    → pair_opened header first second ≡ Holding epoch payloads
opened_in header first second epoch payloads true eight file beside = (pair_opens header epoch payloads second first eight file beside).1
opened_in header first second epoch payloads false eight file beside = (pair_opens header epoch payloads first second eight file beside).0

-- what was read is what the pair opens to
pub taken_opened : (header first second : List ℕ) (taken : Taken) → length header ≡ 8 → IsTaken header first second taken → pair_opened header first second ≡ Holding taken.found.epoch taken.found.payloads.items
taken_opened header first second taken eight is = opened_in header first second taken.found.epoch taken.found.payloads.items taken.swapped eight is.file is.beside

-- no next epoch can be written
pub greatest_epoch : (epoch : ℕ) (payloads : List (List ℕ)) → epoch ≡ 18446744073709551615 → with_next_epoch (Holding epoch payloads) ≡ Damaged 8
greatest_epoch epoch payloads is = grind (arith, nat_tests)

-- a next epoch can be written
pub lower_epoch : (epoch : ℕ) (payloads : List (List ℕ)) → epoch < 18446744073709551615 → with_next_epoch (Holding epoch payloads) ≡ Holding epoch payloads
lower_epoch epoch payloads lt = grind (arith, nat_tests)

-- a file of version 1 is not sealed as version 2
pub old_not_sealed : (epoch : ℕ) (payloads : List (List ℕ)) (bytes : List ℕ) → IsFile (header_of 1) epoch payloads bytes → is_sealed (header_of 2) bytes ≡ false
old_not_sealed epoch payloads bytes file = ap (λ l. pointwise nat_eq l (header_of 2) && (slice_index bytes 16 == 1)) (first_of_file (header_of 1) epoch payloads bytes refl file)

-- so it hinders no file of version 2
pub old_beside : (epoch lower : ℕ) (payloads : List (List ℕ)) (bytes : List ℕ) → IsFile (header_of 1) epoch payloads bytes → IsSpare (header_of 2) lower bytes
old_beside epoch lower payloads bytes file = record {
  long = (sealed_file (header_of 1) epoch payloads bytes refl file).long;
  lower = λ is. absurd (clash (sym (old_not_sealed epoch payloads bytes file) ∙ is));
}
  where
    clash : false ≡ true → ⊥
    clash e = cc

-- a file that is not sealed as version 2 hinders none of its files
pub not_sealed_beside : (bytes : List ℕ) → 18 ≤ length bytes → is_sealed (header_of 2) bytes ≡ false → IsSpare (header_of 2) 0 bytes
not_sealed_beside bytes long not_sealed = record { long = long; lower = λ is. absurd (clash (sym not_sealed ∙ is)) }
  where
    clash : false ≡ true → ⊥
    clash e = cc

below_none : (bytes : List ℕ) → IsSpare (header_of 2) 0 bytes → is_sealed (header_of 2) bytes ≡ false
below_none bytes spare = not_true (is_sealed (header_of 2) bytes) (λ is. absurd (omega (arith, spare.lower is)))

neither : (a b : Bool) → a ≡ false → b ≡ false → (a || b) ≡ false
neither false false one other = refl
neither true b one other = cc
neither false true one other = cc

new_opens : (epoch : ℕ) (payloads : List (List ℕ)) (used other : List ℕ) → IsFile (header_of 1) epoch payloads used → IsFile (header_of 2) (epoch + 1) payloads other → MigratesTo epoch payloads used other × MigratesTo epoch payloads other used
new_opens epoch payloads used other file new =
    let opens = pair_opens (header_of 2) (epoch + 1) payloads other used refl new (old_beside epoch (epoch + 1) payloads used file) in
    (inr opens.1, inr opens.0)

-- the images of a pair while its list is written anew
pub migrates : (epoch : ℕ) (payloads : List (List ℕ)) (used other : List ℕ) → IsFile (header_of 1) epoch payloads used → IsSpareOrNew (header_of 1) epoch (header_of 2) (epoch + 1) payloads other → IsSpareOrNew (header_of 2) 0 (header_of 2) (epoch + 1) payloads other
    → MigratesTo epoch payloads used other × MigratesTo epoch payloads other used
migrates epoch payloads used other file (inl harmless) (inl not_sealed) =
    let opens = pair_opens (header_of 1) epoch payloads used other refl file harmless in
    let here = old_not_sealed epoch payloads used file in
    let there = below_none other not_sealed in
    (inl (neither (is_sealed (header_of 2) used) (is_sealed (header_of 2) other) here there, opens.0), inl (neither (is_sealed (header_of 2) other) (is_sealed (header_of 2) used) there here, opens.1))
migrates epoch payloads used other file (inr new) either = new_opens epoch payloads used other file new
migrates epoch payloads used other file (inl harmless) (inr new) = new_opens epoch payloads used other file new

either_false : (a b : Bool) → (a || b) ≡ false → (a ≡ false) × (b ≡ false)
either_false false b is = (refl, is)
either_false true b is = absurd (clash is)
  where
    clash : true ≡ false → ⊥
    clash e = cc

pub first_not_2 : (one other : List ℕ) → is_version_2 one other ≡ false → is_sealed (header_of 2) one ≡ false
first_not_2 one other is = (either_false (is_sealed (header_of 2) one) (is_sealed (header_of 2) other) is).0

pub second_not_2 : (one other : List ℕ) → is_version_2 one other ≡ false → is_sealed (header_of 2) other ≡ false
second_not_2 one other is = (either_false (is_sealed (header_of 2) one) (is_sealed (header_of 2) other) is).1

epoch_held : Opening → ℕ
epoch_held (Holding epoch payloads) = epoch
epoch_held Foreign = 0
epoch_held (Damaged place) = 0

payloads_held : Opening → List (List ℕ)
payloads_held (Holding epoch payloads) = payloads
payloads_held Foreign = []
payloads_held (Damaged place) = []

-- two ways to say what was found
pub same_held : (a b : ℕ) (p q : List (List ℕ)) (one other : List ℕ) → Holding a p ≡ Holding b q → MigratesTo a p one other → MigratesTo b q one other
unfolding epoch_held payloads_held
same_held a b p q one other is m = subst (λ l. MigratesTo b l one other) (ap payloads_held is) (subst (λ e. MigratesTo e p one other) (ap epoch_held is) m)

-- nothing was written
pub untouched : (epoch : ℕ) (payloads : List (List ℕ)) (one other one_was other_was : List ℕ) → one ≡ one_was → other ≡ other_was → is_version_2 one_was other_was ≡ false → pair_opened (header_of 1) one_was other_was ≡ Holding epoch payloads → MigratesTo epoch payloads one other
untouched epoch payloads one other one_was other_was e1 e2 version opens =
    subst (λ l. MigratesTo epoch payloads l other) (sym e1) (subst (λ l. MigratesTo epoch payloads one_was l) (sym e2) (inl (version, opens)))

module _ {D : Type 0} (m : DiskMeaning D) where
  -- a disk that was only read
  pub read_since : (old new : D) → IsOnlyRead m old new → m.honest old ≡ true → Only (m.content old) (m.image old) → (left : List ℕ) → m.since new (m.moment old) left → left ≡ m.content old
  read_since old new read h only left was = only left ((read.any_moment h).each left was)

  -- one that was written after it was read
  written_since : (old mid new : D) (P : List ℕ → Type 0) → IsOnlyRead m old mid → m.honest old ≡ true → Only (m.content old) (m.image old) → P (m.content old) → LeavesOnly m.moment m.since mid new P → (left : List ℕ) → m.since new (m.moment old) left → P left
  written_since old mid new P read h only p run =
      (goes_on m.moment m.since old mid new (m.image old) P P (read.any_moment h) run (λ left now. subst P (sym (only left now)) p) (λ left q. q)).each

  pub moving : (used used' other other' new : D) (epoch : ℕ) (payloads : List (List ℕ)) → IsOnlyRead m used used' → IsOnlyRead m other other' → m.honest used ≡ true → m.honest other ≡ true
      → Only (m.content used) (m.image used) → Only (m.content other) (m.image other) → IsFile (header_of 1) epoch payloads (m.content used') → IsSpare (header_of 1) epoch (m.content other') → is_sealed (header_of 2) (m.content other) ≡ false
      → ((kept : List ℕ) (lower : ℕ) → IsSpare kept lower (m.content other') → LeavesOnly m.moment m.since other' new (IsSpareOrNew kept lower (header_of 2) (epoch + 1) payloads))
      → (one two : List ℕ) → m.since used' (m.moment used) one → m.since new (m.moment other) two → MigratesTo epoch payloads one two × MigratesTo epoch payloads two one
  moving used used' other other' new epoch payloads read other_read h1 h2 only other_only file harmless not_2 run one two was_one was_two =
      let is : one ≡ m.content used = read_since used used' read h1 only one was_one in
      let held : IsFile (header_of 1) epoch payloads one = subst (IsFile (header_of 1) epoch payloads) (read.same h1 ∙ sym is) file in
      let before : IsSpare (header_of 1) epoch (m.content other) = subst (IsSpare (header_of 1) epoch) (other_read.same h2) harmless in
      let not_sealed : IsSpare (header_of 2) 0 (m.content other) = not_sealed_beside (m.content other) before.long not_2 in
      let here = written_since other other' new (IsSpareOrNew (header_of 1) epoch (header_of 2) (epoch + 1) payloads) other_read h2 other_only (inl before) (run (header_of 1) epoch harmless) two was_two in
      let there = written_since other other' new (IsSpareOrNew (header_of 2) 0 (header_of 2) (epoch + 1) payloads) other_read h2 other_only (inl not_sealed) (run (header_of 2) 0 (subst (IsSpare (header_of 2) 0) (sym (other_read.same h2)) not_sealed)) two was_two in
      migrates epoch payloads one two held here there

  module _ (first second first' second' new : D) (taken : Taken) (pair : IsReadPair m (header_of 1) first' second' taken) (first_read : IsOnlyRead m first first') (second_read : IsOnlyRead m second second')
      (h1 : m.honest first ≡ true) (h2 : m.honest second ≡ true) where
    -- what both disks gave is what was read
    pub opened_before : pair_opened (header_of 1) (m.content first) (m.content second) ≡ Holding taken.found.epoch taken.found.payloads.items
    opened_before =
        ap (λ l. pair_opened (header_of 1) l (m.content second)) (sym (first_read.same h1)) ∙ ap (λ l. pair_opened (header_of 1) (m.content first') l) (sym (second_read.same h2))
        ∙ taken_opened (header_of 1) (m.content first') (m.content second') taken refl (pair.taken_is (first_read.honesty ∙ h1) (second_read.honesty ∙ h2))

    module _ (version : is_version_2 (m.content first) (m.content second) ≡ false) (only : Only (m.content first) (m.image first)) (second_only : Only (m.content second) (m.image second)) (epoch : ℕ) (payloads : List (List ℕ)) (opens : pair_opened (header_of 1) (m.content first) (m.content second) ≡ Holding epoch payloads) (one two : List ℕ) where
      -- the first disk is in use
      pub moves_second : taken.swapped ≡ false → (m.honest second' ≡ true → (kept : List ℕ) (lower : ℕ) → IsSpare kept lower (m.content second') → LeavesOnly m.moment m.since second' new (IsSpareOrNew kept lower (header_of 2) (taken.found.epoch + 1) taken.found.payloads.items))
          → m.since first' (m.moment first) one → m.since new (m.moment second) two → MigratesTo epoch payloads one two
      moves_second is run was_one was_two =
          let h1' = first_read.honesty ∙ h1 in
          let h2' = second_read.honesty ∙ h2 in
          let harmless = subst (λ (b : Bool). IsSpare (header_of 1) taken.found.epoch (if b then m.content first' else m.content second')) is (pair.taken_is h1' h2').beside in
          same_held taken.found.epoch epoch taken.found.payloads.items payloads one two (sym opened_before ∙ opens)
          (moving first first' second second' new taken.found.epoch taken.found.payloads.items first_read second_read h1 h2 only second_only (pair.first_file h1' is) harmless (second_not_2 (m.content first) (m.content second) version) (run h2') one two was_one was_two).0

      -- the second disk is in use
      pub moves_first : taken.swapped ≡ true → (m.honest first' ≡ true → (kept : List ℕ) (lower : ℕ) → IsSpare kept lower (m.content first') → LeavesOnly m.moment m.since first' new (IsSpareOrNew kept lower (header_of 2) (taken.found.epoch + 1) taken.found.payloads.items))
          → m.since new (m.moment first) one → m.since second' (m.moment second) two → MigratesTo epoch payloads one two
      moves_first is run was_one was_two =
          let h1' = first_read.honesty ∙ h1 in
          let h2' = second_read.honesty ∙ h2 in
          let harmless = subst (λ (b : Bool). IsSpare (header_of 1) taken.found.epoch (if b then m.content first' else m.content second')) is (pair.taken_is h1' h2').beside in
          same_held taken.found.epoch epoch taken.found.payloads.items payloads one two (sym opened_before ∙ opens)
          (moving second second' first first' new taken.found.epoch taken.found.payloads.items second_read first_read h2 h1 second_only only (pair.second_file h2' is) harmless (first_not_2 (m.content first) (m.content second) version) (run h1') two one was_two was_one).1

-- which of the two versions is opened
pub as_version_2 : (one other : List ℕ) → is_version_2 one other ≡ true → migration one other ≡ pair_opened (header_of 2) one other
as_version_2 one other is = ap (λ (b : Bool). if b then pair_opened (header_of 2) one other else with_next_epoch (pair_opened (header_of 1) one other)) is

pub as_version_1 : (one other : List ℕ) → is_version_2 one other ≡ false → migration one other ≡ with_next_epoch (pair_opened (header_of 1) one other)
as_version_1 one other is = ap (λ (b : Bool). if b then pair_opened (header_of 2) one other else with_next_epoch (pair_opened (header_of 1) one other)) is

-- the same bytes
pub same_pair : (header one other one' other' : List ℕ) → one' ≡ one → other' ≡ other → pair_opened header one other ≡ pair_opened header one' other'
same_pair header one other one' other' e1 e2 = ap (λ l. pair_opened header l other) (sym e1) ∙ ap (λ l. pair_opened header one' l) (sym e2)

pub rose_earlier : (before mid after before2 mid2 after2 : ℕ) → before ≤ mid → before2 ≤ mid2 → Rose mid after ⊎ Rose mid2 after2 → Rose before after ⊎ Rose before2 after2
rose_earlier before mid after before2 mid2 after2 le le2 (inl rose) = inl (λ top. omega (arith, rose top, le))
rose_earlier before mid after before2 mid2 after2 le le2 (inr rose) = inr (λ top. omega (arith, rose top, le2))

-- the bytes of both disks once the list was written to one of them
module _ {D : Type 0} (content : D → List ℕ) (first second : D) (pair : PairState D) where
  pub written_anew : (other : D) (epoch : ℕ) (payloads : List (List ℕ)) (swapped : Bool) → pair.epoch ≡ epoch → pair.payloads ≡ payloads → pair.swapped ≡ swapped
      → content pair.used ≡ rewritten (header_of 2) epoch payloads (content other) → content other ≡ content (if swapped then second else first) → content pair.spare ≡ content (if swapped then first else second) → IsWrittenAnew content first second pair
  written_anew other epoch payloads swapped same_epoch same_payloads same_order bytes same spare = record {
    written =
        bytes ∙ ap (λ n. rewritten (header_of 2) n payloads (content other)) (sym same_epoch) ∙ ap (λ l. rewritten (header_of 2) pair.epoch l (content other)) (sym same_payloads)
        ∙ ap (rewritten (header_of 2) pair.epoch pair.payloads) (same ∙ ap (λ (b : Bool). content (if b then second else first)) (sym same_order));
    kept = spare ∙ ap (λ (b : Bool). content (if b then first else second)) (sym same_order);
  }

  -- before the disks were read
  pub anew_before : (first' second' : D) → content first' ≡ content first → content second' ≡ content second → IsWrittenAnew content first' second' pair → IsWrittenAnew content first second pair
  anew_before first' second' same other_same is = record {
    written = is.written ∙ ap (rewritten (header_of 2) pair.epoch pair.payloads) (either pair.swapped);
    kept = is.kept ∙ other_way pair.swapped;
  }
    where
      either : (b : Bool) → content (if b then second' else first') ≡ content (if b then second else first)
      either true = other_same
      either false = same

      other_way : (b : Bool) → content (if b then first' else second') ≡ content (if b then first else second)
      other_way true = same
      other_way false = other_same
