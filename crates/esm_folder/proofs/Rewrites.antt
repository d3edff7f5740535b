-- What is left of a pair whose list was rewritten, in whole or in part.
use Rattle.std.proofs.Common.{◌≡◌, ◌∙◌, ◌+◌, ℕ, true, false, List, length, map, reverse, Result, Ok, Err, ap, arith, refl, subst, sym}
use Rattle.std.specs.Prelude.{◌≢◌, ◌==◌, not, if◌then◌else◌, IfOk, OnErr}
use Rattle.std.proofs.lemmas.Bool.Decides.{nat_tests}
use Rattle.esm_io.specs.Faults.{Rose}
use Rattle.esm_io.specs.Meanings.{DiskMeaning}
use Rattle.esm_journal.specs.Bytes.{rewritten}
use Rattle.esm_journal.specs.File.{header_of, Holding, Damaged}
use Rattle.esm_journal.specs.Migrate.{with_next_epoch}
use Rattle.esm_journal.specs.Pair.{PairKeepsWhileUp, PairState, first_disk, second_disk}
use Rattle.esm_journal.specs.Reads.{IsOnlyRead}
use Rattle.esm_model.specs.declared.memory.OutOfMemory.{OutOfMemory}
use Rattle.esm_journal_record.specs.declared.said.Said.{Said}
use Rattle.esm_journal_record.specs.Payload.{payload_of}
use Rattle.esm_journal_state.specs.Bad.{IsFirstBad}
use Rattle.esm_journal_state.specs.Compact.{IsCompacted, SameSaid}
use Rattle.esm_journal_state.specs.Meaning.{are_good, history}
use Rattle.esm_journal_state.specs.declared.error.SaysError.{SaysError}
use Rattle.esm_journal_state.specs.declared.error.SaysError.TheVariants as judged
use Rattle.esm_folder.specs.declared.ending.JournalFile.TheVariants as file
use Rattle.esm_folder.specs.declared.ending.UpkeepEnd.{UpkeepEnd}
use Rattle.esm_folder.specs.declared.ending.UpkeepEnd.TheVariants as end
use Rattle.esm_folder.specs.Opened.{end_of_payloads, IsOpenedPair, IsOverwritten}
use Rattle.esm_folder.specs.Upkeep.{AreCompacted, AreHonest, AreKept, AreOnlyRead, HasCompacted, IsCompactEnd, IsCompacting, IsWritten, OneRose, OpenToOldOrCompacted, PairHolds}
use Rattle.esm_folder.proofs.OpenedDisks.{FileBesideNew, are_honest, are_kept, first_after, images_written, is_written, one_rose, pair_holds}

-- a pair that took over the disk that was written
pub taken_over : {D : Type 0} (p q : PairState D) → q.swapped ≡ not p.swapped → q.spare ≡ p.used
    → (first_disk q ≡ (if p.swapped then q.used else p.used)) × (second_disk q ≡ (if p.swapped then p.used else q.used))
taken_over p q swapped spare = (
  first_after p.swapped q.swapped q.spare q.used swapped ∙ ap (λ d. if p.swapped then q.used else d) spare,
  first_after p.swapped q.swapped q.used q.spare swapped ∙ ap (λ d. if p.swapped then d else q.used) spare,
)

-- an epoch that is not the greatest has a next one
not_greatest : (epoch : ℕ) → epoch ≢ 18446744073709551615 → (epoch == 18446744073709551615) ≡ false
not_greatest epoch other = grind (arith, nat_tests)

can_be_written : (epoch : ℕ) (payloads : List (List ℕ)) → epoch ≢ 18446744073709551615 → with_next_epoch (Holding epoch payloads) ≡ Holding epoch payloads
can_be_written epoch payloads other = rw (not_greatest epoch other) refl

no_next_epoch : (epoch : ℕ) (payloads : List (List ℕ)) → epoch ≡ 18446744073709551615 → with_next_epoch (Holding epoch payloads) ≡ Damaged 8
no_next_epoch epoch payloads e = rw e refl

-- the pair was not written to

pub read_of_opened : {D : Type 0} (m : DiskMeaning D) (journal' spare' : D) (p : PairState D) → journal' ≡ first_disk p → spare' ≡ second_disk p
    → (journal spare : D) → IsOpenedPair m journal spare p → AreOnlyRead m journal spare journal' spare'
read_of_opened m journal' spare' p first second journal spare o = (subst (IsOnlyRead m journal) (sym first) o.only_read.0, subst (IsOnlyRead m spare) (sym second) o.only_read.1)

pub greatest_end : {D : Type 0} (m : DiskMeaning D) (journal spare journal' spare' : D) (p : PairState D) (r : Result UpkeepEnd OutOfMemory) → r ≡ Ok (end.Damaged file.Journal 8)
    → IsOpenedPair m journal spare p → p.epoch ≡ 18446744073709551615 → AreOnlyRead m journal spare journal' spare' → IfOk r (IsCompactEnd m journal spare journal' spare')
greatest_end m journal spare journal' spare' p r is o greatest read =
    subst (λ x. IfOk x (IsCompactEnd m journal spare journal' spare')) (sym is) (refl, (λ honest. ap with_next_epoch (o.opens honest) ∙ no_next_epoch p.epoch p.payloads greatest), read)

pub bad_end : {D : Type 0} (m : DiskMeaning D) (journal spare journal' spare' : D) (p : PairState D) (why : SaysError)
    → IsOpenedPair m journal spare p → p.epoch ≢ 18446744073709551615 → IsFirstBad p.payloads why → AreOnlyRead m journal spare journal' spare'
    → IfOk (end_of_payloads why) (IsCompactEnd m journal spare journal' spare')
bad_end m journal spare journal' spare' p (judged.BadPayload index) o other bad read = (
  record {
    name_is = refl;
    payloads = p.payloads;
    are_found = λ honest. (p.epoch, ap with_next_epoch (o.opens honest) ∙ can_be_written p.epoch p.payloads other);
    bad = bad;
  },
  read,
)
bad_end m journal spare journal' spare' p judged.OutOfMemory o other bad read = tt

pub fault_end : {D : Type 0} (m : DiskMeaning D) (journal spare journal' spare' : D) (r : Result UpkeepEnd OutOfMemory) → r ≡ Ok end.DiskFault
    → OneRose m journal spare journal' spare' → IfOk r (IsCompactEnd m journal spare journal' spare')
fault_end m journal spare journal' spare' r is rose = subst (λ x. IfOk x (IsCompactEnd m journal spare journal' spare')) (sym is) rose

pub compacted_end : {D : Type 0} (m : DiskMeaning D) (journal spare journal' spare' : D) (before after : ℕ) (r : Result UpkeepEnd OutOfMemory) → r ≡ Ok (end.Compacted before after)
    → HasCompacted m journal spare journal' spare' before after → IfOk r (IsCompactEnd m journal spare journal' spare')
compacted_end m journal spare journal' spare' before after r is has = subst (λ x. IfOk x (IsCompactEnd m journal spare journal' spare')) (sym is) has

pub ok_has_no_error : {A E : Type 0} (P : Type 0) (x : A) (r : Result A E) → r ≡ Ok x → OnErr r P
ok_has_no_error P x r is = subst (λ r. OnErr r P) (sym is) tt

pub whatever_error : {A E : Type 0} (P : Type 0) (r : Result A E) → P → OnErr r P
whatever_error P (Ok x) h = tt
whatever_error P (Err e) h = h

pub error_is_not_ok : {A E : Type 0} (P : A → Type 0) (e : E) (r : Result A E) → r ≡ Err e → IfOk r P
error_is_not_ok P e r is = subst (λ r. IfOk r P) (sym is) tt

pub compacting_over : {D : Type 0} (m : DiskMeaning D) (journal spare journal' spare' new : D) (p : PairState D) (list : List (List ℕ)) → FileBesideNew → AreCompacted p.payloads list
    → IsOpenedPair m journal spare p → IsOverwritten m p list new journal' spare' → IsCompacting m journal spare journal' spare'
compacting_over m journal spare journal' spare' new p list beside c o w honest settled epoch payloads opens one image since other_since =
    let both = are_honest m p.swapped journal spare p.used p.spare o.only_read honest in
    let at : OpenToOldOrCompacted p.epoch p.payloads one image = images_written m p.swapped journal spare p.used p.spare new p.epoch p.payloads list beside c honest settled o.only_read (o.keeps honest)
    (w.any_moment both.0 both.1) one image
    (subst (λ d. m.since d (m.moment journal) one) w.journal_is since) (subst (λ d. m.since d (m.moment spare) image) w.spare_is other_since) in
    let same : Holding p.epoch p.payloads ≡ Holding epoch payloads = sym (o.opens honest) ∙ opens in
    let same_epoch : p.epoch ≡ epoch = cc in
    let same_payloads : p.payloads ≡ payloads = cc in
    subst (λ n. OpenToOldOrCompacted n payloads one image) same_epoch (subst (λ l. OpenToOldOrCompacted p.epoch l one image) same_payloads at)

pub kept_over : {D : Type 0} (m : DiskMeaning D) (journal spare journal' spare' new : D) (p : PairState D) (list : List (List ℕ))
    → IsOpenedPair m journal spare p → IsOverwritten m p list new journal' spare' → AreKept m journal spare journal' spare'
kept_over m journal spare journal' spare' new p list o w =
    rw (w.journal_is, w.spare_is) (are_kept m p.swapped journal spare p.used p.spare new o.only_read w.honesty w.never_falls)

pub rose_over : {D : Type 0} (m : DiskMeaning D) (journal spare journal' spare' new : D) (p : PairState D) (list : List (List ℕ))
    → IsOpenedPair m journal spare p → IsOverwritten m p list new journal' spare' → Rose (m.faults p.spare) (m.faults new) → OneRose m journal spare journal' spare'
rose_over m journal spare journal' spare' new p list o w rose =
    rw (w.journal_is, w.spare_is) (one_rose m p.swapped journal spare p.used p.spare new o.only_read rose)

-- what is left where the list was written whole
pub record IsTakenOver {D : Type 0} (m : DiskMeaning D) (p q : PairState D) (list : List (List ℕ)) (journal spare : D) : Type 0 where
  pub payloads : q.payloads ≡ list
  pub epoch : q.epoch ≡ p.epoch + 1
  pub bytes : m.honest p.spare ≡ true → m.content q.used ≡ rewritten (header_of 2) (p.epoch + 1) list (m.content p.spare)
  pub up : q.down ≡ false
  pub spare_is : q.spare ≡ p.used
  pub keeps : PairKeepsWhileUp m q
  pub first : journal ≡ first_disk q
  pub second : spare ≡ second_disk q

holds_over : {D : Type 0} (m : DiskMeaning D) (journal spare journal' spare' : D) (p q : PairState D) (list : List (List ℕ)) → IsOpenedPair m journal spare p
    → IsTakenOver m p q list journal' spare' → IsOverwritten m p list q.used journal' spare' → AreHonest m journal spare → PairHolds m (p.epoch + 1) list journal' spare'
holds_over m journal spare journal' spare' p q list o t w honest =
    let both = are_honest m p.swapped journal spare p.used p.spare o.only_read honest in
    let keeps = t.keeps (w.honesty ∙ both.1) (ap m.honest t.spare_is ∙ both.0) t.up in
    let at : PairHolds m q.epoch q.payloads (first_disk q) (second_disk q) = pair_holds m q.epoch q.payloads q.swapped q.used q.spare keeps in
    rw (t.first, t.second) (subst (λ n. PairHolds m n list (first_disk q) (second_disk q)) t.epoch (subst (λ l. PairHolds m q.epoch l (first_disk q) (second_disk q)) t.payloads at))

written_over : {D : Type 0} (m : DiskMeaning D) (journal spare journal' spare' : D) (p q : PairState D) (list : List (List ℕ)) → IsOpenedPair m journal spare p
    → IsTakenOver m p q list journal' spare' → IsOverwritten m p list q.used journal' spare' → AreHonest m journal spare → IsWritten m (p.epoch + 1) list journal spare journal' spare'
written_over m journal spare journal' spare' p q list o t w honest =
    let both = are_honest m p.swapped journal spare p.used p.spare o.only_read honest in
    rw (w.journal_is, w.spare_is) (is_written m (p.epoch + 1) list p.swapped journal spare p.used p.spare q.used (o.only_read.0.same honest.0) (o.only_read.1.same honest.1) (t.bytes both.1))

pub has_compacted : {D : Type 0} (m : DiskMeaning D) (journal spare journal' spare' : D) (p q : PairState D) (list : List (List ℕ)) (before after : ℕ) → AreCompacted p.payloads list
    → IsOpenedPair m journal spare p → IsTakenOver m p q list journal' spare' → IsOverwritten m p list q.used journal' spare'
    → p.epoch ≢ 18446744073709551615 → before ≡ length p.payloads → after ≡ length list → HasCompacted m journal spare journal' spare' before after
has_compacted m journal spare journal' spare' p q list before after c o t w other before_is after_is = record {
  epoch = p.epoch;
  payloads = p.payloads;
  list = list;
  are_found = λ honest. ap with_next_epoch (o.opens honest) ∙ can_be_written p.epoch p.payloads other;
  compacted = c;
  before_is = before_is;
  after_is = after_is;
  holds = holds_over m journal spare journal' spare' p q list o t w;
  written = written_over m journal spare journal' spare' p q list o t w;
}

-- the list that was made of the payloads that were seen
pub are_compacted : (seen payloads made list : List (List ℕ)) → seen ≡ payloads → made ≡ list → are_good (reverse seen) ≡ true
    → ((saids : List Said) × IsCompacted (history (reverse seen)) saids × (made ≡ map payload_of saids))
    → SameSaid (history (reverse made)) (history (reverse seen)) → are_good (reverse made) ≡ true → AreCompacted payloads list
are_compacted seen payloads made list seen_is made_is good listed same fine =
    let at : AreCompacted seen made = record { good = good; saids = listed.0; compacted = listed.1; list_is = listed.2; same = same; good_again = fine } in
    subst (λ l. AreCompacted payloads l) made_is (subst (λ l. AreCompacted l made) seen_is at)
