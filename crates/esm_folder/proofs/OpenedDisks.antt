-- What is left of the two disks of a pair, in the order in which they were handed in.
use Rattle.std.proofs.Common.{◌≡◌, ◌∙◌, ◌≤◌, ◌+◌, ℕ, Bool, true, false, List, length, ap, arith, inl, inr, refl, subst, sym}
use Rattle.std.specs.Prelude.{not, if◌then◌else◌}
use Rattle.esm_io.specs.Faults.{Rose}
use Rattle.esm_io.specs.Images.{LeavesOnly, Only}
use Rattle.esm_io.specs.Meanings.{DiskMeaning}
use Rattle.esm_journal.specs.Bytes.{rewritten}
use Rattle.esm_journal.specs.File.{header_of, IsFile}
use Rattle.esm_journal.specs.Pair.{PairKeeps}
use Rattle.esm_journal.specs.Reads.{IsOnlyRead}
use Rattle.esm_journal.specs.Replace.{IsSpareOrNew, PairOpensToOldOrNew}
use Rattle.esm_folder.specs.Upkeep.{AreCompacted, AreHonest, AreKept, AreOnlyRead, AreSettled, IsCompacting, IsKept, IsWritten, OneRose, OpenToOldOrCompacted, PairHolds}

-- what stands

pub pair_holds : {D : Type 0} (m : DiskMeaning D) (epoch : ℕ) (list : List (List ℕ)) (swapped : Bool) (used spare : D) → PairKeeps m (header_of 2) epoch list used spare
    → PairHolds m epoch list (if swapped then spare else used) (if swapped then used else spare)
pair_holds m epoch list false used spare k = record { opens = k.opens.0; settled = (k.durable, k.spare_durable) }
pair_holds m epoch list true used spare k = record { opens = k.opens.1; settled = (k.spare_durable, k.durable) }

pub is_written : {D : Type 0} (m : DiskMeaning D) (epoch : ℕ) (list : List (List ℕ)) (swapped : Bool) (journal spare used other new : D)
    → m.content (if swapped then other else used) ≡ m.content journal → m.content (if swapped then used else other) ≡ m.content spare
    → m.content new ≡ rewritten (header_of 2) epoch list (m.content other)
    → IsWritten m epoch list journal spare (if swapped then new else used) (if swapped then used else new)
is_written m epoch list false journal spare used other new first second is = inl (first, is ∙ ap (rewritten (header_of 2) epoch list) second)
is_written m epoch list true journal spare used other new first second is = inr (is ∙ ap (rewritten (header_of 2) epoch list) first, second)

pub are_honest : {D : Type 0} (m : DiskMeaning D) (swapped : Bool) (journal spare used other : D)
    → AreOnlyRead m journal spare (if swapped then other else used) (if swapped then used else other) → AreHonest m journal spare
    → (m.honest used ≡ true) × (m.honest other ≡ true)
are_honest m false journal spare used other read honest = (read.0.honesty ∙ honest.0, read.1.honesty ∙ honest.1)
are_honest m true journal spare used other read honest = (read.1.honesty ∙ honest.1, read.0.honesty ∙ honest.0)

kept_read : {D : Type 0} (m : DiskMeaning D) (old new : D) → IsOnlyRead m old new → IsKept m old new
kept_read m old new read = record { honesty = read.honesty; never_falls = read.never_falls }

kept_then : {D : Type 0} (m : DiskMeaning D) (old between new : D) → IsOnlyRead m old between → m.honest new ≡ m.honest between → m.faults between ≤ m.faults new → IsKept m old new
kept_then m old between new read honesty count =
    let lower = read.never_falls in
    record { honesty = honesty ∙ read.honesty; never_falls = omega (arith, lower, count) }

pub are_kept_read : {D : Type 0} (m : DiskMeaning D) (journal spare journal' spare' : D) → AreOnlyRead m journal spare journal' spare' → AreKept m journal spare journal' spare'
are_kept_read m journal spare journal' spare' read = (kept_read m journal journal' read.0, kept_read m spare spare' read.1)

pub are_kept : {D : Type 0} (m : DiskMeaning D) (swapped : Bool) (journal spare used other new : D)
    → AreOnlyRead m journal spare (if swapped then other else used) (if swapped then used else other)
    → m.honest new ≡ m.honest other → m.faults other ≤ m.faults new
    → AreKept m journal spare (if swapped then new else used) (if swapped then used else new)
are_kept m false journal spare used other new read honesty count = (kept_read m journal used read.0, kept_then m spare other new read.1 honesty count)
are_kept m true journal spare used other new read honesty count = (kept_then m journal other new read.0 honesty count, kept_read m spare used read.1)

rose_before : (first before now : ℕ) → first ≤ before → Rose before now → Rose first now
rose_before first before now lower rose = λ fits. let above = rose fits in omega (arith, lower, above)

pub one_rose : {D : Type 0} (m : DiskMeaning D) (swapped : Bool) (journal spare used other new : D)
    → AreOnlyRead m journal spare (if swapped then other else used) (if swapped then used else other)
    → Rose (m.faults other) (m.faults new)
    → OneRose m journal spare (if swapped then new else used) (if swapped then used else new)
one_rose m false journal spare used other new read rose = inr (rose_before _ _ _ read.1.never_falls rose)
one_rose m true journal spare used other new read rose = inl (rose_before _ _ _ read.0.never_falls rose)

-- the order after a list was written
pub first_after : {D : Type 0} (swapped now_swapped : Bool) (x y : D) → now_swapped ≡ not swapped → (if now_swapped then x else y) ≡ (if swapped then y else x)
first_after false now_swapped x y e = rw e refl
first_after true now_swapped x y e = rw e refl

-- what a crash leaves

-- of a disk that was only read
unwritten_image : {D : Type 0} (m : DiskMeaning D) (old new : D) → m.honest old ≡ true → Only (m.content old) (m.image old) → IsOnlyRead m old new
    → (image : List ℕ) → m.since new (m.moment old) image → image ≡ m.content new
unwritten_image m old new honest only read image since = only image ((read.any_moment honest).each image since) ∙ sym (read.same honest)

-- and of one that was written after it was read
written_image : {D : Type 0} (m : DiskMeaning D) (old between new : D) (P : List ℕ → Type 0) → m.honest old ≡ true → Only (m.content old) (m.image old) → IsOnlyRead m old between
    → P (m.content between) → LeavesOnly m.moment m.since between new P → (image : List ℕ) → m.since new (m.moment old) image → P image
written_image m old between new P honest only read before leaves image since =
    elim (leaves.before (m.moment old) image (read.any_moment honest).later since) [
      | inl was ↦ subst P (sym (unwritten_image m old between honest only read image was)) before
      | inr now ↦ now
    ]

-- the file in use beside a list that is being written
abbrev pub FileBesideNew : Type 0
FileBesideNew = (header : List ℕ) (epoch : ℕ) (payloads list : List (List ℕ)) (used other : List ℕ) → length header ≡ 8
    → IsFile header epoch payloads used → IsSpareOrNew header epoch header (epoch + 1) list other → PairOpensToOldOrNew header epoch payloads list used other

opens_in_order : (epoch : ℕ) (payloads list used other : _) → AreCompacted payloads list → PairOpensToOldOrNew (header_of 2) epoch payloads list used other
    → OpenToOldOrCompacted epoch payloads used other × OpenToOldOrCompacted epoch payloads other used
opens_in_order epoch payloads list used other c (inl opens) = (inl opens.0, inl opens.1)
opens_in_order epoch payloads list used other c (inr opens) = (inr (list, c, opens.0), inr (list, c, opens.1))

-- of the file in use and of the one that was written, in this order and in the other
opens_written : {D : Type 0} (m : DiskMeaning D) (one_was other_was used other new : D) (epoch : ℕ) (payloads list : List (List ℕ)) → FileBesideNew → AreCompacted payloads list
    → m.honest one_was ≡ true → m.honest other_was ≡ true → Only (m.content one_was) (m.image one_was) → Only (m.content other_was) (m.image other_was)
    → IsOnlyRead m one_was used → IsOnlyRead m other_was other → PairKeeps m (header_of 2) epoch payloads used other
    → LeavesOnly m.moment m.since other new (IsSpareOrNew (header_of 2) epoch (header_of 2) (epoch + 1) list)
    → (one image : List ℕ) → m.since used (m.moment one_was) one → m.since new (m.moment other_was) image
    → OpenToOldOrCompacted epoch payloads one image × OpenToOldOrCompacted epoch payloads image one
opens_written m one_was other_was used other new epoch payloads list beside c honest other_honest only other_only read other_read keeps leaves one image since other_since =
    let P : List ℕ → Type 0 = IsSpareOrNew (header_of 2) epoch (header_of 2) (epoch + 1) list in
    let one_is : one ≡ m.content used = unwritten_image m one_was used honest only read one since in
    let image_is : P image = written_image m other_was other new P other_honest other_only other_read (inl keeps.beside) leaves image other_since in
    let file : IsFile (header_of 2) epoch payloads one = subst (IsFile (header_of 2) epoch payloads) (sym one_is) keeps.file in
    opens_in_order epoch payloads list one image c (beside (header_of 2) epoch payloads list one image refl file image_is)

pub images_written : {D : Type 0} (m : DiskMeaning D) (swapped : Bool) (journal spare used other new : D) (epoch : ℕ) (payloads list : List (List ℕ)) → FileBesideNew → AreCompacted payloads list
    → AreHonest m journal spare → AreSettled m journal spare
    → AreOnlyRead m journal spare (if swapped then other else used) (if swapped then used else other)
    → PairKeeps m (header_of 2) epoch payloads used other
    → LeavesOnly m.moment m.since other new (IsSpareOrNew (header_of 2) epoch (header_of 2) (epoch + 1) list)
    → (one image : List ℕ) → m.since (if swapped then new else used) (m.moment journal) one → m.since (if swapped then used else new) (m.moment spare) image
    → OpenToOldOrCompacted epoch payloads one image
images_written m false journal spare used other new epoch payloads list beside c honest settled read keeps leaves one image since other_since =
    (opens_written m journal spare used other new epoch payloads list beside c honest.0 honest.1 settled.0 settled.1 read.0 read.1 keeps leaves one image since other_since).0
images_written m true journal spare used other new epoch payloads list beside c honest settled read keeps leaves one image since other_since =
    (opens_written m spare journal used other new epoch payloads list beside c honest.1 honest.0 settled.1 settled.0 read.1 read.0 keeps leaves image one other_since since).1

pub compacting_read : {D : Type 0} (m : DiskMeaning D) (journal spare journal' spare' : D) → AreOnlyRead m journal spare journal' spare' → IsCompacting m journal spare journal' spare'
compacting_read m journal spare journal' spare' read honest settled epoch payloads opens one other since other_since =
    let one_is : one ≡ m.content journal = settled.0 one ((read.0.any_moment honest.0).each one since) in
    let other_is : other ≡ m.content spare = settled.1 other ((read.1.any_moment honest.1).each other other_since) in
    inl (rw (one_is, other_is) opens)
