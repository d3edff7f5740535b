-- What images of a pair open to.
use Rattle.std.proofs.Common.{◌==◌, ◌≡◌, inl, inr, ℕ, ◌+◌, ◌≤◌, ◌<◌, ◌&&◌, ◌||◌, not, Bool, true, false, List, [], ◌∷◌, ◌++◌, length, slice_index, nat_eq, nat_lt, if◌then◌else◌, arith, refl, sym, ap, ◌∙◌}
use Rattle.std.proofs.lemmas.Bool.Decides.{nat_tests}
use Rattle.std.specs.Cmp.Lexicographic.{pointwise, same_text}
use Rattle.esm_io.specs.Meanings.{DiskMeaning}
use Rattle.esm_io.specs.Images.{Only}
use Rattle.esm_journal.specs.File.{Holding, Foreign, Damaged, IsFile, eight_at, epoch_in, opened_rest}
use Rattle.esm_journal.specs.Pair.{is_sealed, is_taken, beside, pair_opened, IsSpare, PairOpensTo, PairOpensToEither, PairKeeps}
use Rattle.esm_journal.specs.Log.{IsEither}
use Rattle.esm_journal.specs.Replace.{IsSpareOrNew, PairOpensToOldOrNew}
use Rattle.esm_journal.proofs.Files.{opened_file, same_bytes, first_of_file, epoch_of_file, seal_of_file}
use Rattle.esm_journal.proofs.Written.{end_within}
use Rattle.esm_journal.proofs.Heads.{same_header}

-- a file of these payloads, as its front
pub record Sealed (header : List ℕ) (epoch : ℕ) (payloads : List (List ℕ)) (bytes : List ℕ) : Type 0 where
  pub seal : is_sealed header bytes ≡ true
  pub epoch_is : epoch_in bytes ≡ epoch
  pub says : opened_rest bytes ≡ Holding epoch payloads
  pub long : 18 ≤ length bytes

taken : (sealed other : Bool) (lower epoch : ℕ) → sealed ≡ true → (other ≡ true → lower < epoch) → (sealed && (not other || nat_lt lower epoch)) ≡ true
taken true false lower epoch is le = refl
taken true true lower epoch is le = let lt : lower < epoch = le refl in grind (arith, nat_tests)
taken false other lower epoch is le = cc

not_taken : (sealed other : Bool) (lower epoch : ℕ) → sealed ≡ true → (other ≡ true → lower < epoch) → (other && (not sealed || nat_lt epoch lower)) ≡ false
not_taken true false lower epoch is le = refl
not_taken true true lower epoch is le = let lt : lower < epoch = le refl in grind (arith, nat_tests)
not_taken false other lower epoch is le = cc

beside_long : (epoch : ℕ) (payloads : List (List ℕ)) (size : ℕ) → 18 ≤ size → beside (Holding epoch payloads) size ≡ Holding epoch payloads
beside_long epoch payloads size long = grind (arith, nat_tests)

pub used_first : (header : List ℕ) (epoch : ℕ) (payloads : List (List ℕ)) (used spare : List ℕ) → Sealed header epoch payloads used → IsSpare header epoch spare → pair_opened header used spare ≡ Holding epoch payloads
used_first header epoch payloads used spare s b =
    let t = taken (is_sealed header used) (is_sealed header spare) (epoch_in spare) (epoch_in used) s.seal (λ e. omega (arith, b.lower e, s.epoch_is)) in
    ap (λ c. if c then beside (opened_rest used) (length spare) else if is_taken header spare used then beside (opened_rest spare) (length used) else Foreign) t
    ∙ ap (λ o. beside o (length spare)) s.says ∙ beside_long epoch payloads (length spare) b.long

pub used_second : (header : List ℕ) (epoch : ℕ) (payloads : List (List ℕ)) (used spare : List ℕ) → Sealed header epoch payloads used → IsSpare header epoch spare → pair_opened header spare used ≡ Holding epoch payloads
used_second header epoch payloads used spare s b =
    let t = taken (is_sealed header used) (is_sealed header spare) (epoch_in spare) (epoch_in used) s.seal (λ e. omega (arith, b.lower e, s.epoch_is)) in
    let n = not_taken (is_sealed header used) (is_sealed header spare) (epoch_in spare) (epoch_in used) s.seal (λ e. omega (arith, b.lower e, s.epoch_is)) in
    ap (λ c. if c then beside (opened_rest spare) (length used) else if is_taken header used spare then beside (opened_rest used) (length spare) else Foreign) n
    ∙ ap (λ c. if c then beside (opened_rest used) (length spare) else Foreign) t
    ∙ ap (λ o. beside o (length spare)) s.says ∙ beside_long epoch payloads (length spare) b.long

-- a file of these payloads is sealed, whatever stands after its last gate
pub sealed_file : (header : List ℕ) (epoch : ℕ) (payloads : List (List ℕ)) (bytes : List ℕ) → length header ≡ 8 → IsFile header epoch payloads bytes → Sealed header epoch payloads bytes
sealed_file header epoch payloads bytes eight file =
    let first = first_of_file header epoch payloads bytes eight file in
    let seal = seal_of_file header epoch payloads bytes eight file in
    let long = long_file header epoch payloads bytes eight file in
    record {
      seal = both (pointwise nat_eq (eight_at bytes 0) header) (slice_index bytes 16) (ap (λ l. pointwise nat_eq l header) first ∙ same_bytes header) seal;
      epoch_is = epoch_of_file header epoch payloads bytes eight file;
      says = sym (same_header header bytes eight (omega (arith, long)) first) ∙ opened_file header epoch payloads bytes eight file;
      long = long;
    }
  where
    both : (a : Bool) (n : ℕ) → a ≡ true → n ≡ 1 → (a && (n == 1)) ≡ true
    both a n is one = grind (arith, nat_tests)

    long_file : (header : List ℕ) (epoch : ℕ) (payloads : List (List ℕ)) (bytes : List ℕ) → length header ≡ 8 → IsFile header epoch payloads bytes → 18 ≤ length bytes
    long_file header epoch payloads bytes eight file = omega (arith, end_within header epoch payloads bytes eight file)

-- a file that was replaced is no hindrance to one of a higher epoch
pub old_file_beside : (header : List ℕ) (epoch higher : ℕ) (payloads : List (List ℕ)) (bytes : List ℕ) → length header ≡ 8 → IsFile header epoch payloads bytes → epoch < higher → IsSpare header higher bytes
old_file_beside header epoch higher payloads bytes eight file lt =
    let s = sealed_file header epoch payloads bytes eight file in
    record { long = s.long; lower = λ e. omega (arith, lt, s.epoch_is) }

-- the file that is taken holds its payloads, and the other is cut short
pub beside_short : (header : List ℕ) (epoch : ℕ) (payloads : List (List ℕ)) (bytes : List ℕ) (size : ℕ) → length header ≡ 8 → IsFile header epoch payloads bytes → size < 18 → beside (opened_rest bytes) size ≡ Damaged size
beside_short header epoch payloads bytes size eight file short = ap (λ o. beside o size) (sealed_file header epoch payloads bytes eight file).says ∙ cut epoch payloads size short
  where
    cut : (epoch : ℕ) (payloads : List (List ℕ)) (size : ℕ) → size < 18 → beside (Holding epoch payloads) size ≡ Damaged size
    cut epoch payloads size short = grind (arith, nat_tests)

damaged_beside : (place size : ℕ) → beside (Damaged place) size ≡ Damaged place
damaged_beside place size = refl

lower_of : (sealed other : Bool) (lower epoch : ℕ) → (sealed && (not other || nat_lt lower epoch)) ≡ true → other ≡ true → lower < epoch
lower_of true true lower epoch is e = grind (arith, nat_tests)
lower_of true false lower epoch is e = cc
lower_of false other lower epoch is e = cc

headed_of : (same seal rest : Bool) → ((same && seal) && rest) ≡ true → same ≡ true
headed_of true seal rest is = refl
headed_of false seal rest is = cc

-- the file that is taken begins with the header
pub taken_header : (header bytes other : List ℕ) → is_taken header bytes other ≡ true → eight_at bytes 0 ≡ header
taken_header header bytes other is = same_text (eight_at bytes 0) header (sym (headed_of (pointwise nat_eq (eight_at bytes 0) header) (slice_index bytes 16 == 1) (not (is_sealed header other) || nat_lt (epoch_in other) (epoch_in bytes)) is))

-- the other does not hinder it
pub taken_beside : (header bytes other : List ℕ) (epoch : ℕ) → is_taken header bytes other ≡ true → epoch_in bytes ≡ epoch → 18 ≤ length other → IsSpare header epoch other
taken_beside header bytes other epoch is epoch_is long = record {
  long = long;
  lower = λ e. omega (arith, lower_of (is_sealed header bytes) (is_sealed header other) (epoch_in other) (epoch_in bytes) is e, epoch_is);
}

-- the first file is taken
pub first_taken : (header first second : List ℕ) → is_taken header first second ≡ true → pair_opened header first second ≡ beside (opened_rest first) (length second)
first_taken header first second is = ap (λ c. if c then beside (opened_rest first) (length second) else if is_taken header second first then beside (opened_rest second) (length first) else Foreign) is

-- the second file is taken
pub second_taken : (header first second : List ℕ) → is_taken header first second ≡ false → is_taken header second first ≡ true → pair_opened header first second ≡ beside (opened_rest second) (length first)
second_taken header first second not_first is =
    ap (λ c. if c then beside (opened_rest first) (length second) else if is_taken header second first then beside (opened_rest second) (length first) else Foreign) not_first
    ∙ ap (λ c. if c then beside (opened_rest second) (length first) else Foreign) is

-- neither file is taken
pub none_taken : (header first second : List ℕ) → is_taken header first second ≡ false → is_taken header second first ≡ false → pair_opened header first second ≡ Foreign
none_taken header first second not_first not_second =
    ap (λ c. if c then beside (opened_rest first) (length second) else if is_taken header second first then beside (opened_rest second) (length first) else Foreign) not_first
    ∙ ap (λ c. if c then beside (opened_rest second) (length first) else Foreign) not_second

-- a file of these payloads beside one that does not hinder it
pub pair_opens : (header : List ℕ) (epoch : ℕ) (payloads : List (List ℕ)) (used spare : List ℕ) → length header ≡ 8 → IsFile header epoch payloads used → IsSpare header epoch spare → PairOpensTo header epoch payloads used spare
pair_opens header epoch payloads used spare eight file beside =
    let s = sealed_file header epoch payloads used eight file in
    (used_first header epoch payloads used spare s beside, used_second header epoch payloads used spare s beside)

-- both disks are settled
pub keeps_pair : {D : Type 0} (m : DiskMeaning D) (header : List ℕ) (epoch : ℕ) (payloads : List (List ℕ)) (used spare : D) → length header ≡ 8 → IsFile header epoch payloads (m.content used) → Only (m.content used) (m.image used) → IsSpare header epoch (m.content spare) → Only (m.content spare) (m.image spare)
    → PairKeeps m header epoch payloads used spare
keeps_pair m header epoch payloads used spare eight file only harmless spare_only = record {
  file = file;
  durable = only;
  beside = harmless;
  spare_durable = spare_only;
  opens = pair_opens header epoch payloads (m.content used) (m.content spare) eight file harmless;
}

-- while a payload is added, the images of a pair open to the payloads with it or without
pub pair_either : (header : List ℕ) (epoch : ℕ) (payloads : List (List ℕ)) (payload used spare : List ℕ) → length header ≡ 8 → IsEither header epoch payloads (payloads ++ payload ∷ []) used → IsSpare header epoch spare → PairOpensToEither header epoch payloads payload used spare
pair_either header epoch payloads payload used spare eight (inl file) harmless = inl (pair_opens header epoch payloads used spare eight file harmless)
pair_either header epoch payloads payload used spare eight (inr file) harmless = inr (pair_opens header epoch (payloads ++ payload ∷ []) used spare eight file harmless)

-- while a list is written to the other file, the images of a pair open to the payloads or to the list
pub pair_old_or_new : (header : List ℕ) (epoch : ℕ) (payloads list : List (List ℕ)) (used spare : List ℕ) → length header ≡ 8 → IsFile header epoch payloads used → IsSpareOrNew header epoch header (epoch + 1) list spare → PairOpensToOldOrNew header epoch payloads list used spare
pair_old_or_new header epoch payloads list used spare eight file (inl harmless) = inl (pair_opens header epoch payloads used spare eight file harmless)
pair_old_or_new header epoch payloads list used spare eight file (inr new) =
    let opens = pair_opens header (epoch + 1) list spare used eight new (old_file_beside header epoch (epoch + 1) payloads used eight file (omega arith)) in
    inr (opens.1, opens.0)

-- the order of the two does not matter
pub old_or_new_swapped : (header : List ℕ) (epoch : ℕ) (payloads list : List (List ℕ)) (one other : List ℕ) → PairOpensToOldOrNew header epoch payloads list one other → PairOpensToOldOrNew header epoch payloads list other one
old_or_new_swapped header epoch payloads list one other (inl opens) = inl (opens.1, opens.0)
old_or_new_swapped header epoch payloads list one other (inr opens) = inr (opens.1, opens.0)

-- images of two disks, in the order in which the disks were handed in
module _ {D : Type 0} (moment : D → ℕ) (since : D → ℕ → List ℕ → Type 0) (used spare used' spare' : D) (P : List ℕ → List ℕ → Type 0) (swap : (one other : List ℕ) → P one other → P other one)
    (each : (one other : List ℕ) → since used' (moment used) one → since spare' (moment spare) other → P one other) where
  pub in_order : (swapped : Bool) (one other : List ℕ) → since (if swapped then spare' else used') (moment (if swapped then spare else used)) one → since (if swapped then used' else spare') (moment (if swapped then used else spare)) other → P one other
  in_order true one other was_one was_other = swap other one (each other one was_other was_one)
  in_order false one other was_one was_other = each one other was_one was_other

  -- the disk in use became the spare one
  pub in_order_after : (swapped : Bool) (one other : List ℕ) → since (if not swapped then used' else spare') (moment (if swapped then spare else used)) one → since (if not swapped then spare' else used') (moment (if swapped then used else spare)) other → P one other
  in_order_after true one other was_one was_other = swap other one (each other one was_other was_one)
  in_order_after false one other was_one was_other = each one other was_one was_other
