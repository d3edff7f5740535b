-- What the images of a pair open to while a list is written over its spare file.
use Rattle.std.proofs.Common.{◌≡◌, ℕ, ◌+◌, ◌==◌, Bool, true, false, not, if◌then◌else◌, List, length, slice_index, arith, refl, sym, subst, ◌∙◌, inl}
use Rattle.std.proofs.lemmas.Bool.Decides.{nat_tests}
use Rattle.esm_io.specs.Meanings.{DiskMeaning}
use Rattle.esm_io.specs.Images.{LeavesOnly}
use Rattle.esm_journal.specs.File.{header_of, IsFile}
use Rattle.esm_journal.specs.Pair.{IsSpare, IsOther, PairKeeps}
use Rattle.esm_journal.specs.Log.{IsLog}
use Rattle.esm_journal.specs.IsPair.{IsPair}
use Rattle.esm_journal.specs.Replace.{IsSpareOrNew, PairOpensToOldOrNew}
use Rattle.esm_journal.specs.declared.log.Log.{Log}
use Rattle.esm_journal.proofs.Files.{seal_of_file}
use Rattle.esm_journal.proofs.Written.{end_within}
use Rattle.esm_io.proofs.Leaving.{started}
use Rattle.esm_journal.proofs.Stops.{clash}
use Rattle.esm_journal.proofs.Pairs.{old_file_beside, keeps_pair, pair_old_or_new, old_or_new_swapped, in_order, in_order_after}

-- a file is long enough and sealed
pub other_of_file : (header : List ℕ) (epoch : ℕ) (payloads : List (List ℕ)) (bytes : List ℕ) → length header ≡ 8 → IsFile header epoch payloads bytes → IsOther true bytes
other_of_file header epoch payloads bytes eight file = record {
  long = omega (arith, end_within header epoch payloads bytes eight file);
  seal = is_one (slice_index bytes 16) (seal_of_file header epoch payloads bytes eight file);
}
  where
    is_one : (byte : ℕ) → byte ≡ 1 → true ≡ (byte == 1)
    is_one byte is = grind (arith, nat_tests)

module _ {D : Type 0} (m : DiskMeaning D)
    (only_now : (disk : D) (left : List ℕ) → m.honest disk ≡ true → m.since disk (m.moment disk) left → m.image disk left) (log : Log D) (spare : D) (sealed : Bool)
    (is_log : IsLog m log) (is_pair : IsPair m log spare sealed) where
  -- the disk in use becomes the spare one, beside the new file
  pub is_pair_over : (new : Log D) → IsLog m new → log.down ≡ false → new.down ≡ log.down → new.header ≡ log.header → new.epoch ≡ log.epoch + 1 → IsPair m new log.disk true
  is_pair_over new is_new up still_up headed next = record {
    header = headed ∙ is_pair.header;
    beside = λ h1 h2 still. old_file_beside (header_of 2) log.epoch new.epoch log.payloads.items (m.content log.disk) refl (subst (λ l. IsFile l log.epoch log.payloads.items (m.content log.disk)) is_pair.header (is_log.file h2 up)) (omega (arith, next));
    settled = λ h still. is_log.synced h up;
    other = λ h still. other_of_file log.header log.epoch log.payloads.items (m.content log.disk) is_log.header (is_log.file h up);
    stopped = λ h1 h2 down. absurd (clash (sym (still_up ∙ up) ∙ down));
    faults_fit = is_log.faults_fit;
  }

  pub pair_keeps : m.honest log.disk ≡ true → m.honest spare ≡ true → log.down ≡ false → PairKeeps m (header_of 2) log.epoch log.payloads.items log.disk spare
  pair_keeps h1 h2 up = keeps_pair m (header_of 2) log.epoch log.payloads.items log.disk spare refl
      (subst (λ l. IsFile l log.epoch log.payloads.items (m.content log.disk)) is_pair.header (is_log.file h1 up)) (is_log.synced h1 up) (is_pair.beside h1 h2 up) (is_pair.settled h2 up)

  module _ (h1 : m.honest log.disk ≡ true) (h2 : m.honest spare ≡ true) (up : log.down ≡ false) (list : List (List ℕ)) where
    abbrev Left : D → Type 0
    Left spare' = LeavesOnly m.moment m.since spare spare' (IsSpareOrNew (header_of 2) log.epoch (header_of 2) (log.epoch + 1) list)

    -- nothing was written
    pub resting : Left spare
    resting = started m.moment m.since spare (IsSpareOrNew (header_of 2) log.epoch (header_of 2) (log.epoch + 1) list)
        (λ left was. inl (subst (IsSpare (header_of 2) log.epoch) (sym (is_pair.settled h2 up left (only_now spare left h2 was))) (is_pair.beside h1 h2 up)))

    old_or_new : (spare' : D) → Left spare' → (one other : List ℕ) → m.since log.disk (m.moment log.disk) one → m.since spare' (m.moment spare) other → PairOpensToOldOrNew (header_of 2) log.epoch log.payloads.items list one other
    old_or_new spare' left one other was_one was_other =
        let is : one ≡ m.content log.disk = is_log.synced h1 up one (only_now log.disk one h1 was_one) in
        let file : IsFile (header_of 2) log.epoch log.payloads.items (m.content log.disk) = subst (λ l. IsFile l log.epoch log.payloads.items (m.content log.disk)) is_pair.header (is_log.file h1 up) in
        pair_old_or_new (header_of 2) log.epoch log.payloads.items list one other refl (subst (IsFile (header_of 2) log.epoch log.payloads.items) (sym is) file) (left.each other was_other)

    -- as long as the disk in use stays in use
    pub images_before : (swapped : Bool) (spare' : D) → Left spare' → (one other : List ℕ) → m.since (if swapped then spare' else log.disk) (m.moment (if swapped then spare else log.disk)) one → m.since (if swapped then log.disk else spare') (m.moment (if swapped then log.disk else spare)) other
        → PairOpensToOldOrNew (header_of 2) log.epoch log.payloads.items list one other
    images_before swapped spare' left =
        in_order m.moment m.since log.disk spare log.disk spare' (PairOpensToOldOrNew (header_of 2) log.epoch log.payloads.items list)
        (old_or_new_swapped (header_of 2) log.epoch log.payloads.items list) (old_or_new spare' left) swapped

    -- once it is the spare one
    pub images_after : (swapped : Bool) (spare' : D) → Left spare' → (one other : List ℕ) → m.since (if not swapped then log.disk else spare') (m.moment (if swapped then spare else log.disk)) one → m.since (if not swapped then spare' else log.disk) (m.moment (if swapped then log.disk else spare)) other
        → PairOpensToOldOrNew (header_of 2) log.epoch log.payloads.items list one other
    images_after swapped spare' left =
        in_order_after m.moment m.since log.disk spare log.disk spare' (PairOpensToOldOrNew (header_of 2) log.epoch log.payloads.items list)
        (old_or_new_swapped (header_of 2) log.epoch log.payloads.items list) (old_or_new spare' left) swapped
