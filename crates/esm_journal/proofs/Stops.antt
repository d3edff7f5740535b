-- What a crash may leave of a pair once a call of a disk failed.
use Rattle.std.proofs.Common.{◌≡◌, ℕ, ◌+◌, ◌≤◌, Bool, true, false, List, [], ◌∷◌, ◌++◌, if◌then◌else◌, inl, inr, refl, sym, subst, ◌∙◌}
use Rattle.esm_io.specs.Meanings.{DiskMeaning}
use Rattle.esm_io.specs.Faults.{MAX_FAULTS}
use Rattle.esm_io.specs.Images.{LeavesOnly}
use Rattle.esm_journal.specs.File.{header_of, IsFile}
use Rattle.esm_journal.specs.Log.{IsLog, IsEither}
use Rattle.esm_journal.specs.Pair.{IsSpare, PairOpensToEither}
use Rattle.esm_journal.specs.Replace.{IsSpareOrNew}
use Rattle.esm_journal.specs.Stopped.{PairStillOpens}
use Rattle.esm_journal.specs.IsPair.{IsPair}
use Rattle.esm_journal.specs.declared.log.Log.{Log}
use Rattle.esm_journal.proofs.Pairs.{pair_either, pair_old_or_new, old_or_new_swapped}

-- no test is both
pub clash : false ≡ true → ⊥
clash e = cc

either_way : {P : Type 0} (b : Bool) → (b ≡ true → P) → (b ≡ false → P) → P
either_way true here there = here refl
either_way false here there = there refl

either_swapped : (header : List ℕ) (epoch : ℕ) (payloads : List (List ℕ)) (payload one other : List ℕ) → PairOpensToEither header epoch payloads payload one other → PairOpensToEither header epoch payloads payload other one
either_swapped header epoch payloads payload one other (inl opens) = inl (opens.1, opens.0)
either_swapped header epoch payloads payload one other (inr opens) = inr (opens.1, opens.0)

-- of the disks in the order in which they were handed in
pub in_places : {D : Type 0} (m : DiskMeaning D) (header : List ℕ) (epoch : ℕ) (payloads : List (List ℕ)) (used spare : D) (swapped : Bool) → PairStillOpens m header epoch payloads used spare
    → PairStillOpens m header epoch payloads (if swapped then spare else used) (if swapped then used else spare)
in_places m header epoch payloads used spare false opens = opens
in_places m header epoch payloads used spare true (inl adding) =
    inl (adding.0, λ one other now other_now. either_swapped header epoch payloads adding.0 other one (adding.1 other one other_now now))
in_places m header epoch payloads used spare true (inr writing) =
    inr (writing.0, λ one other now other_now. old_or_new_swapped header epoch payloads writing.0 other one (writing.1 other one other_now now))

module _ {D : Type 0} (m : DiskMeaning D) (log : Log D) (spare : D) (sealed : Bool)
    (is_log : IsLog m log) (is_pair : IsPair m log spare sealed) where
  module _ (new : Log D) (is_new : IsLog m new) (headed : new.header ≡ log.header) (same_epoch : new.epoch ≡ log.epoch) (honesty : m.honest new.disk ≡ m.honest log.disk)
      (was_up : new.down ≡ false → log.down ≡ false) (rests : log.down ≡ true → (new.disk ≡ log.disk) × (new.payloads.items ≡ log.payloads.items)) where
    -- no call had failed before
    stopped_now : m.honest new.disk ≡ true → m.honest spare ≡ true → new.down ≡ true → log.down ≡ false → PairStillOpens m (header_of 2) new.epoch new.payloads.items new.disk spare
    stopped_now h1 h2 down up =
        let stopped = is_new.stopped h1 down in
        let harmless : IsSpare (header_of 2) new.epoch (m.content spare) = subst (λ n. IsSpare (header_of 2) n (m.content spare)) (sym same_epoch) (is_pair.beside (sym honesty ∙ h1) h2 up) in
        inl (
          stopped.0,
          λ one other now other_now.
              pair_either (header_of 2) new.epoch new.payloads.items stopped.0 one other refl
              (subst (λ l. IsEither l new.epoch new.payloads.items (new.payloads.items ++ stopped.0 ∷ []) one) (headed ∙ is_pair.header) (stopped.1 one now))
              (subst (IsSpare (header_of 2) new.epoch) (sym (is_pair.settled h2 up other other_now)) harmless),
        )

    -- one had, so nothing was done
    stopped_before : m.honest new.disk ≡ true → m.honest spare ≡ true → log.down ≡ true → PairStillOpens m (header_of 2) new.epoch new.payloads.items new.disk spare
    stopped_before h1 h2 down =
        let same = rests down in
        subst (λ d. PairStillOpens m (header_of 2) new.epoch new.payloads.items d spare) (sym same.0)
        (subst (λ l. PairStillOpens m (header_of 2) new.epoch l log.disk spare) (sym same.1)
        (subst (λ n. PairStillOpens m (header_of 2) n log.payloads.items log.disk spare) (sym same_epoch) (is_pair.stopped (sym honesty ∙ h1) h2 down)))

    -- a call of the log leaves the pair
    pub is_pair_added : IsPair m new spare sealed
    is_pair_added = record {
      header = headed ∙ is_pair.header;
      beside = λ h1 h2 up. subst (λ n. IsSpare (header_of 2) n (m.content spare)) (sym same_epoch) (is_pair.beside (sym honesty ∙ h1) h2 (was_up up));
      settled = λ h up. is_pair.settled h (was_up up);
      other = λ h up. is_pair.other h (was_up up);
      stopped = λ h1 h2 down. either_way log.down (stopped_before h1 h2) (stopped_now h1 h2 down);
      faults_fit = is_pair.faults_fit;
    }

  module _ (up : log.down ≡ false) where
    -- the disk in use is as it was
    pub is_log_stopped : IsLog m (record log { down = true })
    is_log_stopped = record {
      header = is_log.header;
      file = λ h still. absurd (clash (sym still));
      synced = λ h still. absurd (clash (sym still));
      stopped = λ h _. ([], λ bytes now. inl (subst (IsFile log.header log.epoch log.payloads.items) (sym (is_log.synced h up bytes now)) (is_log.file h up)));
      end = is_log.end;
      faults_fit = is_log.faults_fit;
      spares = is_log.spares;
      total = is_log.total;
      places = is_log.places;
    }

    -- a call failed while a list was written to the spare disk
    pub is_pair_stopped : ((disk : D) (t : ℕ) (left : List ℕ) → m.honest disk ≡ true → t ≤ m.moment disk → m.image disk left → m.since disk t left)
        → (spare' : D) → m.honest spare' ≡ m.honest spare → m.faults spare' ≤ MAX_FAULTS → (list : List (List ℕ))
        → (m.honest spare ≡ true → (kept : List ℕ) (lower : ℕ) → IsSpare kept lower (m.content spare) → LeavesOnly m.moment m.since spare spare' (IsSpareOrNew kept lower (header_of 2) (log.epoch + 1) list))
        → IsPair m (record log { down = true }) spare' sealed
    is_pair_stopped counts_now spare' honesty fit list run = record {
      header = is_pair.header;
      beside = λ h1 h2 still. absurd (clash (sym still));
      settled = λ h still. absurd (clash (sym still));
      other = λ h still. absurd (clash (sym still));
      stopped = λ h1 h2 _.
          let was_honest = sym honesty ∙ h2 in
          let left = run was_honest (header_of 2) log.epoch (is_pair.beside h1 was_honest up) in
          let file : IsFile (header_of 2) log.epoch log.payloads.items (m.content log.disk) = subst (λ l. IsFile l log.epoch log.payloads.items (m.content log.disk)) is_pair.header (is_log.file h1 up) in
          inr (
            list,
            λ one other now other_now.
                pair_old_or_new (header_of 2) log.epoch log.payloads.items list one other refl
                (subst (IsFile (header_of 2) log.epoch log.payloads.items) (sym (is_log.synced h1 up one now)) file)
                (left.each other (counts_now spare' (m.moment spare) other h2 left.later other_now)),
          );
      faults_fit = fit;
    }
