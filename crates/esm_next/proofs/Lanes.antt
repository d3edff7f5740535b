-- What is decided for a lane is what the rules say of it.
use Rattle.std.proofs.Common.{◌≡◌, ℕ, ◌<◌, ◌≤◌, Bool, true, false, not, cond, ◌&&◌, List, [], ◌∷◌, length, take, take_while, refl, sym, ap, ◌∙◌, subst, Some, None, arith}
use Rattle.std.specs.Prelude.{All, nat_le, nat_lt, slice_index}
use Rattle.std.proofs.lemmas.Bool.{le-leb, lt-leb, lt-ltb, le-ltb}
use Rattle.std.proofs.lemmas.List.Elements.{All-cons, All-nil, All-take}
use Rattle.esm_model.specs.declared.limits.TheConstants.{MAX_EXPIRED}
use Rattle.esm_model.specs.Moment.{moment_after}
use Rattle.esm_model.specs.declared.lane.LaneId.{LaneId}
use Rattle.esm_model.specs.declared.book.Next.{Next}
use Rattle.esm_model.specs.declared.book.Next.TheVariants as next
use Rattle.esm_model.specs.declared.entry.Entry.{Entry}
use Rattle.esm_model.specs.Setting.{Setting}
use Rattle.esm_model.specs.Entries.{came_count, is_shut, calls_begun}
use Rattle.esm_model.specs.Fates.{lacks_fate, open_places}
use Rattle.esm_model.specs.Batches.{group_of, is_expired, delay_end}
use Rattle.esm_model.specs.Windows.{is_outstanding}
use Rattle.esm_model.specs.Step.{is_front_expired}
use Rattle.esm_model.proofs.Lists.{In, In-here, In-there, In-take}
use Rattle.esm_model.proofs.Sound.{open_In}
use Rattle.esm_model.proofs.Records.{group_In}
use Rattle.esm_ledger.specs.Reading.{IsLeastDueWindow, AreOpen}
use Rattle.esm_next.specs.declared.decision.Decision.{Decision}
use Rattle.esm_next.specs.declared.decision.Decision.TheVariants as decision
use Rattle.esm_next.specs.Following.{outstanding, due_windows, least, is_nothing, pause, next_call, next_allowed, next_quiet, next_of}
use Rattle.esm_next.specs.Deciding.{answer_of, Gives, IsDecided}
use Rattle.esm_next.specs.Gathering.{IsFrontOf}
use Rattle.esm_next.proofs.Told.{none_due, some_due, none_outstanding, some_outstanding}
use Rattle.esm_next.proofs.Fronts.{ExpiresSo, expires_so, covered_group}

module _ (s : Setting) (h : List Entry) (lane : LaneId) (m : ℕ) where
  -- a lane with open records

  pub open_some : (places : List ℕ) (fresh : Bool) → IsFrontOf s h lane places fresh → open_places s h lane ≡ [] → ⊥
  open_some places fresh front none =
      let empty : places ≡ [] = sym front.group_is ∙ ap (group_of s h lane.shard) none in
      let short : length places ≡ 0 = ap length empty in
      let some = front.some in
      omega (arith, short, some)

  pub front_expires : (places : List ℕ) (fresh : Bool) (count : ℕ) → IsFrontOf s h lane places fresh → count ≤ length places → take count places ≡ take MAX_EXPIRED (take_while (is_expired s lane.shard m) places) → ExpiresSo s h lane m places count
  front_expires places fresh count front within taken = expires_so s h lane m places count front.group_is (open_some places fresh front) within taken

  all_of : (P : ℕ → Type 0) (xs : List ℕ) → ((i : ℕ) → In xs i → P i) → All P xs
  all_of P [] each = All-nil P
  all_of P (x ∷ xs) each = All-cons P x xs (each x (In-here x xs x refl)) (all_of P xs (λ i member. each i (In-there x xs i member)))

  pub front_came : (places : List ℕ) (fresh : Bool) (k : ℕ) → IsFrontOf s h lane places fresh → All (λ p. p < came_count h lane.shard) (take k places)
  front_came places fresh k front = all_of (λ p. p < came_count h lane.shard) (take k places) (λ i member. covered_group s h lane places front.group_is i (In-take k places i member))

  -- no record of the lane's group has a fate
  pub front_open : (places : List ℕ) (fresh : Bool) → IsFrontOf s h lane places fresh → AreOpen s h lane.shard places
  front_open places fresh front =
      all_of (λ i. lacks_fate s h lane.shard i ≡ true) places
      (λ i member. (open_In s h lane i (group_In s h lane i (subst (λ (xs : List ℕ). In xs i) (sym front.group_is) member))).2)

  pub first_open : (places : List ℕ) (fresh : Bool) (k : ℕ) → IsFrontOf s h lane places fresh → AreOpen s h lane.shard (take k places)
  first_open places fresh k front = All-take (λ i. lacks_fate s h lane.shard i ≡ true) k places (front_open places fresh front)

  pub first_came : (places : List ℕ) (fresh : Bool) → IsFrontOf s h lane places fresh → slice_index places 0 < came_count h lane.shard
  first_came places fresh front = at places front.some (λ i member. covered_group s h lane places front.group_is i member)
    where
      at : (xs : List ℕ) → 1 ≤ length xs → ((i : ℕ) → In xs i → i < came_count h lane.shard) → slice_index xs 0 < came_count h lane.shard
      at [] some each = absurd (omega arith)
      at (x ∷ xs) some each = each x (In-here x xs x refl)

  pub decided_expired : (places : List ℕ) (count : ℕ) (d : Decision) → ExpiresSo s h lane m places count → 0 < count → answer_of d ≡ next.Gave (length (take count places)) → Gives s h lane m d → IsDecided s h lane m d
  decided_expired places count d is some answer gives =
      let old : is_front_expired s h lane m ≡ true = is.some some in
      record {
        answer = answer ∙ rw old (ap (λ (xs : List ℕ). next.Gave (length xs)) is.are);
        gives = gives;
      }

  allowed_some : (xs : List ℕ) → (xs ≡ [] → ⊥) → next_quiet s h lane m xs ≡ next_allowed s h lane m
  allowed_some [] some = absurd (some refl)
  allowed_some (x ∷ xs) some = refl

  pub decided_open : (places : List ℕ) (fresh : Bool) (d : Decision) → IsFrontOf s h lane places fresh → is_front_expired s h lane m ≡ false → answer_of d ≡ next_allowed s h lane m → Gives s h lane m d → IsDecided s h lane m d
  decided_open places fresh d front young answer gives = record {
    answer = answer ∙ rw young (sym (allowed_some (open_places s h lane) (open_some places fresh front)));
    gives = gives;
  }

  -- a lane without them

  quiet : Next → Next
  quiet n = cond (is_shut h && is_nothing (outstanding s h lane.shard)) next.Finished (cond (is_nothing (due_windows s h lane.shard)) (pause m) n)

  next_empty : open_places s h lane ≡ [] → next_of s h lane m ≡ next_quiet s h lane m []
  next_empty none =
      let young : is_front_expired s h lane m ≡ false = rw none refl in
      rw young (ap (next_quiet s h lane m) none)

  pub decided_finished : open_places s h lane ≡ [] → (is_shut h && is_nothing (outstanding s h lane.shard)) ≡ true → IsDecided s h lane m decision.Finished
  decided_finished none over' = record { answer = sym (next_empty none ∙ rw over' refl); gives = tt }

  pub decided_paused : open_places s h lane ≡ [] → (is_shut h && is_nothing (outstanding s h lane.shard)) ≡ false → IsLeastDueWindow s h lane.shard None → IsDecided s h lane m (decision.Idle (moment_after m 20))
  decided_paused none going due =
      let no_due : is_nothing (due_windows s h lane.shard) ≡ true = none_due s h lane.shard due in
      record { answer = sym (next_empty none ∙ rw (going, no_due) refl); gives = tt }

  pub decided_due : (w : ℕ) (d : Decision) → open_places s h lane ≡ [] → (is_shut h && is_nothing (outstanding s h lane.shard)) ≡ false → IsLeastDueWindow s h lane.shard (Some w) → answer_of d ≡ next_allowed s h lane m → Gives s h lane m d → IsDecided s h lane m d
  decided_due w d none going due answer gives =
      let some : is_nothing (due_windows s h lane.shard) ≡ false = some_due s h lane.shard w due in
      record { answer = answer ∙ sym (next_empty none ∙ rw (going, some) refl); gives = gives }

  pub over_is : (b : Bool) → (b ≡ false → (w : ℕ) → is_outstanding s h lane.shard w ≡ false) → (b ≡ true → (w : ℕ) × (is_outstanding s h lane.shard w ≡ true)) → not b ≡ is_nothing (outstanding s h lane.shard)
  over_is true none some = (let one = some refl in sym (some_outstanding s h lane.shard one.0 one.1))
  over_is false none some = sym (none_outstanding s h lane.shard (none refl))

  -- calls that are left, and the delay

  pub spent_is : s.calls ≤ calls_begun h → next.Spent ≡ next_allowed s h lane m
  spent_is all = (let spent : nat_le s.calls (calls_begun h) ≡ true = le-leb s.calls (calls_begun h) all in rw spent refl)

  pub waits_is : calls_begun h < s.calls → m < delay_end s h lane → next.Idle (delay_end s h lane) ≡ next_allowed s h lane m
  waits_is left waits =
      let going : nat_le s.calls (calls_begun h) ≡ false = lt-leb s.calls (calls_begun h) left in
      let early : nat_lt m (delay_end s h lane) ≡ true = lt-ltb m (delay_end s h lane) waits in
      rw (going, early) refl

  pub free_is : calls_begun h < s.calls → delay_end s h lane ≤ m → next_allowed s h lane m ≡ next_call s h lane m (least (due_windows s h lane.shard))
  free_is left over' =
      let going : nat_le s.calls (calls_begun h) ≡ false = lt-leb s.calls (calls_begun h) left in
      let late : nat_lt m (delay_end s h lane) ≡ false = le-ltb m (delay_end s h lane) over' in
      rw (going, late) refl
