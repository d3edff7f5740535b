-- The walk over the items finds the longest prefix within the limits.
use Rattle.std.proofs.Common.{◌≡◌, ℕ, zero, suc, ◌+◌, ◌-◌, ◌<◌, ◌≤◌, Bool, false, List, [], ◌∷◌, length, take, get_or, sum_by, All, ◌⊎◌, inl, inr, refl, arith, sym, ◌∙◌, subst, take-take, IsTrue}
use Rattle.std.proofs.lemmas.List.{length-take-le, get_or-take}
use Rattle.std.proofs.lemmas.List.Sums.{sum_by_more, sum_by-take-le}
use Rattle.std.proofs.lemmas.List.Elements.{All-more, All-get_or, All-nil, All-weaker, All-cons}
use Rattle.esm_next.specs.declared.piece.SizedItem.{SizedItem}
use Rattle.esm_next.specs.declared.piece.Limits.{Limits}
use Rattle.esm_next.specs.Cuts.{Fits, IsLongestPrefix, is_expired, first_window, CanBegin}
use Rattle.esm_next.specs.Steps.{GoesOn, IsTaken}

pub none_taken : (limits : Limits) (now start : ℕ) (items : List SizedItem) → IsTaken limits now start items 0 0
none_taken limits now start items = record {
  size = omega arith;
  bytes = refl;
  payload = omega arith;
  window = All-nil (λ (item : SizedItem). item.window ≡ start);
  fresh = All-nil (λ (item : SizedItem). is_expired limits.age_ms now item ≡ false);
}

bytes_more : (items : List SizedItem) (i : ℕ) (d : SizedItem) → i < length items → sum_by (λ (item : SizedItem). item.bytes) (take (i + 1) items) ≡ sum_by (λ (item : SizedItem). item.bytes) (take i items) + (get_or items i d).bytes
bytes_more items i d h = sum_by_more (λ (item : SizedItem). item.bytes) items i d h

pub one_more : (limits : Limits) (now start : ℕ) (items : List SizedItem) (i used : ℕ) (d : SizedItem) → i < length items → i < limits.count → IsTaken limits now start items i used → GoesOn limits now start used (get_or items i d) → IsTaken limits now start items (i + 1) (used + ((get_or items i d).bytes + 1))
one_more limits now start items i used d h room taken on = record {
  size = omega arith;
  bytes = omega (arith, bytes_more items i d h, taken.bytes);
  payload = omega (arith, on.payload);
  window = All-more (λ (item : SizedItem). item.window ≡ start) items i d h taken.window on.window;
  fresh = All-more (λ (item : SizedItem). is_expired limits.age_ms now item ≡ false) items i d h taken.fresh on.fresh;
}

-- a prefix that is not empty begins with the first item
first_of_prefix : (items : List SizedItem) (k : ℕ) → 0 < k → k ≤ length items → first_window (take k items) ≡ first_window items
first_of_prefix [] k some within = absurd (omega arith)
first_of_prefix (x ∷ xs) zero some within = absurd (omega arith)
first_of_prefix (x ∷ xs) (suc k) some within = refl

same_window : (items : List SizedItem) (k : ℕ) → k ≤ length items → All (λ (item : SizedItem). item.window ≡ first_window items) (take k items) → All (λ (item : SizedItem). item.window ≡ first_window (take k items)) (take k items)
same_window items zero within all = All-nil (λ (item : SizedItem). item.window ≡ first_window [])
same_window items (suc k) within all =
    All-weaker (λ (item : SizedItem). item.window ≡ first_window items) (λ (item : SizedItem). item.window ≡ first_window (take (suc k) items)) (λ item e. e ∙ sym (first_of_prefix items (suc k) (omega arith) within)) (take (suc k) items) all

bytes-take-le : (items : List SizedItem) (i j : ℕ) → i ≤ j → sum_by (λ (item : SizedItem). item.bytes) (take i items) ≤ sum_by (λ (item : SizedItem). item.bytes) (take j items)
bytes-take-le items i j le = subst (λ (xs : List SizedItem). sum_by (λ (item : SizedItem). item.bytes) xs ≤ sum_by (λ (item : SizedItem). item.bytes) (take j items)) (take-take i j items le) (sum_by-take-le (λ (item : SizedItem). item.bytes) (take j items) i)

within_payload : (items : List SizedItem) (k used limit : ℕ) → used ≡ sum_by (λ (item : SizedItem). item.bytes) (take k items) + k → used ≤ limit + 1 → sum_by (λ (item : SizedItem). item.bytes) (take k items) + (k - 1) ≤ limit
within_payload items zero used limit is h = omega arith
within_payload items (suc k) used limit is h = omega arith

fitting : (limits : Limits) (now : ℕ) (items : List SizedItem) (k used : ℕ) → k ≤ length items → IsTaken limits now (first_window items) items k used → Fits limits now (take k items)
fitting limits now items k used within taken =
    let size : length (take k items) ≡ k = length-take-le k items within in
    record {
      count = omega arith;
      payload = rw size (within_payload items k used limits.payload taken.bytes taken.payload);
      window = same_window items k within taken.window;
      fresh = taken.fresh;
    }

-- all items are taken
pub all_taken : (limits : Limits) (now : ℕ) (items : List SizedItem) (k used : ℕ) → k ≡ length items → IsTaken limits now (first_window items) items k used → IsLongestPrefix limits now items k
all_taken limits now items k used end taken = record {
  within = omega arith;
  fits = fitting limits now items k used (omega arith) taken;
  longest = λ j more within _. absurd (omega arith);
}

-- a longer prefix that meets the limits holds the next item, which then goes on the batch
next_goes_on : (limits : Limits) (now : ℕ) (items : List SizedItem) (i used j : ℕ) (d : SizedItem) → i < j → j ≤ length items → IsTaken limits now (first_window items) items i used → Fits limits now (take j items) → GoesOn limits now (first_window items) used (get_or items i d)
next_goes_on limits now items i used j d more within taken fits =
    let size : length (take j items) ≡ j = length-take-le j items within in
    let next : get_or (take j items) i d ≡ get_or items i d = get_or-take j items i d more in
    let start : first_window (take j items) ≡ first_window items = first_of_prefix items j (omega arith) within in
    let in_window : (get_or (take j items) i d).window ≡ first_window (take j items) = All-get_or (λ (item : SizedItem). item.window ≡ first_window (take j items)) (take j items) i d (omega arith) fits.window in
    let in_time : is_expired limits.age_ms now (get_or (take j items) i d) ≡ false = All-get_or (λ (item : SizedItem). is_expired limits.age_ms now item ≡ false) (take j items) i d (omega arith) fits.fresh in
    record {
      payload = omega (arith, fits.payload, taken.bytes, bytes_more items i d (omega arith), bytes-take-le items (i + 1) j (omega arith));
      window = rw (← next) (in_window ∙ start);
      fresh = rw (← next) in_time;
    }

-- the next item finds no room
pub stopped : (limits : Limits) (now : ℕ) (items : List SizedItem) (i used : ℕ) (d : SizedItem) → i < length items → IsTaken limits now (first_window items) items i used → (i ≡ limits.count) ⊎ (¬ GoesOn limits now (first_window items) used (get_or items i d)) → IsLongestPrefix limits now items i
stopped limits now items i used d h taken stop = record {
  within = omega arith;
  fits = fitting limits now items i used (omega arith) taken;
  longest = λ j more within fits.
      let size : length (take j items) ≡ j = length-take-le j items within in
      let count : length (take j items) ≤ limits.count = fits.count in
      elim stop [
        | inl full ↦ absurd (omega arith)
        | inr refused ↦ refused (next_goes_on limits now items i used j d more within taken fits)
      ];
}

-- an item that can begin meets the limits alone
pub first_taken : (limits : Limits) (now : ℕ) (items : List SizedItem) (count : ℕ) → CanBegin limits now items → IsLongestPrefix limits now items count → 0 < limits.count → 0 < count
first_taken limits now [] count begin is room = absurd begin
first_taken limits now (x ∷ xs) zero begin is room = absurd (is.longest 1 (omega arith) (omega arith) (record {
  count = omega arith;
  payload = omega (arith, begin.0);
  window = All-cons (λ (item : SizedItem). item.window ≡ x.window) x [] refl (All-nil (λ (item : SizedItem). item.window ≡ x.window));
  fresh = All-cons (λ (item : SizedItem). is_expired limits.age_ms now item ≡ false) x [] begin.1 (All-nil (λ (item : SizedItem). is_expired limits.age_ms now item ≡ false));
}))
first_taken limits now (x ∷ xs) (suc n) begin is room = omega arith

-- a test that is false is no evidence
pub not_so : {P : Type 0} (b : Bool) → b ≡ false → (P → IsTrue b) → ¬ P
not_so b is test p = let yes : IsTrue b = test p in cc
