-- The lane of a batcher, and the lanes to which something is owed.
use Rattle.std.proofs.Common.{◌≡◌, ℕ, suc, zero, ◌+◌, ◌<◌, Bool, true, false, not, List, [], ◌∷◌, length, refl, sym, ap, ◌∙◌, subst, inl, inr, arith, get_or, Option, Some, None}
use Rattle.std.specs.Prelude.{◌==◌, ◌*◌, ◌/◌, ◌%◌, slice_get, option_map, map, drop, if◌then◌else◌}
use Rattle.std.specs.List.{prefix_len}
use Rattle.std.proofs.lemmas.Bool.{cases_Bool, eq-eqb, eqb-true}
use Rattle.std.proofs.lemmas.Nat.{div-add-mod'}
use Rattle.std.proofs.lemmas.Option.{slice_get_within, get_or_from_slice_get}
use Rattle.esm_model.specs.declared.lane.LaneId.{LaneId}
use Rattle.esm_model.specs.declared.entry.Fate.{Fate}
use Rattle.esm_model.specs.declared.entry.WindowState.{WindowState}
use Rattle.esm_model.specs.declared.entry.Entry.{Entry}
use Rattle.esm_model.specs.declared.entry.Entry.TheVariants.{Came, Began, Ended, Gave, Tried, Closed, Replayed, Shut}
use Rattle.esm_model.specs.Lane.{same_lane}
use Rattle.esm_model.specs.Setting.{Setting}
use Rattle.esm_model.specs.Entries.{last_moment, shards_that_came, batcher}
use Rattle.esm_model.specs.Owed.{Debt, Success, GiveUp, Try, Close, debt_entry, debts, pays, owed, IsOwed}
use Rattle.esm_model.specs.Step.{Legal}
use Rattle.esm_model.proofs.Lists.{In, In-here, In-there, Distinct, apart}
use Rattle.esm_model.proofs.Sound.{same_lane-true}
use Rattle.esm_ledger.specs.Reading.{lane_of_batcher}
use Rattle.esm_ledger.proofs.Ledgers.{shards_distinct}
use Rattle.esm_stream_book.proofs.OneMore.{CanRun, can_before, running_can}

-- the batcher of its lane

in_at : (xs : List ℕ) (i n : ℕ) → i < length xs → get_or xs i 0 ≡ n → In xs n
in_at [] i n within is = absurd (omega (arith, within))
in_at (x ∷ xs) zero n within is = In-here x xs n is
in_at (x ∷ xs) (suc i) n within is = In-there x xs n (in_at xs i n (omega (arith, within)) is)

place_at : (xs : List ℕ) (i n : ℕ) → Distinct xs → i < length xs → get_or xs i 0 ≡ n → prefix_len (λ x. not (x == n)) xs ≡ i
place_at [] i n d within is = absurd (omega (arith, within))
place_at (x ∷ xs) zero n d within is = rw (eq-eqb x n is) refl
place_at (x ∷ xs) (suc i) n d within is = elim (cases_Bool (x == n)) [
  | inl same ↦ absurd (apart xs x d.0 (subst (In xs) (sym (eqb-true x n same)) (in_at xs i n (omega (arith, within)) is)))
  | inr other ↦ (let more : 1 + i ≡ suc i = omega arith in rw other (ap (λ v. 1 + v) (place_at xs i n d.1 (omega (arith, within)) is) ∙ more))
]

lane_at : (s : Setting) (h : List Entry) (k : ℕ) (lane : LaneId) (o : Option ℕ) → slice_get (shards_that_came h) (k / s.config.factor) ≡ o → option_map (λ (n : ℕ). record { shard = n; lane = k % s.config.factor }) o ≡ Some lane → batcher s h lane ≡ k
lane_at s h k lane None at is = absurd (cc)
lane_at s h k lane (Some n) at is =
    let lane_is : record { shard = n; lane = k % s.config.factor } ≡ lane = cc in
    subst (λ l. batcher s h l ≡ k) lane_is
    (ap (λ i. i * s.config.factor + k % s.config.factor) (place_at (shards_that_came h) (k / s.config.factor) n (shards_distinct h) (slice_get_within (shards_that_came h) (k / s.config.factor) n at) (get_or_from_slice_get (shards_that_came h) (k / s.config.factor) n 0 at))
    ∙ div-add-mod' k s.config.factor)

pub batcher_is : (s : Setting) (h : List Entry) (k : ℕ) (lane : LaneId) → lane_of_batcher s h k ≡ Some lane → batcher s h lane ≡ k
batcher_is s h k lane is = lane_at s h k lane (slice_get (shards_that_came h) (k / s.config.factor)) refl is

-- its number in its shard
number_at : (s : Setting) (k : ℕ) (lane : LaneId) (o : Option ℕ) → option_map (λ (n : ℕ). record { shard = n; lane = k % s.config.factor }) o ≡ Some lane → lane.lane ≡ k % s.config.factor
number_at s k lane None is = absurd (cc)
number_at s k lane (Some n) is =
    let lane_is : record { shard = n; lane = k % s.config.factor } ≡ lane = cc in
    ap (λ (l : LaneId). l.lane) (sym lane_is)

pub number_is : (s : Setting) (h : List Entry) (k : ℕ) (lane : LaneId) → lane_of_batcher s h k ≡ Some lane → lane.lane ≡ k % s.config.factor
number_is s h k lane is = number_at s k lane (slice_get (shards_that_came h) (k / s.config.factor)) is

-- a lane to which something is owed has run

dropped : (b : Bool) (ds : List Debt) → ds ≡ [] → (if b then drop 1 ds else ds) ≡ []
dropped true ds none = ap (drop 1) none
dropped false ds none = none

pub owed_can : (s : Setting) (h : List Entry) (lane : LaneId) → Legal s h → (debts s h lane ≡ [] → ⊥) → CanRun s h lane
owed_can s [] lane legal some = absurd (some refl)
owed_can s (Began at places closing m ∷ h) lane legal some = elim (cases_Bool (same_lane at lane)) [
  | inl same ↦ absurd (some (rw same refl))
  | inr other ↦ can_before s (Began at places closing m) h lane (owed_can s h lane legal.0 (λ none. some (rw other none)))
]
owed_can s (Ended at reply m ∷ h) lane legal some = elim (cases_Bool (same_lane at lane)) [
  | inl same ↦ can_before s (Ended at reply m) h lane (subst (λ (l : LaneId). CanRun s h l) (same_lane-true at lane same) (running_can s h at legal.0 legal.1.1))
  | inr other ↦ can_before s (Ended at reply m) h lane (owed_can s h lane legal.0 (λ none. some (rw other none)))
]
owed_can s (Came n first count m ∷ h) lane legal some = can_before s (Came n first count m) h lane (owed_can s h lane legal.0 some)
owed_can s (Gave by n places f line state m ∷ h) lane legal some =
    let e = Gave by n places f line state m in
    can_before s e h lane (owed_can s h lane legal.0 (λ none. some (dropped (pays lane (debts s h lane) e) (debts s h lane) none)))
owed_can s (Tried at places closing t m ∷ h) lane legal some =
    let e = Tried at places closing t m in
    can_before s e h lane (owed_can s h lane legal.0 (λ none. some (dropped (pays lane (debts s h lane) e) (debts s h lane) none)))
owed_can s (Closed at w m ∷ h) lane legal some =
    let e = Closed at w m in
    can_before s e h lane (owed_can s h lane legal.0 (λ none. some (dropped (pays lane (debts s h lane) e) (debts s h lane) none)))
owed_can s (Replayed n places m ∷ h) lane legal some = can_before s (Replayed n places m) h lane (owed_can s h lane legal.0 some)
owed_can s (Shut m ∷ h) lane legal some = can_before s (Shut m) h lane (owed_can s h lane legal.0 some)

-- what is owed as the first

pub some_owed : (s : Setting) (h : List Entry) (at : LaneId) (e : Entry) → IsOwed s h at e → debts s h at ≡ [] → ⊥
some_owed s h at e is none = absurd (let clash : None ≡ Some e = ap (λ ds. slice_get (map (debt_entry s h at (last_moment h)) ds) 0) (sym none) ∙ is in cc)

shard_of_debt : (s : Setting) (h : List Entry) (at : LaneId) (m n t : ℕ) (by : Option LaneId) (places : List ℕ) (f : Fate) (line : Option (List ℕ)) (state : Option WindowState) (d : Debt) → debt_entry s h at m d ≡ Gave by n places f line state t → at.shard ≡ n
shard_of_debt s h at m n t by places f line state (Success owed w) is = cc
shard_of_debt s h at m n t by places f line state (GiveUp owed) is = cc
shard_of_debt s h at m n t by places f line state (Try owed closing tries) is = absurd (cc)
shard_of_debt s h at m n t by places f line state (Close w) is = absurd (cc)

shard_in : (s : Setting) (h : List Entry) (at : LaneId) (m n t : ℕ) (by : Option LaneId) (places : List ℕ) (f : Fate) (line : Option (List ℕ)) (state : Option WindowState) (ds : List Debt) → slice_get (map (debt_entry s h at m) ds) 0 ≡ Some (Gave by n places f line state t) → at.shard ≡ n
shard_in s h at m n t by places f line state [] is = absurd (cc)
shard_in s h at m n t by places f line state (d ∷ ds) is =
    let same : debt_entry s h at m d ≡ Gave by n places f line state t = cc in
    shard_of_debt s h at m n t by places f line state d same

pub owed_shard : (s : Setting) (h : List Entry) (at : LaneId) (n t : ℕ) (by : Option LaneId) (places : List ℕ) (f : Fate) (line : Option (List ℕ)) (state : Option WindowState) → IsOwed s h at (Gave by n places f line state t) → at.shard ≡ n
owed_shard s h at n t by places f line state is = shard_in s h at (last_moment h) n t by places f line state (debts s h at) is
