-- What the other entries leave settled.
use Rattle.std.proofs.Common.{◌≡◌, ℕ, ◌+◌, Bool, true, false, not, cond, ◌&&◌, List, [], ◌∷◌, drop, refl, ap, ◌∙◌, Option, Some, None}
use Rattle.std.specs.Prelude.{◌==◌, filter}
use Rattle.std.proofs.lemmas.Bool.{and_from, eq-eqb}
use Rattle.esm_model.specs.Lane.{same_lane}
use Rattle.esm_model.specs.declared.lane.LaneId.{LaneId}
use Rattle.esm_model.specs.declared.entry.Fate.{Fate}
use Rattle.esm_model.specs.declared.entry.WindowState.{WindowState}
use Rattle.esm_model.specs.declared.entry.Entry.{Entry}
use Rattle.esm_model.specs.declared.entry.Entry.TheVariants.{Came, Began, Gave, Shut}
use Rattle.esm_model.specs.Setting.{Setting}
use Rattle.esm_model.specs.Entries.{holds, came_count}
use Rattle.esm_model.specs.Fates.{below}
use Rattle.esm_model.specs.Owed.{Debt, debts, pays, is_unsorted, unsorted, Settled}
use Rattle.esm_model.proofs.Lists.{filter_all, filter_none}
use Rattle.esm_model.proofs.Owing.{unsorted_after_gave, unsorted_gave}

dropped : (b : Bool) (ds : List Debt) → ds ≡ [] → cond b (drop 1 ds) ds ≡ []
dropped true ds none = ap (drop 1) none
dropped false ds none = none

emptied : (b : Bool) (ds : List Debt) → ds ≡ [] → cond b [] ds ≡ []
emptied true ds none = refl
emptied false ds none = none

pub settled_began : (s : Setting) (h : List Entry) (at : LaneId) (places : List ℕ) (closing : Option ℕ) (m : ℕ) → Settled s h → Settled s (Began at places closing m ∷ h)
settled_began s h at places closing m settled = record { sorted = settled.sorted; paid = λ lane. emptied (same_lane at lane) (debts s h lane) (settled.paid lane) }

pub settled_shut : (s : Setting) (h : List Entry) (m : ℕ) → Settled s h → Settled s (Shut m ∷ h)
settled_shut s h m settled = record { sorted = settled.sorted; paid = settled.paid }

-- records that expire were all sorted
pub settled_expired : (s : Setting) (h : List Entry) (at : LaneId) (n : ℕ) (places : List ℕ) (f : Fate) (line : Option (List ℕ)) (state : Option WindowState) (m : ℕ) → Settled s h → Settled s (Gave (Some at) n places f line state m ∷ h)
settled_expired s h at n places f line state m settled = record {
  sorted = λ k. unsorted_gave s (Some at) n places f line state m h k (settled.sorted k);
  paid = λ lane. dropped (pays lane (debts s h lane) (Gave (Some at) n places f line state m)) (debts s h lane) (settled.paid lane);
}

-- what came to one shard leaves the others sorted
pub unsorted_came_elsewhere : (s : Setting) (n first count m : ℕ) (h : List Entry) (k : ℕ) → (n == k) ≡ false → unsorted s (Came n first count m ∷ h) k ≡ unsorted s h k
unsorted_came_elsewhere s n first count m h k other = ap (λ c. filter (is_unsorted s h k) (below c)) (cond_at (n == k) (count + came_count h k) (came_count h k) other)
  where
    cond_at : (b : Bool) (x y : ℕ) → b ≡ false → cond b x y ≡ y
    cond_at b x y e = rw e refl

-- where all that is unsorted in the shard is filtered, it is sorted
pub unsorted_filtered : (s : Setting) (n : ℕ) (f : Fate) (line : Option (List ℕ)) (state : Option WindowState) (m : ℕ) (h : List Entry) → unsorted s (Gave None n (unsorted s h n) f line state m ∷ h) n ≡ []
unsorted_filtered s n f line state m h =
    unsorted_after_gave s None n (unsorted s h n) f line state m h n
    ∙ filter_none (λ i. not ((n == n) && holds (unsorted s h n) i)) (unsorted s h n) (λ i member. ap not (and_from (n == n) (holds (unsorted s h n) i) (eq-eqb n n refl) member))

-- and the other shards stay as they are
pub unsorted_filtered_elsewhere : (s : Setting) (n : ℕ) (places : List ℕ) (f : Fate) (line : Option (List ℕ)) (state : Option WindowState) (m : ℕ) (h : List Entry) (k : ℕ) → (n == k) ≡ false → unsorted s (Gave None n places f line state m ∷ h) k ≡ unsorted s h k
unsorted_filtered_elsewhere s n places f line state m h k other =
    unsorted_after_gave s None n places f line state m h k
    ∙ filter_all (λ i. not ((n == k) && holds places i)) (unsorted s h k) (λ i member. rw other refl)
