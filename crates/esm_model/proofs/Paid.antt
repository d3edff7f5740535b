-- What a legal history gives a fate, or runs, is open.
use Rattle.std.proofs.Common.{◌≡◌, ℕ, true, false, List, ◌∷◌, drop, sym, subst, Option, Some, None}
use Rattle.std.specs.Prelude.{option_map, unwrap_or}
use Rattle.std.proofs.lemmas.Bool.{and_parts}
use Rattle.esm_model.specs.declared.lane.LaneId.{LaneId}
use Rattle.esm_model.specs.declared.entry.Fate.{Fate}
use Rattle.esm_model.specs.declared.entry.Fate.TheVariants.{Succeeded, Filtered, Expired, Exhausted}
use Rattle.esm_model.specs.declared.entry.WindowState.{WindowState}
use Rattle.esm_model.specs.declared.entry.Entry.{Entry}
use Rattle.esm_model.specs.declared.entry.Entry.TheVariants.{Gave}
use Rattle.esm_model.specs.Setting.{Setting, record_at}
use Rattle.esm_model.specs.Entries.{came_count, is_running, last_call, batch_of}
use Rattle.esm_model.specs.Fates.{below, lacks_fate, open_places}
use Rattle.esm_model.specs.Owed.{debts, is_refused, is_unsorted, IsOwed}
use Rattle.esm_model.specs.Step.{Legal, MayExpire}
use Rattle.esm_model.proofs.Lists.{In, IsFront, In-filter, front_In, In-append_left}
use Rattle.esm_model.proofs.Debts.{debt_places, gives_in_shard}
use Rattle.esm_model.proofs.Sound.{sound, paid, pending, open_In, expired_front}

-- what a lane is to give is open, in the lane
pub paid_In : (s : Setting) (h : List Entry) (at : LaneId) (n : ℕ) (places : List ℕ) (f : Fate) (line : Option (List ℕ)) (state : Option WindowState) (m : ℕ)
    → Legal s h → IsOwed s h at (Gave (Some at) n places f line state m) → (i : ℕ) → In places i → In (open_places s h at) i
paid_In s h at n places f line state m legal owed i member =
    let was = sound s h legal at in
    let is = paid s h at (Gave (Some at) n places f line state m) owed was in
    front_In (pending s h at) (open_places s h at) i was.front (subst (λ xs. In xs i) (sym is.pend) (In-append_left places (debt_places (drop 1 (debts s h at))) i member))

pub running_front : (s : Setting) (h : List Entry) (at : LaneId) → Legal s h → is_running h at ≡ true → IsFront (batch_of (last_call h at)) (open_places s h at)
running_front s h at legal runs = let was = sound s h legal at in rw runs at was.front

-- what a lane runs is open, in the lane
pub running_In : (s : Setting) (h : List Entry) (at : LaneId) → Legal s h → is_running h at ≡ true → (i : ℕ) → In (batch_of (last_call h at)) i → In (open_places s h at) i
running_In s h at legal runs i member = front_In (batch_of (last_call h at)) (open_places s h at) i (running_front s h at legal runs) member

owed_shard : (s : Setting) (h : List Entry) (at : LaneId) (n : ℕ) (places : List ℕ) (f : Fate) (line : Option (List ℕ)) (state : Option WindowState) (m : ℕ)
    → Legal s h → IsOwed s h at (Gave (Some at) n places f line state m) → n ≡ at.shard
owed_shard s h at n places f line state m legal owed =
    let is = paid s h at (Gave (Some at) n places f line state m) owed (sound s h legal at) in
    gives_in_shard s h at _ is.first.first (Some at) n places f line state m is.first.brings

paid_open : (s : Setting) (h : List Entry) (at : LaneId) (n : ℕ) (places : List ℕ) (f : Fate) (line : Option (List ℕ)) (state : Option WindowState) (m : ℕ)
    → Legal s h → IsOwed s h at (Gave (Some at) n places f line state m) → (i : ℕ) → In places i → lacks_fate s h n i ≡ true
paid_open s h at n places f line state m legal owed i member =
    subst (λ k. lacks_fate s h k i ≡ true) (sym (owed_shard s h at n places f line state m legal owed)) (open_In s h at i (paid_In s h at n places f line state m legal owed i member)).2

-- what expires is open, in the lane
pub expired_In : (s : Setting) (h : List Entry) (at : LaneId) (n : ℕ) (places : List ℕ) (line : Option (List ℕ)) (state : Option WindowState) (m : ℕ)
    → MayExpire s h at n places line state m → (i : ℕ) → In places i → In (open_places s h at) i
expired_In s h at n places line state m may i member = front_In places (open_places s h at) i (expired_front s h at n places line state m may) member

-- a legal `Gave` gives a fate to places that have none
pub gave_open : (s : Setting) (h : List Entry) (by : Option LaneId) (n : ℕ) (places : List ℕ) (f : Fate) (line : Option (List ℕ)) (state : Option WindowState) (m : ℕ)
    → Legal s (Gave by n places f line state m ∷ h) → (i : ℕ) → In places i → lacks_fate s h n i ≡ true
gave_open s h None n places Filtered line state m legal i member =
    (and_parts (lacks_fate s h n i) (unwrap_or (option_map (is_refused s) (record_at s n i)) false)
    (In-filter (is_unsorted s h n) (below (came_count h n)) i (subst (λ xs. In xs i) legal.1.1.exact member)).1).0
gave_open s h None n places Succeeded line state m legal i member = absurd legal.1.1
gave_open s h None n places Expired line state m legal i member = absurd legal.1.1
gave_open s h None n places Exhausted line state m legal i member = absurd legal.1.1
gave_open s h (Some at) n places Filtered line state m legal i member = absurd legal.1.1
gave_open s h (Some at) n places Succeeded line state m legal i member = paid_open s h at n places Succeeded line state m legal.0 legal.1.1 i member
gave_open s h (Some at) n places Expired line state m legal i member =
    subst (λ k. lacks_fate s h k i ≡ true) (sym legal.1.1.shard) (open_In s h at i (expired_In s h at n places line state m legal.1.1 i member)).2
gave_open s h (Some at) n places Exhausted line state m legal i member = paid_open s h at n places Exhausted line state m legal.0 legal.1.1 i member

-- the places of a `Gave` of a lane are open in the lane, which is of its shard
pub gave_In : (s : Setting) (h : List Entry) (at : LaneId) (n : ℕ) (places : List ℕ) (f : Fate) (line : Option (List ℕ)) (state : Option WindowState) (m : ℕ)
    → Legal s (Gave (Some at) n places f line state m ∷ h) → (n ≡ at.shard) × ((i : ℕ) → In places i → In (open_places s h at) i)
gave_In s h at n places Filtered line state m legal = absurd legal.1.1
gave_In s h at n places Succeeded line state m legal = (owed_shard s h at n places Succeeded line state m legal.0 legal.1.1, paid_In s h at n places Succeeded line state m legal.0 legal.1.1)
gave_In s h at n places Exhausted line state m legal = (owed_shard s h at n places Exhausted line state m legal.0 legal.1.1, paid_In s h at n places Exhausted line state m legal.0 legal.1.1)
gave_In s h at n places Expired line state m legal = (legal.1.1.shard, expired_In s h at n places line state m legal.1.1)
