-- What one more entry does to what a history says.
use Rattle.std.proofs.Common.{◌≡◌, ℕ, zero, suc, ◌+◌, ◌<◌, ◌≤◌, Bool, true, false, not, cond, ◌&&◌, List, [], ◌∷◌, ◌++◌, length, take, drop, refl, sym, ap, ◌∙◌, subst, ◌⊎◌, inl, inr, arith, Option, Some, None, zero-add, append_assoc}
use Rattle.std.specs.Prelude.{◌==◌, ◌^◌, ◌*◌, min, filter, take_while, is_some, is_none, option_map, if◌then◌else◌, slice_index}
use Rattle.std.specs.List.{prefix_len}
use Rattle.std.proofs.lemmas.List.{append-nil}
use Rattle.std.specs.Option.{option_or}
use Rattle.std.proofs.lemmas.List.Elements.{filter-append, filter_agree}
use Rattle.std.proofs.lemmas.Bool.{cases_Bool, and_from, eq-eqb}
use Rattle.esm_model.specs.Moment.{moment_after}
use Rattle.esm_model.specs.Lane.{same_lane}
use Rattle.esm_model.specs.declared.lane.LaneId.{LaneId}
use Rattle.esm_model.specs.declared.entry.Fate.{Fate}
use Rattle.esm_model.specs.declared.entry.Reply.{Reply}
use Rattle.esm_model.specs.declared.entry.WindowState.{WindowState}
use Rattle.esm_model.specs.declared.entry.Entry.{Entry}
use Rattle.esm_model.specs.declared.entry.Entry.TheVariants.{Came, Began, Ended, Gave, Tried, Closed, Replayed, Shut}
use Rattle.esm_model.specs.Setting.{Setting, is_in_lane, found_fate}
use Rattle.esm_model.specs.declared.setup.FoundFate.{FoundFate}
use Rattle.esm_model.specs.Entries.{holds, came_count, is_running, last_call, batch_of}
use Rattle.esm_model.specs.Fates.{given, fate, has_fate, lacks_fate, below, open_places}
use Rattle.esm_model.specs.Checkpoint.{checkpoint}
use Rattle.esm_model.specs.Ruling.{is_failure}
use Rattle.esm_model.specs.Tries.{tries, tries_sum, counts_in_call, mark, side, verdict_after}
use Rattle.esm_model.specs.Batches.{failures, delay_end, batch, group, longest, fits, same_piece}
use Rattle.esm_model.specs.Owed.{debts, end_debts}
use Rattle.esm_model.specs.Step.{MayBegin}
use Rattle.esm_model.proofs.Lists.{In, filter_both, take_while_longer, front_closed}

-- lanes

pub lane_from : (a b : LaneId) → a.shard ≡ b.shard → a.lane ≡ b.lane → a ≡ b
lane_from a b shards lanes =
    let first : ℕ → LaneId = λ x. record { shard = x; lane = a.lane } in
    let second : ℕ → LaneId = λ y. record { shard = b.shard; lane = y } in
    ap first shards ∙ ap second lanes

pub same_lane-refl : (a : LaneId) → same_lane a a ≡ true
same_lane-refl a = and_from (a.shard == a.shard) (a.lane == a.lane) (eq-eqb a.shard a.shard refl) (eq-eqb a.lane a.lane refl)

-- fates

stays_at : {A : Type 0} (a b c : Option A) (f : A) → option_or a b ≡ Some f → option_or a (option_or b c) ≡ Some f
stays_at None None c f h = cc
stays_at None (Some x) c f h = h
stays_at (Some x) b c f h = h

-- a fate that stands stays
pub fate_stays : (s : Setting) (e : Entry) (h : List Entry) (n i : ℕ) (f : Fate) → fate s h n i ≡ Some f → fate s (e ∷ h) n i ≡ Some f
fate_stays s (Gave by shard places f line state moment) h n i g stands =
    stays_at (option_map (λ (f : FoundFate). f.fate) (found_fate s n i)) (given h n i) (cond ((shard == n) && holds places i) (Some f) None) g stands
fate_stays s (Came shard first count moment) h n i g stands = stands
fate_stays s (Began lane places closing moment) h n i g stands = stands
fate_stays s (Ended lane reply moment) h n i g stands = stands
fate_stays s (Tried lane places closing tries moment) h n i g stands = stands
fate_stays s (Closed lane window moment) h n i g stands = stands
fate_stays s (Replayed shard places moment) h n i g stands = stands
fate_stays s (Shut moment) h n i g stands = stands

some_from : {A : Type 0} (o : Option A) → is_some o ≡ true → (x : A) × (o ≡ Some x)
some_from None h = cc
some_from (Some x) h = (x, refl)

pub fated_stays : (s : Setting) (e : Entry) (h : List Entry) (n i : ℕ) → has_fate s h n i ≡ true → has_fate s (e ∷ h) n i ≡ true
fated_stays s e h n i stands =
    let some = some_from (fate s h n i) stands in
    ap is_some (fate_stays s e h n i some.0 some.1)

-- a `Gave` gives exactly its places the fate, where they have none yet
pub fate_gave : (s : Setting) (by : Option LaneId) (n : ℕ) (places : List ℕ) (f : Fate) (line : Option (List ℕ)) (state : Option WindowState) (m : ℕ) (h : List Entry) (k i : ℕ)
    → lacks_fate s h k i ≡ true
    → fate s (Gave by n places f line state m ∷ h) k i ≡ (if (n == k) && holds places i then Some f else None)
fate_gave s by n places f line state m h k i none =
    gave_at (option_map (λ (f : FoundFate). f.fate) (found_fate s k i)) (given h k i) (cond ((n == k) && holds places i) (Some f) None) none
  where
    gave_at : {A : Type 0} (a b c : Option A) → is_none (option_or a b) ≡ true → option_or a (option_or b c) ≡ c
    gave_at None None c h = refl
    gave_at None (Some x) c h = cc
    gave_at (Some x) b c h = cc

-- what is open

pub lacks_gave : (s : Setting) (by : Option LaneId) (n : ℕ) (places : List ℕ) (f : Fate) (line : Option (List ℕ)) (state : Option WindowState) (m : ℕ) (h : List Entry) (k i : ℕ)
    → lacks_fate s (Gave by n places f line state m ∷ h) k i ≡ (lacks_fate s h k i && not ((n == k) && holds places i))
lacks_gave s by n places f line state m h k i =
    open_at (option_map (λ (f : FoundFate). f.fate) (found_fate s k i)) (given h k i) f ((n == k) && holds places i)
  where
    open_at : {A : Type 0} (a b : Option A) (f : A) (t : Bool) → is_none (option_or a (option_or b (cond t (Some f) None))) ≡ (is_none (option_or a b) && not t)
    open_at None None f true = refl
    open_at None None f false = refl
    open_at None (Some x) f t = refl
    open_at (Some x) b f t = refl

and_assoc : (a b c : Bool) → (a && (b && c)) ≡ ((a && b) && c)
and_assoc true b c = refl
and_assoc false b c = refl

-- a `Gave` takes its places away
pub open_gave : (s : Setting) (by : Option LaneId) (n : ℕ) (places : List ℕ) (f : Fate) (line : Option (List ℕ)) (state : Option WindowState) (m : ℕ) (h : List Entry) (lane : LaneId)
    → open_places s (Gave by n places f line state m ∷ h) lane ≡ filter (λ i. not ((n == lane.shard) && holds places i)) (open_places s h lane)
open_gave s by n places f line state m h lane =
    filter_agree (λ i. is_in_lane s lane i && lacks_fate s (Gave by n places f line state m ∷ h) lane.shard i)
    (λ i. (is_in_lane s lane i && lacks_fate s h lane.shard i) && not ((n == lane.shard) && holds places i))
    (λ i. ap (λ b. is_in_lane s lane i && b) (lacks_gave s by n places f line state m h lane.shard i)
    ∙ and_assoc (is_in_lane s lane i) (lacks_fate s h lane.shard i) (not ((n == lane.shard) && holds places i)))
    (below (came_count h lane.shard))
    ∙ filter_both (λ i. is_in_lane s lane i && lacks_fate s h lane.shard i) (λ i. not ((n == lane.shard) && holds places i)) (below (came_count h lane.shard))

-- the numbers from first on, n of them
pub span : ℕ → ℕ → List ℕ
span first zero = []
span first (suc n) = span first n ++ (first + n) ∷ []

pub below_more : (n k : ℕ) → below (k + n) ≡ below n ++ span n k
unfolding span
below_more n zero = rw (zero-add) (sym (append-nil (below n)))
below_more n (suc k) =
    let e : suc k + n ≡ suc (k + n) = omega arith in
    let f : k + n ≡ n + k = omega arith in
    rw e (ap (λ xs. xs ++ (k + n) ∷ []) (below_more n k) ∙ append_assoc (below n) (span n k) ((k + n) ∷ []) ∙ ap (λ m. below n ++ (span n k ++ m ∷ [])) f)

pub came_of_shard : (n first count m : ℕ) (h : List Entry) → came_count (Came n first count m ∷ h) n ≡ count + came_count h n
came_of_shard n first count m h = rw (eq-eqb n n refl)

-- a `Came` adds those of its places that are in the lane and have no found fate
pub open_came : (s : Setting) (n first count m : ℕ) (h : List Entry) (lane : LaneId) → n ≡ lane.shard
    → open_places s (Came n first count m ∷ h) lane ≡ open_places s h lane ++ filter (λ i. is_in_lane s lane i && lacks_fate s h lane.shard i) (span (came_count h lane.shard) count)
open_came s n first count m h lane same =
    let more : came_count (Came n first count m ∷ h) lane.shard ≡ count + came_count h lane.shard = rw (eq-eqb n lane.shard same) in
    ap (λ k. filter (λ i. is_in_lane s lane i && lacks_fate s h lane.shard i) (below k)) more
    ∙ ap (filter (λ i. is_in_lane s lane i && lacks_fate s h lane.shard i)) (below_more (came_count h lane.shard) count)
    ∙ filter-append (λ i. is_in_lane s lane i && lacks_fate s h lane.shard i) (below (came_count h lane.shard)) (span (came_count h lane.shard) count)

-- what the other entries leave, by refl
pub open_began : (s : Setting) (at : LaneId) (places : List ℕ) (closing : Option ℕ) (m : ℕ) (h : List Entry) (lane : LaneId) → open_places s (Began at places closing m ∷ h) lane ≡ open_places s h lane
open_began s at places closing m h lane = refl

pub open_ended : (s : Setting) (at : LaneId) (reply : Reply) (m : ℕ) (h : List Entry) (lane : LaneId) → open_places s (Ended at reply m ∷ h) lane ≡ open_places s h lane
open_ended s at reply m h lane = refl

pub group_began : (s : Setting) (at : LaneId) (places : List ℕ) (closing : Option ℕ) (m : ℕ) (h : List Entry) (lane : LaneId) → group s (Began at places closing m ∷ h) lane ≡ group s h lane
group_began s at places closing m h lane = refl

-- tries and marks

pub tries_gave : (s : Setting) (by : Option LaneId) (n : ℕ) (places : List ℕ) (f : Fate) (line : Option (List ℕ)) (state : Option WindowState) (m : ℕ) (h : List Entry) (k i : ℕ)
    → tries s (Gave by n places f line state m ∷ h) k i ≡ tries s h k i
tries_gave s by n places f line state m h k i = refl

-- an `Ended` that counts a try of the place adds one
pub tries_ended : (s : Setting) (lane : LaneId) (reply : Reply) (m : ℕ) (h : List Entry) (i : ℕ) → counts_in_call s lane.shard (last_call h lane) (tries_sum s h lane.shard) reply i ≡ true
    → tries_sum s (Ended lane reply m ∷ h) lane.shard i ≡ suc (tries_sum s h lane.shard i)
tries_ended s lane reply m h i counted = rw (eq-eqb lane.shard lane.shard refl, counted)

-- and another one does not
pub tries_kept : (s : Setting) (lane : LaneId) (reply : Reply) (m : ℕ) (h : List Entry) (i : ℕ) → counts_in_call s lane.shard (last_call h lane) (tries_sum s h lane.shard) reply i ≡ false
    → tries_sum s (Ended lane reply m ∷ h) lane.shard i ≡ tries_sum s h lane.shard i
tries_kept s lane reply m h i not_counted = rw (eq-eqb lane.shard lane.shard refl, not_counted)

-- an `Ended` marks the places behind what succeeded, where it counts or splits
pub mark_ended : (s : Setting) (lane : LaneId) (reply : Reply) (m : ℕ) (h : List Entry) (i k : ℕ)
    → side (verdict_after s h lane reply).rest (drop (verdict_after s h lane reply).succeeded (batch_of (last_call h lane))) i ≡ Some k
    → mark s (Ended lane reply m ∷ h) lane.shard i ≡ Some (length h, k)
mark_ended s lane reply m h i k at_side = rw (eq-eqb lane.shard lane.shard refl, at_side)

pub mark_kept : (s : Setting) (lane : LaneId) (reply : Reply) (m : ℕ) (h : List Entry) (i : ℕ)
    → side (verdict_after s h lane reply).rest (drop (verdict_after s h lane reply).succeeded (batch_of (last_call h lane))) i ≡ None
    → mark s (Ended lane reply m ∷ h) lane.shard i ≡ mark s h lane.shard i
mark_kept s lane reply m h i no_side = rw (eq-eqb lane.shard lane.shard refl, no_side)

-- running, delay and what is owed

pub running_began : (lane : LaneId) (places : List ℕ) (closing : Option ℕ) (m : ℕ) (h : List Entry) → is_running (Began lane places closing m ∷ h) lane ≡ true
running_began lane places closing m h = rw (same_lane-refl lane)

pub running_ended : (lane : LaneId) (reply : Reply) (m : ℕ) (h : List Entry) → is_running (Ended lane reply m ∷ h) lane ≡ false
running_ended lane reply m h = rw (same_lane-refl lane)

pub failures_ended : (s : Setting) (lane : LaneId) (reply : Reply) (m : ℕ) (h : List Entry) → is_failure (verdict_after s h lane reply).rest ≡ true
    → failures s (Ended lane reply m ∷ h) lane ≡ suc (failures s h lane)
failures_ended s lane reply m h fails = rw (same_lane-refl lane, fails)

-- after a failure the delay is over after the moment of the `Ended`
pub delay_ended : (s : Setting) (lane : LaneId) (reply : Reply) (m : ℕ) (h : List Entry) → is_failure (verdict_after s h lane reply).rest ≡ true
    → delay_end s (Ended lane reply m ∷ h) lane ≡ moment_after m (min (250 * 2 ^ failures s h lane) 60000)
delay_ended s lane reply m h fails = rw (same_lane-refl lane, fails)

-- after another end there is none
pub no_delay_ended : (s : Setting) (lane : LaneId) (reply : Reply) (m : ℕ) (h : List Entry) → is_failure (verdict_after s h lane reply).rest ≡ false
    → delay_end s (Ended lane reply m ∷ h) lane ≡ 0
no_delay_ended s lane reply m h good = rw (same_lane-refl lane, good)

pub debts_ended : (s : Setting) (lane : LaneId) (reply : Reply) (m : ℕ) (h : List Entry) → debts s (Ended lane reply m ∷ h) lane ≡ end_debts s h lane reply
debts_ended s lane reply m h = rw (same_lane-refl lane)

-- the checkpoint never falls

came_longer : (e : Entry) (h : List Entry) (n : ℕ) → (k : ℕ) × (came_count (e ∷ h) n ≡ k + came_count h n)
came_longer (Came shard first count moment) h n = elim (cases_Bool (shard == n)) [ inl same ↦ (count, rw same) | inr other ↦ (0, rw other (sym (zero-add (came_count h n)))) ]
came_longer (Began lane places closing moment) h n = (0, sym (zero-add (came_count h n)))
came_longer (Ended lane reply moment) h n = (0, sym (zero-add (came_count h n)))
came_longer (Gave by shard places f line state moment) h n = (0, sym (zero-add (came_count h n)))
came_longer (Tried lane places closing tries moment) h n = (0, sym (zero-add (came_count h n)))
came_longer (Closed lane window moment) h n = (0, sym (zero-add (came_count h n)))
came_longer (Replayed shard places moment) h n = (0, sym (zero-add (came_count h n)))
came_longer (Shut moment) h n = (0, sym (zero-add (came_count h n)))

-- what came stays
pub came_grows : (e : Entry) (h : List Entry) (n : ℕ) → came_count h n ≤ came_count (e ∷ h) n
came_grows e h n = (let k = (came_longer e h n).0 in let more : came_count (e ∷ h) n ≡ k + came_count h n = (came_longer e h n).1 in omega arith)

pub checkpoint_grows : (s : Setting) (e : Entry) (h : List Entry) (n : ℕ) → checkpoint s h n ≤ checkpoint s (e ∷ h) n
checkpoint_grows s e h n =
    let k = (came_longer e h n).0 in
    let longer : checkpoint s h n ≤ length (take_while (has_fate s (e ∷ h) n) (below (came_count h n) ++ span (came_count h n) k))
    = take_while_longer (has_fate s h n) (has_fate s (e ∷ h) n) (fated_stays s e h n) (below (came_count h n)) (span (came_count h n) k) in
    subst (λ xs. checkpoint s h n ≤ length (take_while (has_fate s (e ∷ h) n) xs)) (sym (below_more (came_count h n) k) ∙ ap below (sym (came_longer e h n).1)) longer

-- order: a batch is a front of the lane's open records

pub longest_front : (p : List ℕ → Bool) (seen xs : List ℕ) → (k : ℕ) × (longest p seen xs ≡ seen ++ take k xs)
longest_front p seen [] = (0, sym (append-nil seen))
longest_front p seen (x ∷ xs) =
    elim (cases_Bool (p (seen ++ x ∷ []))) [
      | inl is ↦ (let rest = longest_front p (seen ++ x ∷ []) xs in (suc rest.0, rw is (rest.1 ∙ append_assoc seen (x ∷ []) (take rest.0 xs))))
      | inr fails ↦ (0, rw fails (sym (append-nil seen)))
    ]

take_of_take : (j k : ℕ) (xs : List ℕ) → (n : ℕ) × (take j (take k xs) ≡ take n xs)
take_of_take zero k xs = (0, refl)
take_of_take (suc j) zero xs = (0, refl)
take_of_take (suc j) (suc k) [] = (0, refl)
take_of_take (suc j) (suc k) (x ∷ xs) = (suc (take_of_take j k xs).0, ap (λ ys. x ∷ ys) (take_of_take j k xs).1)

pub batch_front : (s : Setting) (h : List Entry) (lane : LaneId) (m : ℕ) → (k : ℕ) × (batch s h lane m ≡ take k (open_places s h lane))
batch_front s h lane m =
    let front = longest_front (fits s h lane.shard m) [] (group s h lane) in
    let cut = take_of_take front.0 (prefix_len (same_piece s h lane.shard (slice_index (open_places s h lane) 0)) (open_places s h lane)) (open_places s h lane) in
    (cut.0, front.1 ∙ cut.1)

-- each earlier record of the lane, outside the batch, has its fate
pub order_in_lane : (s : Setting) (h : List Entry) (lane : LaneId) (places : List ℕ) (m : ℕ) → MayBegin s h lane places m
    → (i j : ℕ) → In places i → j < i → is_in_lane s lane j ≡ true → In places j ⊎ (lacks_fate s h lane.shard j ≡ false)
order_in_lane s h lane places m may i j member before in_lane =
    elim (cases_Bool (lacks_fate s h lane.shard j)) [
      | inr fated ↦ inr fated
      | inl lacks ↦ inl (
          let front = batch_front s h lane m in
          let e : places ≡ take front.0 (open_places s h lane) = may.exact ∙ front.1 in
          subst (λ xs. In xs j) (sym e)
          (front_closed (λ k. is_in_lane s lane k && lacks_fate s h lane.shard k) (came_count h lane.shard) front.0 i j
          (subst (λ xs. In xs i) e member) before (and_from (is_in_lane s lane j) (lacks_fate s h lane.shard j) in_lane lacks)))
    ]
