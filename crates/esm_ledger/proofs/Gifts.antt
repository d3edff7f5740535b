-- What a fate makes of a shard that is kept.
use Rattle.std.proofs.Common.{◌≡◌, ℕ, ◌+◌, ◌-◌, ◌<◌, true, false, not, ◌&&◌, ◌||◌, List, [], ◌∷◌, ◌++◌, length, drop, map, refl, sym, ap, ◌∙◌, subst, Option, Some, None, get_or}
use Rattle.std.specs.Prelude.{◌≢◌}
use Rattle.esm_model.specs.Records.{Record}
use Rattle.esm_model.specs.declared.lane.LaneId.{LaneId}
use Rattle.esm_model.specs.declared.entry.Fate.{Fate}
use Rattle.esm_model.specs.declared.entry.Fate.TheVariants.{Succeeded, Filtered, Expired, Exhausted}
use Rattle.esm_model.specs.declared.entry.WindowState.{WindowState}
use Rattle.esm_model.specs.declared.entry.Entry.{Entry}
use Rattle.esm_model.specs.declared.entry.Entry.TheVariants.{Gave}
use Rattle.esm_model.specs.Setting.{Setting}
use Rattle.esm_model.specs.Entries.{holds, came_count}
use Rattle.esm_model.specs.Fates.{same_fate, open_places, below}
use Rattle.esm_model.specs.Windows.{window_of, text_for}
use Rattle.esm_model.specs.Owed.{debts, is_unsorted}
use Rattle.esm_model.specs.Step.{Legal}
use Rattle.esm_model.proofs.Lists.{In, In-here, In-there, In-append_left, not_in, apart, IsFront, front_front, Distinct, Distinct-below, Distinct-filter}
use Rattle.esm_model.proofs.Debts.{debt_places}
use Rattle.esm_model.proofs.Sound.{sound, pending, paid, expired_front, open_distinct}
use Rattle.esm_model.proofs.Paid.{gave_open}
use Rattle.esm_model.proofs.NamedPlaces.{names_came}
use Rattle.esm_shard_index.specs.LaneView.{LaneView, Table, lane_in, after_expired}
use Rattle.esm_shard_index.specs.LaneHistory.{HasFoundTries}
use Rattle.esm_shard_index.specs.LaneSteps.{after_entry}
use Rattle.esm_shard_index.specs.FateCounts.{count_in}
use Rattle.esm_shard_index.specs.Progress.{Tally, number_of}
use Rattle.esm_shard_index.specs.Callings.{StandOnce}
use Rattle.esm_shard_index.specs.Windows.{WindowTable, open_in, state_in, times}
use Rattle.esm_shard_index.proofs.ArrivalSteps.{arrivals_stay}
use Rattle.esm_shard_index.proofs.CallingSteps.{callings_stay}
use Rattle.esm_shard_index.proofs.ProgressSteps.{progress_gives}
use Rattle.esm_shard_index.proofs.WindowSteps.{windows_give}
use Rattle.esm_ledger.specs.declared.shard.ShardLedger.{ShardLedger}
use Rattle.esm_ledger.specs.Held.{Held}
use Rattle.esm_ledger.specs.Shard.{IsShard, AreRecords, lane_id, measure_at, windows_at}
use Rattle.esm_ledger.proofs.Holding.{held_gone}
use Rattle.esm_ledger.proofs.Shards.{records_stay, lanes_step, at_lane}

-- the places of a legal `Gave` of a lane are the first of its open places
gave_front : (s : Setting) (h : List Entry) (at : LaneId) (n : ℕ) (places : List ℕ) (f : Fate) (line : Option (List ℕ)) (state : Option WindowState) (m : ℕ)
    → Legal s (Gave (Some at) n places f line state m ∷ h) → IsFront places (open_places s h at)
gave_front s h at n places Filtered line state m legal = absurd legal.1.1
gave_front s h at n places Expired line state m legal = expired_front s h at n places line state m legal.1.1
gave_front s h at n places Succeeded line state m legal =
    let was = sound s h legal.0 at in
    let p = paid s h at (Gave (Some at) n places Succeeded line state m) legal.1.1 was in
    front_front places (pending s h at) (open_places s h at) (debt_places (drop 1 (debts s h at)), p.pend) was.front
gave_front s h at n places Exhausted line state m legal =
    let was = sound s h legal.0 at in
    let p = paid s h at (Gave (Some at) n places Exhausted line state m) legal.1.1 was in
    front_front places (pending s h at) (open_places s h at) (debt_places (drop 1 (debts s h at)), p.pend) was.front

once_front : (xs rest : List ℕ) → Distinct (xs ++ rest) → StandOnce xs
once_front [] rest d = tt
once_front (x ∷ xs) rest d = (not_in xs x (λ member. apart (xs ++ rest) x d.0 (In-append_left xs rest x member)), once_front xs rest d.1)

once_all : (xs : List ℕ) → Distinct xs → StandOnce xs
once_all [] d = tt
once_all (x ∷ xs) d = (d.0, once_all xs d.1)

-- and stand once
pub gave_once : (s : Setting) (h : List Entry) (by : Option LaneId) (n : ℕ) (places : List ℕ) (f : Fate) (line : Option (List ℕ)) (state : Option WindowState) (m : ℕ)
    → Legal s (Gave by n places f line state m ∷ h) → StandOnce places
gave_once s h None n places Filtered line state m legal =
    subst StandOnce (sym legal.1.1.exact) (once_all _ (Distinct-filter (is_unsorted s h n) (below (came_count h n)) (Distinct-below (came_count h n))))
gave_once s h None n places Succeeded line state m legal = absurd legal.1.1
gave_once s h None n places Expired line state m legal = absurd legal.1.1
gave_once s h None n places Exhausted line state m legal = absurd legal.1.1
gave_once s h (Some at) n places f line state m legal =
    let front = gave_front s h at n places f line state m legal in
    once_front places front.0 (subst Distinct front.1 (open_distinct s h at))

-- they came
pub gave_came : (s : Setting) (h : List Entry) (by : Option LaneId) (n : ℕ) (places : List ℕ) (f : Fate) (line : Option (List ℕ)) (state : Option WindowState) (m : ℕ)
    → Legal s (Gave by n places f line state m ∷ h) → (i : ℕ) → holds places i ≡ true → i < came_count h n
gave_came s h by n places f line state m legal = names_came s h (Gave by n places f line state m) legal

map_same : (f g : ℕ → ℕ) (xs : List ℕ) → ((i : ℕ) → In xs i → f i ≡ g i) → map f xs ≡ map g xs
map_same f g [] same = refl
map_same f g (x ∷ xs) same = ap (λ y. y ∷ map f xs) (same x (In-here x xs x refl)) ∙ ap (λ ys. g x ∷ ys) (map_same f g xs (λ i member. same i (In-there x xs i member)))

-- no fate but that of records that expire changes a lane
gave_leaves : (s : Setting) (h : List Entry) (lane : LaneId) (v : LaneView) (by : Option LaneId) (n : ℕ) (places : List ℕ) (f : Fate) (line : Option (List ℕ)) (state : Option WindowState) (m : ℕ)
    → f ≢ Expired → v ≡ after_entry s h lane v (Gave by n places f line state m)
gave_leaves s h lane v None n places f line state m other = refl
gave_leaves s h lane v (Some at) n places Succeeded line state m other = refl
gave_leaves s h lane v (Some at) n places Filtered line state m other = refl
gave_leaves s h lane v (Some at) n places Exhausted line state m other = refl
gave_leaves s h lane v (Some at) n places Expired line state m other = absurd (other refl)

-- what a fate makes of the tallies and the windows
pub record IsGiven (c : ShardLedger) (records : Held) (progress : Tally) (windows : WindowTable) (places : List ℕ) (f : Fate) (state : Option WindowState) : Type 0 where
  pub items : records.items ≡ c.records.items
  pub slots : length records.held ≡ length c.records.held
  pub held : (i : ℕ) → get_or records.held i false ≡ (get_or c.records.held i false && not (holds places i))
  pub len : length progress.fated ≡ length c.progress.fated
  pub fated : (i : ℕ) → i < length c.progress.fated → get_or progress.fated i false ≡ (get_or c.progress.fated i false || holds places i)
  pub others : (g : Fate) → same_fate g f ≡ false → count_in progress.counts g ≡ count_in c.progress.counts g
  pub given : count_in progress.counts f + number_of c.progress.fated ≡ count_in c.progress.counts f + number_of progress.fated
  pub opened : (w : ℕ) → open_in windows w ≡ open_in c.windows w - times (windows_at c.measures.items places) w
  pub states : (w : ℕ) → state_in windows w ≡ text_for w (state_in c.windows w) state
  pub tries : windows.tries ≡ c.windows.tries
  pub last : windows.last ≡ c.windows.last

pub shard_given : (s : Setting) (h : List Entry) (c : ShardLedger) (records : Held) (progress : Tally) (windows : WindowTable) (lanes : Table) (by : Option LaneId) (places : List ℕ) (f : Fate) (line : Option (List ℕ)) (state : Option WindowState) (m : ℕ)
    → IsGiven c records progress windows places f state
    → ((k : ℕ) → lane_in lanes k ≡ after_entry s h (lane_id c.shard k) (lane_in c.lanes k) (Gave by c.shard places f line state m))
    → length lanes.lanes ≡ length c.lanes.lanes
    → HasFoundTries s c.shard → Legal s (Gave by c.shard places f line state m ∷ h) → IsShard s h c
    → IsShard s (Gave by c.shard places f line state m ∷ h) (record c { records = records; progress = progress; windows = windows; lanes = lanes })
shard_given s h c records progress windows lanes by places f line state m gives each size some legal is =
    let e = Gave by c.shard places f line state m in
    let came = gave_came s h by c.shard places f line state m legal in
    record {
      records = subst (λ (rs : List Record). AreRecords s (e ∷ h) c.shard rs c.measures.items) (sym gives.items) (records_stay s h e c.shard c.records.items c.measures.items refl is.records);
      progress = progress_gives s h c.shard c.progress progress by places f line state m is.progress
          (λ i member. subst (λ k. i < k) (sym is.progress.came) (came i member)) gives.len gives.fated gives.others gives.given;
      held = held_gone c.records.held records.held c.progress.fated progress.fated places is.held gives.slots gives.held gives.len gives.fated;
      arrivals = arrivals_stay h c.shard c.arrivals e tt is.arrivals;
      callings = callings_stay h c.shard c.callings e tt is.callings;
      windows = windows_give s h c.shard c.windows windows by places f line state m is.windows
          (gave_once s h by c.shard places f line state m legal)
          (λ i member. (came i member, gave_open s h by c.shard places f line state m legal i member))
          (λ w. gives.opened w ∙ ap (λ ws. open_in c.windows w - times ws w)
          (map_same (λ i. (measure_at c.measures.items i).window) (window_of s c.shard) places (λ i member. is.records.windows i (came i member))))
          gives.states gives.tries gives.last;
      factor = size ∙ is.factor;
      lanes = lanes_step s h e c.shard c.lanes lanes some legal is.lanes each;
    }

pub shard_gave : (s : Setting) (h : List Entry) (c : ShardLedger) (records : Held) (progress : Tally) (windows : WindowTable) (by : Option LaneId) (places : List ℕ) (f : Fate) (line : Option (List ℕ)) (state : Option WindowState) (m : ℕ)
    → f ≢ Expired → IsGiven c records progress windows places f state
    → HasFoundTries s c.shard → Legal s (Gave by c.shard places f line state m ∷ h) → IsShard s h c
    → IsShard s (Gave by c.shard places f line state m ∷ h) (record c { records = records; progress = progress; windows = windows })
shard_gave s h c records progress windows by places f line state m other gives some legal is =
    shard_given s h c records progress windows c.lanes by places f line state m gives
    (λ k. gave_leaves s h (lane_id c.shard k) (lane_in c.lanes k) by c.shard places f line state m other) refl some legal is

pub shard_expired : (s : Setting) (h : List Entry) (c : ShardLedger) (records : Held) (progress : Tally) (windows : WindowTable) (lanes : Table) (lane : ℕ) (places : List ℕ) (line : Option (List ℕ)) (m : ℕ)
    → IsGiven c records progress windows places Expired None
    → lane_in lanes lane ≡ after_expired (length places) (lane_in c.lanes lane)
    → ((k : ℕ) → k ≢ lane → lane_in lanes k ≡ lane_in c.lanes k)
    → length lanes.lanes ≡ length c.lanes.lanes
    → HasFoundTries s c.shard → Legal s (Gave (Some (lane_id c.shard lane)) c.shard places Expired line None m ∷ h) → IsShard s h c
    → IsShard s (Gave (Some (lane_id c.shard lane)) c.shard places Expired line None m ∷ h) (record c { records = records; progress = progress; windows = windows; lanes = lanes })
shard_expired s h c records progress windows lanes lane places line m gives here others size some legal is =
    shard_given s h c records progress windows lanes (Some (lane_id c.shard lane)) places Expired line None m gives
    (at_lane c.shard lane (λ k. after_expired (length places)) c.lanes lanes here others) size some legal is
