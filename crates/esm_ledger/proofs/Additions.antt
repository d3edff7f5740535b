-- What an entry makes of a ledger.
use Rattle.std.proofs.Common.{◌≡◌, ℕ, suc, ◌+◌, ◌-◌, ◌<◌, ◌≤◌, Bool, true, false, List, [], ◌∷◌, ◌++◌, map, reverse, refl, sym, ap, ◌∙◌, subst, inl, inr, Option, Some, arith, Vec, Global}
use Rattle.std.specs.Prelude.{slice_get, vec_len, vec_capacity, if◌then◌else◌}
use Rattle.std.proofs.lemmas.Bool.{cases_Bool}
use Rattle.std.proofs.lemmas.List.{reverse-append}
use Rattle.esm_model.specs.declared.lane.LaneId.{LaneId}
use Rattle.esm_model.specs.declared.entry.Fate.{Fate}
use Rattle.esm_model.specs.declared.entry.Reply.{Reply}
use Rattle.esm_model.specs.declared.entry.WindowState.{WindowState}
use Rattle.esm_model.specs.declared.entry.Entry.{Entry}
use Rattle.esm_model.specs.declared.entry.Entry.TheVariants.{Began, Ended, Gave, Tried, Closed, Shut}
use Rattle.esm_model.specs.Entries.{moment_of, came_count, is_shut, shards_that_came, calls_begun, is_running}
use Rattle.esm_model.specs.Lane.{same_lane}
use Rattle.esm_model.proofs.Sound.{same_lane-true}
use Rattle.esm_shard_index.specs.LaneView.{LaneView, lane_in}
use Rattle.esm_shard_index.specs.WindowEntries.{has_entry}
use Rattle.esm_ledger.specs.declared.ledger.Ledger.{Ledger}
use Rattle.esm_ledger.specs.declared.shard.ShardLedger.{ShardLedger}
use Rattle.esm_ledger.specs.Shard.{lane_id}
use Rattle.esm_ledger.specs.Ledger.{past_of, setting_of, stream_of, LegalOver, IsAt, HasRoom, Rests, Keeps, HasSplits, HasState, unended, spare_of}
use Rattle.esm_ledger.specs.Adding.{IsChanged, AreShards, KeepsSplits, EndsAt}
use Rattle.esm_ledger.proofs.Fitting.{begun_within}
use Rattle.esm_ledger.proofs.Unended.{some_unended, unended_begun}
use Rattle.esm_ledger.proofs.Ledgers.{own_legal, names}
use Rattle.esm_ledger.proofs.KeptLedgers.{SameBase, calls_same, config_same, keeps_from, room_after, setting_same, with_room}
use Rattle.esm_ledger.proofs.ShardChanges.{changed_nowhere, shards_stay}

-- an entry

-- what the code does where it adds an entry
pub record IsAdded (c w d : Ledger) (e : Entry) : Type 0 where
  pub base : SameBase c d
  pub shards : d.shards ≡ w.shards
  pub history : d.history.items ≡ c.history.items ++ e ∷ []
  pub last : d.last ≡ moment_of e
  pub shut : d.shut ≡ is_shut (e ∷ past_of c)
  pub unended : d.unended ≡ unended (e ∷ past_of c)
  pub begun : d.begun ≡ calls_begun (e ∷ past_of c)
  pub room : HasRoom d 0

pub past_added : (c d : Ledger) (e : Entry) → d.history.items ≡ c.history.items ++ e ∷ [] → past_of d ≡ e ∷ past_of c
past_added c d e is = ap reverse is ∙ reverse-append c.history.items (e ∷ [])

-- it brings no records
pub record BringsNone (e : Entry) (h : List Entry) : Type 0 where
  pub shards : shards_that_came (e ∷ h) ≡ shards_that_came h
  pub count : (n : ℕ) → came_count (e ∷ h) n ≡ came_count h n

abbrev pub HasSplitsAfter : Ledger → Entry → List Entry → Type 0
HasSplitsAfter w e h = (lane : LaneId) (y : ShardLedger) → IsAt w lane.shard y → is_running (e ∷ h) lane ≡ true → 2 ≤ (lane_in y.lanes lane.lane).kept.splits

pub setting_added : (c w d : Ledger) (e : Entry) (P : ShardLedger → ShardLedger → Type 0) → IsAdded c w d e → IsChanged c w P → setting_of d ≡ setting_of c
setting_added c w d e P is on = setting_same c d is.base (ap (λ (v : Vec ShardLedger Global). map stream_of v.items) is.shards ∙ on.streams)

pub keeps_added : (c w d : Ledger) (e : Entry) (P : ShardLedger → ShardLedger → Type 0) → Keeps c → LegalOver (setting_of c) (e ∷ past_of c) → IsAdded c w d e → BringsNone e (past_of c)
    → IsChanged c w P → AreShards c w (e ∷ past_of c) → HasSplitsAfter w e (past_of c) → Keeps d
keeps_added c w d e P k legal is none on each splits =
    let to : (n : ℕ) (x : ShardLedger) → IsAt d n x → IsAt w n x = λ n x at. (at.0, subst (λ (v : Vec ShardLedger Global). slice_get v.items at.0 ≡ Some x) is.shards at.1, at.2) in
    keeps_from d (setting_of c) (e ∷ past_of c) (setting_added c w d e P is on) (past_added c d e is.history) (config_same c d is.base k) (calls_same c d is.base k) is.room (record {
      legal = legal;
      last = is.last;
      shut = is.shut;
      unended = is.unended;
      shards = ap (λ (v : Vec ShardLedger Global). names v.items) is.shards ∙ on.names ∙ k.rests.shards ∙ sym none.shards;
      found = k.found;
      each = λ n x at. each n x (to n x at);
      few = λ n. subst (λ (m : ℕ). m < 4294967296) (sym (none.count n)) (k.few n);
      begun = is.begun;
      splits = λ lane x at. splits lane x (to lane.shard x at);
    })

-- what an addition leaves, which takes so much of the room
pub record Added (c d : Ledger) (e : Entry) (k : ℕ) : Type 0 where
  pub kept : Keeps d
  pub past : past_of d ≡ e ∷ past_of c
  pub setting : setting_of d ≡ setting_of c
  pub room : (n : ℕ) → HasRoom c (n + k) → HasRoom d n

-- the fields that the code writes
pub record Written (c w d : Ledger) (e : Entry) (k b u : ℕ) (t : Bool) : Type 0 where
  pub before : w ≡ record c { shards = w.shards }
  pub after : d ≡ record w { begun = b; unended = u; shut = t; history = d.history; last = moment_of e }
  pub items : d.history.items ≡ w.history.items ++ e ∷ []
  pub len : vec_len d.history ≡ vec_len w.history + 1
  pub capacity : vec_capacity d.history ≡ vec_capacity w.history
  pub begun : b ≡ calls_begun (e ∷ past_of c)
  pub unended : u ≡ unended (e ∷ past_of c)
  pub shut : t ≡ is_shut (e ∷ past_of c)
  pub spare : spare_of (e ∷ past_of c) + 1 ≤ spare_of (past_of c) + k

pub finish : (c w d : Ledger) (e : Entry) (k b u : ℕ) (t : Bool) (P : ShardLedger → ShardLedger → Type 0) → Keeps c → LegalOver (setting_of c) (e ∷ past_of c) → Written c w d e k b u t → BringsNone e (past_of c)
    → IsChanged c w P → AreShards c w (e ∷ past_of c) → HasSplitsAfter w e (past_of c) → HasRoom c k → Added c d e k
finish c w d e k b u t P keeps legal is none on each splits room =
    let history : w.history ≡ c.history = ap (λ (z : Ledger). z.history) is.before in
    let items : d.history.items ≡ c.history.items ++ e ∷ [] = is.items ∙ ap (λ (v : Vec Entry Global). v.items ++ e ∷ []) history in
    let len : vec_len d.history ≡ vec_len c.history + 1 = is.len ∙ ap (λ (v : Vec Entry Global). vec_len v + 1) history in
    let capacity : vec_capacity d.history ≡ vec_capacity c.history = is.capacity ∙ ap (λ (v : Vec Entry Global). vec_capacity v) history in
    let past : past_of d ≡ e ∷ past_of c = past_added c d e items in
    let base : SameBase c d = record {
      config = ap (λ (z : Ledger). z.config) is.after ∙ ap (λ (z : Ledger). z.config) is.before;
      calls = ap (λ (z : Ledger). z.calls) is.after ∙ ap (λ (z : Ledger). z.calls) is.before;
      found = ap (λ (z : Ledger). z.found) is.after ∙ ap (λ (z : Ledger). z.found) is.before;
    } in
    let added : IsAdded c w d e = record {
      base = base;
      shards = ap (λ (z : Ledger). z.shards) is.after;
      history = items;
      last = ap (λ (z : Ledger). z.last) is.after;
      shut = ap (λ (z : Ledger). z.shut) is.after ∙ is.shut;
      unended = ap (λ (z : Ledger). z.unended) is.after ∙ is.unended;
      begun = ap (λ (z : Ledger). z.begun) is.after ∙ is.begun;
      room = room_after c d e 0 k past len capacity is.spare (with_room c k room);
    } in
    record {
      kept = keeps_added c w d e P keeps legal added none on each splits;
      past = past;
      setting = setting_added c w d e P added on;
      room = λ n r. room_after c d e n k past len capacity is.spare r;
    }

-- splits

pub splits_same : (c w : Ledger) (e : Entry) → Keeps c → IsChanged c w KeepsSplits → ((lane : LaneId) → is_running (e ∷ past_of c) lane ≡ is_running (past_of c) lane) → HasSplitsAfter w e (past_of c)
splits_same c w e k on same lane y at runs =
    let was = on.kept lane.shard y at in
    let low = k.splits lane was.0 was.1 (sym (same lane) ∙ runs) in
    let equal : (lane_in y.lanes lane.lane).kept.splits ≡ (lane_in was.0.lanes lane.lane).kept.splits = was.2 lane.lane in
    omega (arith, low, equal)

pub splits_began : (c w : Ledger) (at : LaneId) (places : List ℕ) (closing : Option ℕ) (m : ℕ) → Keeps c → HasSplits c at → IsChanged c w KeepsSplits → HasSplitsAfter w (Began at places closing m) (past_of c)
splits_began c w at places closing m k has on lane y here runs =
    let was = on.kept lane.shard y here in
    let equal : (lane_in y.lanes lane.lane).kept.splits ≡ (lane_in was.0.lanes lane.lane).kept.splits = was.2 lane.lane in
    elim (cases_Bool (same_lane at lane)) [
      | inl same ↦ (
          let e : at ≡ lane = same_lane-true at lane same in
          let low : 2 ≤ (lane_in was.0.lanes lane.lane).kept.splits = subst (λ (l : LaneId). HasSplits c l) e has was.0 was.1 in
          omega (arith, low, equal))
      | inr off ↦ (
          let ran : is_running (past_of c) lane ≡ true = rw off at runs in
          let low = k.splits lane was.0 was.1 ran in
          omega (arith, low, equal))
    ]

pub splits_ended : (c w : Ledger) (at : LaneId) (reply : Reply) (m : ℕ) → Keeps c → IsChanged c w (EndsAt at) → HasSplitsAfter w (Ended at reply m) (past_of c)
splits_ended c w at reply m k on lane y here runs = elim (cases_Bool (same_lane at lane)) [
  | inl same ↦ absurd (let clash : false ≡ true = rw same at runs in cc)
  | inr off ↦ (
      let was = on.kept lane.shard y here in
      let ran : is_running (past_of c) lane ≡ true = rw off at runs in
      let low = k.splits lane was.0 was.1 ran in
      let away : same_lane at (lane_id y.shard lane.lane) ≡ false = subst (λ (n : ℕ). same_lane at (lane_id n lane.lane) ≡ false) (sym here.2) off in
      let equal : (lane_in y.lanes lane.lane).kept.splits ≡ (lane_in was.0.lanes lane.lane).kept.splits = ap (λ (v : LaneView). v.kept.splits) (was.2.others lane.lane away) in
      omega (arith, low, equal))
]

-- one entry after the other

before_begun : (c w : Ledger) → Keeps c → w ≡ record c { shards = w.shards } → w.begun ≡ calls_begun (past_of c)
before_begun c w k is = ap (λ (z : Ledger). z.begun) is ∙ k.begun

pub before_unended : (c w : Ledger) → Rests c → w ≡ record c { shards = w.shards } → w.unended ≡ unended (past_of c)
before_unended c w r is = ap (λ (z : Ledger). z.unended) is ∙ r.unended

pub before_shut : (c w : Ledger) → Rests c → w ≡ record c { shards = w.shards } → w.shut ≡ is_shut (past_of c)
before_shut c w r is = ap (λ (z : Ledger). z.shut) is ∙ r.shut

pub began_added : (c w d : Ledger) (lane : LaneId) (places : List ℕ) (closing : Option ℕ) (m : ℕ) → let e = Began lane places closing m in Keeps c → HasRoom c 2 → HasSplits c lane → LegalOver (setting_of c) (e ∷ past_of c)
    → w ≡ record c { shards = w.shards } → d ≡ record w { begun = w.begun + 1; unended = w.unended + 1; history = d.history; last = m }
    → d.history.items ≡ w.history.items ++ e ∷ [] → vec_len d.history ≡ vec_len w.history + 1 → vec_capacity d.history ≡ vec_capacity w.history
    → IsChanged c w KeepsSplits → AreShards c w (e ∷ past_of c) → Added c d e 2
began_added c w d lane places closing m k room has legal before after items len capacity on each =
    let begun = before_begun c w k before in
    let unended' = before_unended c w k.rests before in
    finish c w d (Began lane places closing m) 2 (w.begun + 1) (w.unended + 1) w.shut KeepsSplits k legal (record {
      before = before;
      after = after;
      items = items;
      len = len;
      capacity = capacity;
      begun = omega (arith, begun);
      unended = omega (arith, unended');
      shut = before_shut c w k.rests before;
      spare = omega arith;
    }) (record { shards = refl; count = λ n. refl }) on each (splits_began c w lane places closing m k has on) room

pub ended_added : (c w d : Ledger) (lane : LaneId) (reply : Reply) (m u : ℕ) → let e = Ended lane reply m in Keeps c → LegalOver (setting_of c) (e ∷ past_of c)
    → w ≡ record c { shards = w.shards } → u ≡ w.unended - 1 → d ≡ record w { unended = u; history = d.history; last = m }
    → d.history.items ≡ w.history.items ++ e ∷ [] → vec_len d.history ≡ vec_len w.history + 1 → vec_capacity d.history ≡ vec_capacity w.history
    → IsChanged c w (EndsAt lane) → AreShards c w (e ∷ past_of c) → Added c d e 0
ended_added c w d lane reply m u k legal before less after items len capacity on each =
    let own = own_legal (setting_of c) (Ended lane reply m ∷ past_of c) legal in
    let some : 1 ≤ unended (past_of c) = some_unended (setting_of c) (past_of c) lane own.0 own.1.1 in
    finish c w d (Ended lane reply m) 0 w.begun u w.shut (EndsAt lane) k legal (record {
      before = before;
      after = after;
      items = items;
      len = len;
      capacity = capacity;
      begun = before_begun c w k before;
      unended = less ∙ ap (λ (n : ℕ). n - 1) (before_unended c w k.rests before);
      shut = before_shut c w k.rests before;
      spare = omega (arith, some);
    }) (record { shards = refl; count = λ n. refl }) on each (splits_ended c w lane reply m k on) k.rests.room

-- one that neither begins nor ends a call, nor ends the input
pub record IsQuiet (e : Entry) : Type 0 where
  pub shards : (h : List Entry) → shards_that_came (e ∷ h) ≡ shards_that_came h
  pub count : (h : List Entry) (n : ℕ) → came_count (e ∷ h) n ≡ came_count h n
  pub begun : (h : List Entry) → calls_begun (e ∷ h) ≡ calls_begun h
  pub unended : (h : List Entry) → unended (e ∷ h) ≡ unended h
  pub shut : (h : List Entry) → is_shut (e ∷ h) ≡ is_shut h
  pub runs : (h : List Entry) (lane : LaneId) → is_running (e ∷ h) lane ≡ is_running h lane

pub quiet_gave : (by : Option LaneId) (n : ℕ) (places : List ℕ) (f : Fate) (line : Option (List ℕ)) (state : Option WindowState) (m : ℕ) → IsQuiet (Gave by n places f line state m)
quiet_gave by n places f line state m = record { shards = λ h. refl; count = λ h k. refl; begun = λ h. refl; unended = λ h. refl; shut = λ h. refl; runs = λ h l. refl }

pub quiet_closed : (lane : LaneId) (window m : ℕ) → IsQuiet (Closed lane window m)
quiet_closed lane window m = record { shards = λ h. refl; count = λ h k. refl; begun = λ h. refl; unended = λ h. refl; shut = λ h. refl; runs = λ h l. refl }

pub quiet_tried : (lane : LaneId) (places : List ℕ) (closing : Option ℕ) (t m : ℕ) → IsQuiet (Tried lane places closing t m)
quiet_tried lane places closing t m = record { shards = λ h. refl; count = λ h k. refl; begun = λ h. refl; unended = λ h. refl; shut = λ h. refl; runs = λ h l. refl }

pub quiet_added : (c w d : Ledger) (e : Entry) → IsQuiet e → Keeps c → HasRoom c 1 → LegalOver (setting_of c) (e ∷ past_of c)
    → w ≡ record c { shards = w.shards } → d ≡ record w { history = d.history; last = moment_of e }
    → d.history.items ≡ w.history.items ++ e ∷ [] → vec_len d.history ≡ vec_len w.history + 1 → vec_capacity d.history ≡ vec_capacity w.history
    → IsChanged c w KeepsSplits → AreShards c w (e ∷ past_of c) → Added c d e 1
quiet_added c w d e quiet k room legal before after items len capacity on each =
    let spare : spare_of (e ∷ past_of c) ≡ spare_of (past_of c) =
    ap (λ (n : ℕ). n + (if is_shut (e ∷ past_of c) then 0 else 1)) (quiet.unended (past_of c)) ∙ ap (λ (b : Bool). unended (past_of c) + (if b then 0 else 1)) (quiet.shut (past_of c)) in
    finish c w d e 1 w.begun w.unended w.shut KeepsSplits k legal (record {
      before = before;
      after = after;
      items = items;
      len = len;
      capacity = capacity;
      begun = before_begun c w k before ∙ sym (quiet.begun (past_of c));
      unended = before_unended c w k.rests before ∙ sym (quiet.unended (past_of c));
      shut = before_shut c w k.rests before ∙ sym (quiet.shut (past_of c));
      spare = omega (arith, spare);
    }) (record { shards = quiet.shards (past_of c); count = λ n. quiet.count (past_of c) n }) on each (splits_same c w e k on (λ lane. quiet.runs (past_of c) lane)) room

pub shut_added : (c d : Ledger) (m : ℕ) → let e = Shut m in Keeps c → LegalOver (setting_of c) (e ∷ past_of c)
    → d ≡ record c { shut = true; history = d.history; last = m }
    → d.history.items ≡ c.history.items ++ e ∷ [] → vec_len d.history ≡ vec_len c.history + 1 → vec_capacity d.history ≡ vec_capacity c.history → Added c d e 0
shut_added c d m k legal after items len capacity =
    let own = own_legal (setting_of c) (Shut m ∷ past_of c) legal in
    let going : is_shut (past_of c) ≡ false = own.1.1.1 in
    let spare : spare_of (past_of c) ≡ unended (past_of c) + 1 = ap (λ (b : Bool). unended (past_of c) + (if b then 0 else 1)) going in
    finish c c d (Shut m) 0 c.begun c.unended true KeepsSplits k legal (record {
      before = refl;
      after = after;
      items = items;
      len = len;
      capacity = capacity;
      begun = k.begun;
      unended = k.rests.unended;
      shut = refl;
      spare = omega (arith, spare);
    }) (record { shards = refl; count = λ n. refl }) (changed_nowhere c) (shards_stay c (Shut m) k own (λ n. tt)) (splits_same c c (Shut m) k (changed_nowhere c) (λ lane. refl)) k.rests.room

pub end_spare : (c : Ledger) (lane : LaneId) (reply : Reply) (m : ℕ) → LegalOver (setting_of c) (Ended lane reply m ∷ past_of c) → 1 ≤ spare_of (past_of c) + 0
end_spare c lane reply m legal =
    let own = own_legal (setting_of c) (Ended lane reply m ∷ past_of c) legal in
    let some : 1 ≤ unended (past_of c) = some_unended (setting_of c) (past_of c) lane own.0 own.1.1 in
    omega (arith, some)

pub shut_spare : (c : Ledger) (m : ℕ) → LegalOver (setting_of c) (Shut m ∷ past_of c) → 1 ≤ spare_of (past_of c) + 0
shut_spare c m legal =
    let own = own_legal (setting_of c) (Shut m ∷ past_of c) legal in
    let going : is_shut (past_of c) ≡ false = own.1.1.1 in
    let spare : spare_of (past_of c) ≡ unended (past_of c) + 1 = ap (λ (b : Bool). unended (past_of c) + (if b then 0 else 1)) going in
    omega (arith, spare)

-- one more call fits its counts
pub record CallCounts (w : Ledger) : Type 0 where
  pub begun : w.begun < 4294967295
  pub unended : w.unended < 4294967295

pub call_counts : (c w : Ledger) (lane : LaneId) (places : List ℕ) (closing : Option ℕ) (m : ℕ) → Keeps c → w ≡ record c { shards = w.shards } → LegalOver (setting_of c) (Began lane places closing m ∷ past_of c) → CallCounts w
call_counts c w lane places closing m k before legal =
    let most : suc (calls_begun (past_of c)) ≤ c.calls = begun_within (setting_of c) (Began lane places closing m ∷ past_of c) (own_legal (setting_of c) (Began lane places closing m ∷ past_of c) legal) in
    let calls = k.calls in
    let a = before_begun c w k before in
    let b = before_unended c w k.rests before in
    record { begun = omega (arith, most, calls, a); unended = omega (arith, most, calls, b, unended_begun (past_of c)) }

pub ended_states : (c w d : Ledger) (lane : LaneId) {u : ℕ} {m : ℕ} → d ≡ record w { unended = u; history = d.history; last = m } → IsChanged c w (EndsAt lane) → (n v : ℕ) → HasState c n v → HasState d n v
ended_states c w d lane after on n v has x at =
    let shards : d.shards ≡ w.shards = ap (λ (z : Ledger). z.shards) after in
    let was = on.kept n x (at.0, subst (λ (vs : Vec ShardLedger Global). slice_get vs.items at.0 ≡ Some x) shards at.1, at.2) in
    subst (λ (es : List (ℕ × Option (List ℕ))). has_entry es v ≡ true) (sym was.2.states) (has was.0 was.1)
