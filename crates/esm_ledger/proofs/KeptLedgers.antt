-- When a ledger keeps what its history says.
use Rattle.std.proofs.Common.{◌≡◌, ℕ, ◌+◌, ◌<◌, ◌≤◌, true, List, ◌∷◌, map, reverse, sym, ap, ◌∙◌, subst, Some, arith, Vec, Global}
use Rattle.std.specs.Prelude.{slice_get, vec_len, vec_capacity}
use Rattle.esm_model.specs.declared.config.Config.{Config}
use Rattle.esm_model.specs.declared.lane.LaneId.{LaneId}
use Rattle.esm_model.specs.declared.entry.Entry.{Entry}
use Rattle.esm_model.specs.Valid.{IsStreamConfig}
use Rattle.esm_model.specs.Setting.{Setting, Stream}
use Rattle.esm_model.specs.Entries.{last_moment, came_count, is_shut, shards_that_came, calls_begun, is_running}
use Rattle.esm_model.specs.Step.{Legal}
use Rattle.esm_journal_state.specs.SaidLists.{SaidLists}
use Rattle.esm_shard_index.specs.LaneView.{lane_in}
use Rattle.esm_shard_index.specs.LaneHistory.{IsLane, HasFoundTries}
use Rattle.esm_shard_index.proofs.LaneReads.{lane_bounded}
use Rattle.esm_ledger.specs.declared.ledger.Ledger.{Ledger}
use Rattle.esm_ledger.specs.declared.shard.ShardLedger.{ShardLedger}
use Rattle.esm_ledger.specs.Shard.{IsShard, lane_id}
use Rattle.esm_ledger.specs.Ledger.{past_of, setting_of, stream_of, LegalOver, IsAt, HasRoom, Keeps, MayEnd, unended, spare_of}
use Rattle.esm_ledger.proofs.Fitting.{begun_within, running_below}
use Rattle.esm_ledger.proofs.Ledgers.{own_legal, names}

-- what is kept is what the history says

pub record Holds (s : Setting) (h : List Entry) (d : Ledger) : Type 0 where
  pub legal : LegalOver s h
  pub last : d.last ≡ last_moment h
  pub shut : d.shut ≡ is_shut h
  pub unended : d.unended ≡ unended h
  pub shards : names d.shards.items ≡ shards_that_came h
  pub found : (n : ℕ) → HasFoundTries s n
  pub each : (n : ℕ) (x : ShardLedger) → IsAt d n x → IsShard s h x
  pub few : (n : ℕ) → came_count h n < 4294967296
  pub begun : d.begun ≡ calls_begun h
  pub splits : (lane : LaneId) (x : ShardLedger) → IsAt d lane.shard x → is_running h lane ≡ true → 2 ≤ (lane_in x.lanes lane.lane).kept.splits

pub lane_here : (s : Setting) (h : List Entry) (d : Ledger) (lane : LaneId) (x : ShardLedger) → IsAt d lane.shard x → IsShard s h x → lane.lane < s.config.factor → IsLane s h lane (lane_in x.lanes lane.lane)
lane_here s h d lane x at is low = subst (λ (n : ℕ). IsLane s h (lane_id n lane.lane) (lane_in x.lanes lane.lane)) at.2 (is.lanes lane.lane low)

may_end : (s : Setting) (h : List Entry) (lane : LaneId) (x : ShardLedger) → Legal s h → s.calls < 4294967296 → IsLane s h lane (lane_in x.lanes lane.lane) → is_running h lane ≡ true → MayEnd x lane.lane
may_end s h lane x legal calls is runs =
    let bounds = lane_bounded s h lane (lane_in x.lanes lane.lane) legal is in
    let fewer = bounds.running (sym is.runs ∙ runs) in
    record { within = bounds.called; few = omega (arith, fewer, begun_within s h legal, calls) }

pub keeps_own : (d : Ledger) → IsStreamConfig d.config → d.calls < 4294967296 → HasRoom d 0 → Holds (setting_of d) (past_of d) d → Keeps d
keeps_own d config calls room k =
    let s = setting_of d in
    let h = past_of d in
    let legal = own_legal s h k.legal in
    record {
      rests = record {
        legal = k.legal;
        last = k.last;
        shut = k.shut;
        room = room;
        unended = k.unended;
        shards = k.shards;
        factor = λ n x at. (k.each n x at).factor;
        runs = λ lane x at low. (lane_here s h d lane x at (k.each lane.shard x at) low).runs;
        ends = λ lane x at runs. may_end s h lane x legal calls (lane_here s h d lane x at (k.each lane.shard x at) (running_below s h lane legal runs)) runs;
      };
      config = config;
      found = k.found;
      each = k.each;
      few = k.few;
      begun = k.begun;
      calls = calls;
      splits = k.splits;
    }

pub keeps_from : (d : Ledger) (s : Setting) (h : List Entry) → setting_of d ≡ s → past_of d ≡ h → IsStreamConfig d.config → d.calls < 4294967296 → HasRoom d 0 → Holds s h d → Keeps d
keeps_from d s h q p config calls room k =
    keeps_own d config calls room (subst (λ (t : Setting). Holds t (past_of d) d) (sym q) (subst (λ (g : List Entry). Holds s g d) (sym p) k))

-- fields that stay

pub record SameBase (c d : Ledger) : Type 0 where
  pub config : d.config ≡ c.config
  pub calls : d.calls ≡ c.calls
  pub found : d.found ≡ c.found

pub setting_same : (c d : Ledger) → SameBase c d → map stream_of d.shards.items ≡ map stream_of c.shards.items → setting_of d ≡ setting_of c
setting_same c d b streams =
    let make : Config → ℕ → List Stream → SaidLists → Setting = λ a n ts f. record { config = a; calls = n; streams = ts; fates = f.fates; tries = f.tries; states = f.states; window_tries = f.window_tries } in
    ap (λ (a : Config). make a d.calls (map stream_of d.shards.items) d.found) b.config
    ∙ ap (λ (n : ℕ). make c.config n (map stream_of d.shards.items) d.found) b.calls
    ∙ ap (λ (ts : List Stream). make c.config c.calls ts d.found) streams
    ∙ ap (λ (f : SaidLists). make c.config c.calls (map stream_of c.shards.items) f) b.found

pub config_same : (c d : Ledger) → SameBase c d → Keeps c → IsStreamConfig d.config
config_same c d b k = subst (λ (a : Config). IsStreamConfig a) (sym b.config) k.config

pub calls_same : (c d : Ledger) → SameBase c d → Keeps c → d.calls < 4294967296
calls_same c d b k = (let few = k.calls in omega (arith, b.calls, few))

-- room

pub room_after : (c d : Ledger) (e : Entry) (n k : ℕ) → past_of d ≡ e ∷ past_of c → vec_len d.history ≡ vec_len c.history + 1 → vec_capacity d.history ≡ vec_capacity c.history
    → spare_of (e ∷ past_of c) + 1 ≤ spare_of (past_of c) + k → HasRoom c (n + k) → HasRoom d n
room_after c d e n k past len capacity spare r =
    let same : spare_of (past_of d) ≡ spare_of (e ∷ past_of c) = ap spare_of past in
    let a = r.room in
    let b = r.short in
    record { room = omega (arith, same, len, capacity, spare, a); short = omega (arith, same, len, spare, b) }

pub with_room : (c : Ledger) (k : ℕ) → HasRoom c k → HasRoom c (0 + k)
with_room c k r = (let a = r.room in let b = r.short in record { room = omega (arith, a); short = omega (arith, b) })

-- the history gets room

pub keeps_reserved : (c d : Ledger) → Keeps c → d ≡ record c { history = d.history } → d.history.items ≡ c.history.items → vec_len d.history ≡ vec_len c.history → vec_capacity c.history ≤ vec_capacity d.history → Keeps d
keeps_reserved c d k is items len capacity =
    let base : SameBase c d = record { config = ap (λ (z : Ledger). z.config) is; calls = ap (λ (z : Ledger). z.calls) is; found = ap (λ (z : Ledger). z.found) is } in
    let past : past_of d ≡ past_of c = ap reverse items in
    let spare : spare_of (past_of d) ≡ spare_of (past_of c) = ap spare_of past in
    let shards : d.shards ≡ c.shards = ap (λ (z : Ledger). z.shards) is in
    let r = k.rests in
    let a = r.room.room in
    let b = r.room.short in
    let room : HasRoom d 0 = record { room = omega (arith, spare, len, capacity, a); short = omega (arith, spare, len, b) } in
    let to : (n : ℕ) (x : ShardLedger) → IsAt d n x → IsAt c n x = λ n x at. (at.0, subst (λ (v : Vec ShardLedger Global). slice_get v.items at.0 ≡ Some x) shards at.1, at.2) in
    keeps_from d (setting_of c) (past_of c) (setting_same c d base (ap (λ (v : Vec ShardLedger Global). map stream_of v.items) shards)) past (config_same c d base k) (calls_same c d base k) room (record {
      legal = r.legal;
      last = ap (λ (z : Ledger). z.last) is ∙ r.last;
      shut = ap (λ (z : Ledger). z.shut) is ∙ r.shut;
      unended = ap (λ (z : Ledger). z.unended) is ∙ r.unended;
      shards = ap (λ (v : Vec ShardLedger Global). names v.items) shards ∙ r.shards;
      found = k.found;
      each = λ n x at. k.each n x (to n x at);
      few = k.few;
      begun = ap (λ (z : Ledger). z.begun) is ∙ k.begun;
      splits = λ lane x at runs. k.splits lane x (to lane.shard x at) runs;
    })

-- room for the note

pub note_room : (c w : Ledger) (k : ℕ) → w ≡ record c { shards = w.shards } → HasRoom c k → 1 ≤ spare_of (past_of c) + k → vec_len w.history < vec_capacity w.history
note_room c w k is r some =
    let len : vec_len w.history ≡ vec_len c.history = ap (λ (z : Ledger). vec_len z.history) is in
    let capacity : vec_capacity w.history ≡ vec_capacity c.history = ap (λ (z : Ledger). vec_capacity z.history) is in
    let a = r.room in
    omega (arith, len, capacity, a, some)
