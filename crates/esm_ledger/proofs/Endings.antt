-- What is noted of a ledger of which nothing is kept any more but the history.
use Rattle.std.proofs.Common.{◌≡◌, ℕ, ◌+◌, ◌-◌, ◌<◌, ◌≤◌, Bool, true, false, List, [], ◌∷◌, ◌++◌, length, map, refl, sym, ap, ◌∙◌, subst, inl, inr, Some, None, arith, Vec, Global}
use Rattle.std.specs.Prelude.{slice_get, is_some, vec_len, vec_capacity, if◌then◌else◌}
use Rattle.std.proofs.lemmas.Bool.{cases_Bool}
use Rattle.esm_model.specs.declared.config.Config.{Config}
use Rattle.esm_model.specs.declared.lane.LaneId.{LaneId}
use Rattle.esm_model.specs.declared.entry.Reply.{Reply}
use Rattle.esm_model.specs.declared.entry.Entry.{Entry}
use Rattle.esm_model.specs.declared.entry.Entry.TheVariants.{Ended, Shut}
use Rattle.esm_model.specs.Setting.{Setting}
use Rattle.esm_model.specs.Entries.{moment_of, last_moment, is_shut, shards_that_came, is_running}
use Rattle.esm_model.specs.Lane.{same_lane}
use Rattle.esm_model.proofs.Sound.{same_lane-true}
use Rattle.esm_lanes.specs.Piece.{front_length}
use Rattle.esm_shard_index.specs.LaneView.{LaneView, lane_in, running_count}
use Rattle.esm_ledger.specs.declared.ledger.Ledger.{Ledger}
use Rattle.esm_ledger.specs.declared.shard.ShardLedger.{ShardLedger}
use Rattle.esm_ledger.specs.Shard.{lane_id}
use Rattle.esm_ledger.specs.Ledger.{past_of, setting_of, stream_of, LegalOver, IsAt, HasRoom, Rests, MayEnd, unended, spare_of}
use Rattle.esm_ledger.specs.Adding.{IsChanged, KeepsSplits, RestsAt}
use Rattle.esm_ledger.proofs.Unended.{some_unended}
use Rattle.esm_ledger.proofs.Ledgers.{own_legal, names}
use Rattle.esm_ledger.proofs.KeptLedgers.{SameBase, room_after, setting_same}
use Rattle.esm_ledger.proofs.ShardChanges.{changed_nowhere}
use Rattle.esm_ledger.proofs.Additions.{before_shut, before_unended, past_added}

-- where nothing is kept but the history

pub record Rested (c d : Ledger) (e : Entry) : Type 0 where
  pub rests : Rests d
  pub past : past_of d ≡ e ∷ past_of c
  pub setting : setting_of d ≡ setting_of c

pub record Ending (c w d : Ledger) (e : Entry) (u : ℕ) (t : Bool) : Type 0 where
  pub before : w ≡ record c { shards = w.shards }
  pub after : d ≡ record w { unended = u; shut = t; history = d.history; last = moment_of e }
  pub items : d.history.items ≡ w.history.items ++ e ∷ []
  pub len : vec_len d.history ≡ vec_len w.history + 1
  pub capacity : vec_capacity d.history ≡ vec_capacity w.history
  pub unended : u ≡ unended (e ∷ past_of c)
  pub shut : t ≡ is_shut (e ∷ past_of c)
  pub spare : spare_of (e ∷ past_of c) + 1 ≤ spare_of (past_of c)

-- what the lanes of a ledger say after an entry
pub record LanesRest (w : Ledger) (h : List Entry) (factor : ℕ) : Type 0 where
  pub lanes : (n : ℕ) (x : ShardLedger) → IsAt w n x → length x.lanes.lanes ≡ factor
  pub runs : (lane : LaneId) (x : ShardLedger) → IsAt w lane.shard x → lane.lane < factor → is_running h lane ≡ is_some (lane_in x.lanes lane.lane).state.running
  pub ends : (lane : LaneId) (x : ShardLedger) → IsAt w lane.shard x → is_running h lane ≡ true → MayEnd x lane.lane

pub rest_finish : (c w d : Ledger) (e : Entry) (u : ℕ) (t : Bool) (P : ShardLedger → ShardLedger → Type 0) → Rests c → LegalOver (setting_of c) (e ∷ past_of c) → Ending c w d e u t
    → shards_that_came (e ∷ past_of c) ≡ shards_that_came (past_of c) → IsChanged c w P → LanesRest w (e ∷ past_of c) c.config.factor → Rested c d e
rest_finish c w d e u t P r legal is came on lanes =
    let history : w.history ≡ c.history = ap (λ (z : Ledger). z.history) is.before in
    let items : d.history.items ≡ c.history.items ++ e ∷ [] = is.items ∙ ap (λ (v : Vec Entry Global). v.items ++ e ∷ []) history in
    let len : vec_len d.history ≡ vec_len c.history + 1 = is.len ∙ ap (λ (v : Vec Entry Global). vec_len v + 1) history in
    let capacity : vec_capacity d.history ≡ vec_capacity c.history = is.capacity ∙ ap (λ (v : Vec Entry Global). vec_capacity v) history in
    let past : past_of d ≡ e ∷ past_of c = past_added c d e items in
    let base : SameBase c d = record {
      config = ap (λ (z : Ledger). z.config) is.after ∙ ap (λ (z : Ledger). z.config) is.before;
      calls = ap (λ (z : Ledger). z.calls) is.after ∙ ap (λ (z : Ledger). z.calls) is.before;
      found = ap (λ (z : Ledger). z.found) is.after ∙ ap (λ (z : Ledger). z.found) is.before;
    } in
    let shards : d.shards ≡ w.shards = ap (λ (z : Ledger). z.shards) is.after in
    let setting : setting_of d ≡ setting_of c = setting_same c d base (ap (λ (v : Vec ShardLedger Global). map stream_of v.items) shards ∙ on.streams) in
    let to : (n : ℕ) (x : ShardLedger) → IsAt d n x → IsAt w n x = λ n x at. (at.0, subst (λ (v : Vec ShardLedger Global). slice_get v.items at.0 ≡ Some x) shards at.1, at.2) in
    let spare = is.spare in
    let room : HasRoom c (0 + 0) = record { room = (let a = r.room.room in omega (arith, a)); short = (let b = r.room.short in omega (arith, b)) } in
    let factor : c.config.factor ≡ d.config.factor = ap (λ (a : Config). a.factor) (sym base.config) in
    record {
      rests = record {
        legal = subst (λ (s : Setting). LegalOver s (past_of d)) (sym setting) (subst (λ (g : List Entry). LegalOver (setting_of c) g) (sym past) legal);
        last = ap (λ (z : Ledger). z.last) is.after ∙ sym (ap last_moment past);
        shut = ap (λ (z : Ledger). z.shut) is.after ∙ is.shut ∙ sym (ap is_shut past);
        room = room_after c d e 0 0 past len capacity (omega (arith, spare)) room;
        unended = ap (λ (z : Ledger). z.unended) is.after ∙ is.unended ∙ sym (ap unended past);
        shards = ap (λ (v : Vec ShardLedger Global). names v.items) shards ∙ on.names ∙ r.shards ∙ sym came ∙ sym (ap shards_that_came past);
        factor = λ n x at. lanes.lanes n x (to n x at) ∙ factor;
        runs = λ lane x at low. ap (λ (g : List Entry). is_running g lane) past ∙ lanes.runs lane x (to lane.shard x at) (subst (λ (n : ℕ). lane.lane < n) (sym factor) low);
        ends = λ lane x at runs. lanes.ends lane x (to lane.shard x at) (sym (ap (λ (g : List Entry). is_running g lane) past) ∙ runs);
      };
      past = past;
      setting = setting;
    }

may_end_same : (x y : ShardLedger) (k : ℕ) → lane_in y.lanes k ≡ lane_in x.lanes k → MayEnd x k → MayEnd y k
may_end_same x y k same is = record {
  within = subst (λ (v : LaneView). running_count v.state.running ≤ front_length v.kept.pieces) (sym same) is.within;
  few = subst (λ (v : LaneView). v.state.failures < 18446744073709551615) (sym same) is.few;
}

lanes_ended : (c w : Ledger) (at : LaneId) (reply : Reply) (m : ℕ) → Rests c → IsChanged c w (RestsAt at) → LanesRest w (Ended at reply m ∷ past_of c) c.config.factor
lanes_ended c w at reply m r on = record {
  lanes = λ n x here. (let was = on.kept n x here in was.2.lanes ∙ r.factor n was.0 was.1);
  runs = λ lane x here low. (let was = on.kept lane.shard x here in elim (cases_Bool (same_lane at lane)) [
    | inl same ↦ (
        let e : at ≡ lane = same_lane-true at lane same in
        let none : (lane_in x.lanes at.lane).state.running ≡ None = was.2.rests (here.2 ∙ sym (ap (λ (l : LaneId). l.shard) e)) in
        let off : is_some (lane_in x.lanes lane.lane).state.running ≡ false = subst (λ (l : LaneId). is_some (lane_in x.lanes l.lane).state.running ≡ false) e (ap is_some none) in
        rw same (sym off))
    | inr off ↦ (
        let away : same_lane at (lane_id x.shard lane.lane) ≡ false = subst (λ (n : ℕ). same_lane at (lane_id n lane.lane) ≡ false) (sym here.2) off in
        rw off (r.runs lane was.0 was.1 low ∙ ap (λ (v : LaneView). is_some v.state.running) (sym (was.2.others lane.lane away))))
  ]);
  ends = λ lane x here runs. (let was = on.kept lane.shard x here in elim (cases_Bool (same_lane at lane)) [
    | inl same ↦ absurd (let clash : false ≡ true = rw same at runs in cc)
    | inr off ↦ (
        let ran : is_running (past_of c) lane ≡ true = rw off at runs in
        let away : same_lane at (lane_id x.shard lane.lane) ≡ false = subst (λ (n : ℕ). same_lane at (lane_id n lane.lane) ≡ false) (sym here.2) off in
        may_end_same was.0 x lane.lane (was.2.others lane.lane away) (r.ends lane was.0 was.1 ran))
  ]);
}

pub ended_rests : (c w d : Ledger) (lane : LaneId) (reply : Reply) (m u : ℕ) → let e = Ended lane reply m in Rests c → LegalOver (setting_of c) (e ∷ past_of c)
    → w ≡ record c { shards = w.shards } → u ≡ w.unended - 1 → d ≡ record w { unended = u; history = d.history; last = m }
    → d.history.items ≡ w.history.items ++ e ∷ [] → vec_len d.history ≡ vec_len w.history + 1 → vec_capacity d.history ≡ vec_capacity w.history
    → IsChanged c w (RestsAt lane) → Rested c d e
ended_rests c w d lane reply m u r legal before less after items len capacity on =
    let own = own_legal (setting_of c) (Ended lane reply m ∷ past_of c) legal in
    let some : 1 ≤ unended (past_of c) = some_unended (setting_of c) (past_of c) lane own.0 own.1.1 in
    rest_finish c w d (Ended lane reply m) u w.shut (RestsAt lane) r legal (record {
      before = before;
      after = after;
      items = items;
      len = len;
      capacity = capacity;
      unended = less ∙ ap (λ (n : ℕ). n - 1) (before_unended c w r before);
      shut = before_shut c w r before;
      spare = omega (arith, some);
    }) refl on (lanes_ended c w lane reply m r on)

pub shut_rests : (c d : Ledger) (m : ℕ) → let e = Shut m in Rests c → LegalOver (setting_of c) (e ∷ past_of c)
    → d ≡ record c { shut = true; history = d.history; last = m }
    → d.history.items ≡ c.history.items ++ e ∷ [] → vec_len d.history ≡ vec_len c.history + 1 → vec_capacity d.history ≡ vec_capacity c.history → Rested c d e
shut_rests c d m r legal after items len capacity =
    let own = own_legal (setting_of c) (Shut m ∷ past_of c) legal in
    let going : is_shut (past_of c) ≡ false = own.1.1.1 in
    let spare : spare_of (past_of c) ≡ unended (past_of c) + 1 = ap (λ (b : Bool). unended (past_of c) + (if b then 0 else 1)) going in
    rest_finish c c d (Shut m) c.unended true KeepsSplits r legal (record {
      before = refl;
      after = after;
      items = items;
      len = len;
      capacity = capacity;
      unended = r.unended;
      shut = refl;
      spare = omega (arith, spare);
    }) refl (changed_nowhere c) (record { lanes = r.factor; runs = r.runs; ends = r.ends })
