-- A call, or an expiry, that is decided.
use Rattle.std.proofs.Common.{◌≡◌, ℕ, ◌<◌, ◌≤◌, List, [], ◌∷◌, ◌++◌, length, refl, ap, ◌∙◌, subst, Option, Some, None, arith, Vec, Global}
use Rattle.std.specs.List.{cons_option}
use Rattle.esm_model.specs.declared.lane.LaneId.{LaneId}
use Rattle.esm_model.specs.declared.entry.Fate.TheVariants.{Expired}
use Rattle.esm_model.specs.declared.entry.Entry.{Entry}
use Rattle.esm_model.specs.declared.entry.Entry.TheVariants as entry
use Rattle.esm_model.specs.Setting.{Setting}
use Rattle.esm_ledger.specs.declared.ledger.Ledger.{Ledger}
use Rattle.esm_ledger.specs.Ledger.{past_of, setting_of, HasRoom, HasSplits}
use Rattle.esm_outcome.specs.Ending.{MaySettle}
use Rattle.esm_record_bounds.specs.Bounds.{AreCountedInFourBytes}
use Rattle.esm_stream_core.specs.declared.owed.Act.{Act}
use Rattle.esm_stream_core.specs.declared.owed.Act.TheVariants as act
use Rattle.esm_stream_core.specs.declared.owed.Owed.{Owed}
use Rattle.esm_stream_core.specs.declared.stream_core.StreamCore.TheInside.{Inside}
use Rattle.esm_stream_core.specs.CoreView.{CoreView}
use Rattle.esm_stream_core.specs.Acts.{IsWritten, AreNext}
use Rattle.esm_stream_core.specs.Kept.{Decides, IsSame}
use Rattle.esm_stream_core.proofs.Rooms.{own_legal}
use Rattle.esm_stream_core.proofs.Settling.{call_within, may_add}
use Rattle.esm_stream_core.proofs.Deciding.{Begins, begun_sound, begun_as, Decided, one_decided, moved}

-- a call that begins

abbrev pub call_owed : LaneId → List ℕ → Option ℕ → ℕ → Owed
call_owed lane places closing m = record { act = act.Began lane places closing m; payload = None }

pub call_known : (v : CoreView) (x : Inside) (lane : LaneId) (places : List ℕ) (closing : Option ℕ) (m : ℕ) → Begins v x → MaySettle v.setting v.past (entry.Began lane places closing m ∷ []) → lane.lane < x.ledger.config.factor
call_known v x lane places closing m b may =
    begun_as v x (λ (s : Setting) (h : List Entry). lane.lane < s.config.factor) b (call_within v.setting v.past lane places closing m may.0)

call_decides : (v : CoreView) (x : Inside) (d : Ledger) (lane : LaneId) (places : List ℕ) (closing : Option ℕ) (m : ℕ) → Begins v x → MaySettle (setting_of x.ledger) (past_of x.ledger) (entry.Began lane places closing m ∷ [])
    → IsSame x.ledger d → HasSplits d lane → HasRoom d 2 → Decides x.ledger d [] (call_owed lane places closing m ∷ [])
call_decides v x d lane places closing m b may same splits room =
    let s = setting_of x.ledger in
    let h = past_of x.ledger in
    record {
      same = same;
      room = room;
      payable = (splits, λ e added. refl);
      may = may_add s h (entry.Began lane places closing m ∷ []) may;
      written = (record { payload = refl; short = tt; line = tt; in_time = (own_legal s (entry.Began lane places closing m ∷ h) may.0).1.0.within }, tt);
      lines = omega arith;
      bounds = (begun_sound v x b).bounds;
    }

pub call_decided : (v : CoreView) (x : Inside) (d : Ledger) (ys : Vec Owed Global) (lane : LaneId) (places : List ℕ) (closing : Option ℕ) (m : ℕ) → Begins v x → MaySettle v.setting v.past (entry.Began lane places closing m ∷ [])
    → IsSame x.ledger d → HasSplits d lane → HasRoom d 2 → ys.items ≡ x.owed.items ++ call_owed lane places closing m ∷ [] → Decided v (record x { ledger = d; owed = ys }) [] (entry.Began lane places closing m ∷ [])
call_decided v x d ys lane places closing m b may same splits room more =
    let own = begun_as v x (λ (s : Setting) (h : List Entry). MaySettle s h (entry.Began lane places closing m ∷ [])) b may in
    one_decided v x d ys (call_owed lane places closing m) b more (call_decides v x d lane places closing m b own same splits room) tt

-- records that expire

abbrev pub expiry_of : LaneId → List ℕ → Option (List ℕ) → ℕ → Entry
expiry_of lane places line m = entry.Gave (Some lane) lane.shard places Expired line None m

pub expiry_next : (v : CoreView) (x : Inside) (lane : LaneId) (places : List ℕ) (line : Option (List ℕ)) (m : ℕ) → Begins v x → MaySettle v.setting v.past (expiry_of lane places line m ∷ [])
    → AreNext (setting_of x.ledger) (past_of x.ledger) (expiry_of lane places line m ∷ [])
expiry_next v x lane places line m b may =
    let s = setting_of x.ledger in
    let h = past_of x.ledger in
    let counted : AreCountedInFourBytes h = (begun_sound v x b).counted in
    let own = begun_as v x (λ (t : Setting) (g : List Entry). MaySettle t g (expiry_of lane places line m ∷ [])) b may in
    (record { legal = own_legal s (expiry_of lane places line m ∷ h) own.0; before = counted; after = λ n. counted n; few = tt }, tt)

one_line : (o : Option (List ℕ)) → length (cons_option o []) ≤ 1
one_line None = omega arith
one_line (Some x) = omega arith

pub expiry_decided : (v : CoreView) (x : Inside) (d : Ledger) (ys : Vec Owed Global) (lane : LaneId) (places : List ℕ) (line : Option (List ℕ)) (m : ℕ) (o : Owed)
    → Begins v x → lane.lane < v.setting.config.factor → MaySettle v.setting v.past (expiry_of lane places line m ∷ [])
    → IsSame x.ledger d → HasRoom d 1 → o.act ≡ act.Expired lane places line m → IsWritten (setting_of d) o → ys.items ≡ x.owed.items ++ o ∷ [] → Decided v (record x { ledger = d; owed = ys }) [] (expiry_of lane places line m ∷ [])
expiry_decided v x d ys lane places line m o b known may same room act_is written more =
    let expired : Owed = record { act = act.Expired lane places line m; payload = o.payload } in
    let is : o ≡ expired = ap (λ (a : Act). record { act = a; payload = o.payload }) act_is in
    let s = setting_of x.ledger in
    let h = past_of x.ledger in
    let own = begun_as v x (λ (t : Setting) (g : List Entry). MaySettle t g (expiry_of lane places line m ∷ [])) b may in
    one_decided v x d ys expired b (more ∙ ap (λ (e : Owed). x.owed.items ++ e ∷ []) is)
    (record {
      same = same;
      room = room;
      payable = (moved x.ledger d (λ (t : Setting) (g : List Entry). lane.lane < t.config.factor) same (begun_as v x (λ (t : Setting) (g : List Entry). lane.lane < t.config.factor) b known), λ e added. refl);
      may = may_add s h (expiry_of lane places line m ∷ []) own;
      written = (subst (λ (t : Setting). IsWritten t expired) same.setting (subst (λ (e : Owed). IsWritten (setting_of d) e) is written), tt);
      lines = one_line line;
      bounds = (begun_sound v x b).bounds;
    })
    tt
