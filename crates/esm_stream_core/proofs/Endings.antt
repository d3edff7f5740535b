-- The end of a call that is decided: what it calls for, as the entries that are owed.
use Rattle.std.proofs.Common.{◌≡◌, ℕ, ◌+◌, ◌≤◌, List, [], ◌∷◌, ◌++◌, length, map, reverse, refl, sym, ap, ap₂, ◌∙◌, subst, Option, Some, None, arith, Vec, Global}
use Rattle.std.proofs.lemmas.List.{reverse-append, append_assoc, append-nil}
use Rattle.std.specs.Prelude.{IfSome}
use Rattle.esm_model.specs.declared.lane.LaneId.{LaneId}
use Rattle.esm_model.specs.declared.verdict.Verdict.{Verdict}
use Rattle.esm_model.specs.declared.entry.Reply.{Reply}
use Rattle.esm_model.specs.declared.entry.WindowState.{WindowState}
use Rattle.esm_model.specs.declared.entry.Fate.TheVariants.{Succeeded, Filtered, Expired, Exhausted}
use Rattle.esm_model.specs.declared.entry.Entry.{Entry}
use Rattle.esm_model.specs.declared.entry.Entry.TheVariants as entry
use Rattle.esm_model.specs.Setting.{Setting}
use Rattle.esm_model.specs.Step.{Legal}
use Rattle.esm_model.specs.Tries.{verdict_after}
use Rattle.esm_ledger.specs.declared.ledger.Ledger.{Ledger}
use Rattle.esm_ledger.specs.Ledger.{past_of, setting_of, HasRoom, HasState}
use Rattle.esm_outcome.specs.declared.outcome.Due.{Due}
use Rattle.esm_outcome.specs.declared.outcome.Due.TheVariants as due
use Rattle.esm_outcome.specs.Dues.{due_entry, given_count}
use Rattle.esm_outcome.specs.Ending.{MaySettle, IsVerdictOver, AreOwedOver}
use Rattle.esm_outcome.specs.Preparing.{IsPrepared, PreparesEnd, AreOfWindow}
use Rattle.esm_record_bounds.specs.Bounds.{AreCountedInFourBytes, FiltersFew}
use Rattle.esm_stream_core.specs.declared.owed.Act.{Act}
use Rattle.esm_stream_core.specs.declared.owed.Act.TheVariants as act
use Rattle.esm_stream_core.specs.declared.owed.Owed.{Owed}
use Rattle.esm_stream_core.specs.CoreView.{CoreView, lines_of, owing}
use Rattle.esm_stream_core.specs.Kept.{MayAdd, Decides, IsSame, IsLedgerOf}
use Rattle.esm_stream_core.specs.Acts.{act_entry, entries_of, AreWritten, IsWritable, AreWritable, NamesOpen, AllNameOpen, AreNext, due_act, IsDue, AreDue}
use Rattle.esm_stream_core.specs.Adding.{costs, cost_of, IsReadyAlone, ArePayable}
use Rattle.esm_stream_core.proofs.Rooms.{own_legal}
use Rattle.esm_stream_core.proofs.Settling.{may_add}
use Rattle.esm_stream_core.proofs.Payloads.{due_act_entry}
use Rattle.esm_model.specs.Owed.{owed}
use Rattle.esm_record_bounds.proofs.Lines.{one_line}
use Rattle.esm_stream_core.specs.Calls.{ended_entries, given_in, given_by_end}
use Rattle.esm_stream_core.proofs.Ledgers.{told_by}
use Rattle.esm_stream_core.specs.declared.stream_core.StreamCore.TheInside.{Inside}
use Rattle.esm_stream_core.specs.Inside.{BringNone}
use Rattle.esm_stream_core.proofs.Bringing.{dues_none}
use Rattle.esm_stream_core.proofs.Deciding.{IsSound, Begins, begun_empty, Decided, decided, moved}

pub verdict_is : (v : CoreView) (c : Ledger) (lane : LaneId) (reply : Reply) (ruling : Verdict) → IsLedgerOf v c → IsVerdictOver (setting_of c) (past_of c) lane reply ruling → ruling ≡ verdict_after v.setting v.past lane reply
verdict_is v c lane reply ruling is all = told_by (λ (s : Setting) (h : List Entry). ruling ≡ verdict_after s h lane reply) v c is (all (setting_of c).streams (λ n i r at. at))

pub may_settle : (v : CoreView) (c : Ledger) (es : List Entry) → IsLedgerOf v c → MaySettle (setting_of c) (past_of c) es → MaySettle v.setting v.past es
may_settle v c es is may = told_by (λ (s : Setting) (h : List Entry). MaySettle s h es) v c is may

-- they are what is owed
pub dues_are : (v : CoreView) (c : Ledger) (lane : LaneId) (reply : Reply) (m : ℕ) (dues : List Due) → IsLedgerOf v c → AreOwedOver (setting_of c) (past_of c) lane reply m dues → map (due_entry lane m) dues ≡ owed v.setting (entry.Ended lane reply m ∷ v.past) lane
dues_are v c lane reply m dues is all = told_by (λ (s : Setting) (h : List Entry). map (due_entry lane m) dues ≡ owed s (entry.Ended lane reply m ∷ h) lane) v c is (all (setting_of c).streams (λ n i r at. at))

pub few_lines : (v : CoreView) (lane : LaneId) (reply : Reply) (m : ℕ) (es : List Entry) → es ≡ owed v.setting (entry.Ended lane reply m ∷ v.past) lane → length (lines_of es) ≤ 1
few_lines v lane reply m es are = subst (λ (xs : List Entry). length (lines_of xs) ≤ 1) (sym are) (one_line v.setting v.past lane reply m)

pub owes_end : (v w : CoreView) (lane : LaneId) (reply : Reply) (m n : ℕ) (es : List Entry) → es ≡ owed v.setting (entry.Ended lane reply m ∷ v.past) lane → m ≡ n → w ≡ owing v [] (entry.Ended lane reply m ∷ es) → w ≡ owing v [] (ended_entries v lane reply n)
owes_end v w lane reply m n es are same owes =
    owes ∙ (ap (λ (xs : List Entry). owing v [] (entry.Ended lane reply m ∷ xs)) are ∙ ap (λ (k : ℕ). owing v [] (ended_entries v lane reply k)) same)

given_same : (lane : LaneId) (m : ℕ) (dues : List Due) → given_count dues ≡ given_in (map (due_entry lane m) dues)
given_same lane m [] = refl
given_same lane m (due.Gave places fate line state ∷ dues) = ap (λ (n : ℕ). length places + n) (given_same lane m dues)
given_same lane m (due.Tried places closing tries ∷ dues) = ap (λ (n : ℕ). 0 + n) (given_same lane m dues)
given_same lane m (due.Closed window ∷ dues) = ap (λ (n : ℕ). 0 + n) (given_same lane m dues)

pub given_is : (v : CoreView) (lane : LaneId) (reply : Reply) (m n count : ℕ) (dues : List Due) → map (due_entry lane m) dues ≡ owed v.setting (entry.Ended lane reply m ∷ v.past) lane → m ≡ n → count ≡ given_count dues → count ≡ given_by_end v lane reply n
given_is v lane reply m n count dues are same is =
    is ∙ (given_same lane m dues ∙ (ap given_in are ∙ ap (λ (k : ℕ). given_by_end v lane reply k) same))

-- what the end of a call calls for

due_counted : (h : List Entry) (lane : LaneId) (m : ℕ) (d : Due) → AreCountedInFourBytes h → AreCountedInFourBytes (due_entry lane m d ∷ h)
due_counted h lane m (due.Gave places fate line state) counted n = counted n
due_counted h lane m (due.Tried places closing tries) counted n = counted n
due_counted h lane m (due.Closed window) counted n = counted n

due_few : (s : Setting) (h : List Entry) (lane : LaneId) (m : ℕ) (d : Due) → Legal s (due_entry lane m d ∷ h) → FiltersFew (due_entry lane m d)
due_few s h lane m (due.Gave places Succeeded line state) legal = tt
due_few s h lane m (due.Gave places Filtered line state) legal = absurd legal.1.1
due_few s h lane m (due.Gave places Expired line state) legal = tt
due_few s h lane m (due.Gave places Exhausted line state) legal = tt
due_few s h lane m (due.Tried places closing tries) legal = tt
due_few s h lane m (due.Closed window) legal = tt

pub dues_next : (s : Setting) (h : List Entry) (lane : LaneId) (m : ℕ) (ds : List Due) → MaySettle s h (map (due_entry lane m) ds) → AreCountedInFourBytes h → AreNext s h (map (due_entry lane m) ds)
dues_next s h lane m [] may counted = tt
dues_next s h lane m (d ∷ ds) may counted =
    let legal = own_legal s (due_entry lane m d ∷ h) may.0 in
    let after = due_counted h lane m d counted in
    (record { legal = legal; before = counted; after = after; few = due_few s h lane m d legal }, dues_next s (due_entry lane m d ∷ h) lane m ds may.1 after)

pub end_next : (c : Ledger) (lane : LaneId) (reply : Reply) (m : ℕ) (ds : List Due) → IsSound c → MaySettle (setting_of c) (past_of c) (entry.Ended lane reply m ∷ map (due_entry lane m) ds)
    → AreNext (setting_of c) (entry.Ended lane reply m ∷ past_of c) (map (due_entry lane m) ds)
end_next c lane reply m ds sound may = dues_next (setting_of c) (entry.Ended lane reply m ∷ past_of c) lane m ds may.1 (λ n. sound.counted n)

-- those that were popped, as they are owed

pub record IsTurned (s : Setting) (lane : LaneId) (m : ℕ) (all rest : List Due) (owed : List Owed) : Type 0 where
  pub done : List Due
  pub split : all ≡ rest ++ done
  pub are : AreDue s lane m done (reverse owed)

pub none_turned : (s : Setting) (lane : LaneId) (m : ℕ) (ds : List Due) → IsTurned s lane m ds ds []
none_turned s lane m ds = record { done = []; split = sym (append-nil ds); are = tt }

pub all_turned : (s : Setting) (lane : LaneId) (m : ℕ) (all rest : List Due) (owed : List Owed) → IsTurned s lane m all rest owed → rest ≡ [] → AreDue s lane m all (reverse owed)
all_turned s lane m all rest owed t none =
    subst (λ (ds : List Due). AreDue s lane m ds (reverse owed)) (sym (t.split ∙ ap (λ (ds : List Due). ds ++ t.done) none)) t.are

pub more_turned : (s : Setting) (lane : LaneId) (m : ℕ) (all rest left : List Due) (d : Due) (owed more : List Owed) (o : Owed) → IsTurned s lane m all rest owed → rest ≡ left ++ d ∷ [] → more ≡ owed ++ o ∷ [] → IsDue s lane m d o
    → IsTurned s lane m all left more
more_turned s lane m all rest left d owed more o t popped pushed is = record {
  done = d ∷ t.done;
  split = t.split ∙ ap (λ (ds : List Due). ds ++ t.done) popped ∙ append_assoc left (d ∷ []) t.done;
  are = subst (λ (os : List Owed). AreDue s lane m (d ∷ t.done) os) (sym (ap reverse pushed ∙ reverse-append owed (o ∷ []))) (is, t.are);
}

writable_in : (s : Setting) (lane : LaneId) (m : ℕ) (left : List Due) (d : Due) (done : List Due) → AreWritable s (map (due_entry lane m) (left ++ d ∷ done)) → IsWritable s (due_entry lane m d)
writable_in s lane m [] d done w = w.0
writable_in s lane m (x ∷ left) d done w = writable_in s lane m left d done w.1

popped_from : (s : Setting) (lane : LaneId) (m : ℕ) (all rest left : List Due) (d : Due) (owed : List Owed) (t : IsTurned s lane m all rest owed) → rest ≡ left ++ d ∷ [] → all ≡ left ++ d ∷ t.done
popped_from s lane m all rest left d owed t popped = t.split ∙ ap (λ (ds : List Due). ds ++ t.done) popped ∙ append_assoc left (d ∷ []) t.done

pub popped_writable : (s : Setting) (lane : LaneId) (m : ℕ) (all rest left : List Due) (d : Due) (owed : List Owed) → IsTurned s lane m all rest owed → rest ≡ left ++ d ∷ [] → AreWritable s (map (due_entry lane m) all) → IsWritable s (due_entry lane m d)
popped_writable s lane m all rest left d owed t popped w =
    writable_in s lane m left d t.done
    (subst (λ (ds : List Due). AreWritable s (map (due_entry lane m) ds)) (popped_from s lane m all rest left d owed t popped) w)

open_in : (s : Setting) (h : List Entry) (lane : LaneId) (m : ℕ) (left : List Due) (d : Due) (done : List Due) → AllNameOpen s h (map (due_entry lane m) (left ++ d ∷ done)) → NamesOpen s h (due_entry lane m d)
open_in s h lane m [] d done w = w.0
open_in s h lane m (x ∷ left) d done w = open_in s h lane m left d done w.1

pub popped_open : (s : Setting) (h : List Entry) (lane : LaneId) (m : ℕ) (all rest left : List Due) (d : Due) (owed : List Owed) → IsTurned s lane m all rest owed → rest ≡ left ++ d ∷ [] → AllNameOpen s h (map (due_entry lane m) all) → NamesOpen s h (due_entry lane m d)
popped_open s h lane m all rest left d owed t popped w =
    open_in s h lane m left d t.done (subst (λ (ds : List Due). AllNameOpen s h (map (due_entry lane m) ds)) (popped_from s lane m all rest left d owed t popped) w)

-- as they stand in what is decided

pub dues_entries : (s : Setting) (lane : LaneId) (m : ℕ) (ds : List Due) (os : List Owed) → AreDue s lane m ds os → entries_of os ≡ map (due_entry lane m) ds
dues_entries s lane m [] [] are = refl
dues_entries s lane m [] (o ∷ os) are = absurd are
dues_entries s lane m (d ∷ ds) [] are = absurd are
dues_entries s lane m (d ∷ ds) (o ∷ os) are =
    ap₂ (λ (e : Entry) (es : List Entry). e ∷ es) (ap act_entry are.0.act ∙ due_act_entry lane m d) (dues_entries s lane m ds os are.1)

due_cost : (lane : LaneId) (m : ℕ) (d : Due) → cost_of (due_act lane m d) ≡ 1
due_cost lane m (due.Gave places fate line state) = refl
due_cost lane m (due.Tried places closing tries) = refl
due_cost lane m (due.Closed window) = refl

pub dues_cost : (s : Setting) (lane : LaneId) (m : ℕ) (ds : List Due) (os : List Owed) → AreDue s lane m ds os → costs os ≡ length ds
dues_cost s lane m [] [] are = refl
dues_cost s lane m [] (o ∷ os) are = absurd are
dues_cost s lane m (d ∷ ds) [] are = absurd are
dues_cost s lane m (d ∷ ds) (o ∷ os) are =
    let one : cost_of o.act ≡ 1 = ap cost_of are.0.act ∙ due_cost lane m d in
    let rest = dues_cost s lane m ds os are.1 in
    omega (arith, one, rest)

pub dues_written : (s : Setting) (lane : LaneId) (m : ℕ) (ds : List Due) (os : List Owed) → AreDue s lane m ds os → AreWritten s os
dues_written s lane m [] [] are = tt
dues_written s lane m [] (o ∷ os) are = absurd are
dues_written s lane m (d ∷ ds) [] are = absurd are
dues_written s lane m (d ∷ ds) (o ∷ os) are = (are.0.written, dues_written s lane m ds os are.1)

-- the states are of the window, which is prepared

state_ready : (c : Ledger) (n : ℕ) (window : Option ℕ) (state : Option WindowState) → IfSome window (λ w. HasState c n w) → IfSome state (λ (x : WindowState). window ≡ Some x.window) → IfSome state (λ (x : WindowState). HasState c n x.window)
state_ready c n window None has is = tt
state_ready c n window (Some x) has is = subst (λ (o : Option ℕ). IfSome o (λ w. HasState c n w)) is has

due_ready : (c : Ledger) (lane : LaneId) (m : ℕ) (window : Option ℕ) (d : Due) (ds : List Due) → AreOfWindow window (d ∷ ds) → IfSome window (λ w. HasState c lane.shard w) → IsReadyAlone c (due_act lane m d)
due_ready c lane m window (due.Gave places fate line state) ds of has = (of.0.0, refl, state_ready c lane.shard window state has of.0.1)
due_ready c lane m window (due.Tried places closing tries) ds of has = tt
due_ready c lane m window (due.Closed w) ds of has = tt

pub dues_payable : (s : Setting) (c : Ledger) (lane : LaneId) (m : ℕ) (window : Option ℕ) (ds : List Due) (os : List Owed) → AreDue s lane m ds os → AreOfWindow window ds → IfSome window (λ w. HasState c lane.shard w) → ArePayable c [] os
dues_payable s c lane m window [] [] are of has = refl
dues_payable s c lane m window [] (o ∷ os) are of has = absurd are
dues_payable s c lane m window (d ∷ ds) [] are of has = absurd are
dues_payable s c lane m window (d ∷ ds) (o ∷ os) are of has = (
  subst (λ (a : Act). IsReadyAlone c a) (sym are.0.act) (due_ready c lane m window d ds of has),
  λ e added. dues_payable s e lane m None ds os are.1 of.1 tt,
)

-- the end of a call

abbrev pub end_act : LaneId → Reply → Verdict → ℕ → Owed
end_act lane reply verdict m = record { act = act.Ended lane reply verdict m; payload = None }

pub record Ends (c d : Ledger) (lane : LaneId) (reply : Reply) (verdict : Verdict) (window : Option ℕ) (m : ℕ) (ds : List Due) (os : List Owed) : Type 0 where
  pub sound : IsSound c
  pub same : IsSame c d
  pub room : HasRoom d (length ds + 1)
  pub memory : IfSome window (IsPrepared d lane.shard)
  pub ruled : verdict ≡ verdict_after (setting_of c) (past_of c) lane reply
  pub may : MaySettle (setting_of c) (past_of c) (entry.Ended lane reply m ∷ map (due_entry lane m) ds)
  pub lines : length (lines_of (map (due_entry lane m) ds)) ≤ 1
  pub prepared : PreparesEnd (past_of c) lane window
  pub states : AreOfWindow window ds
  pub are : AreDue (setting_of d) lane m ds os

has_states : (d e : Ledger) (n : ℕ) (window : Option ℕ) → IfSome window (IsPrepared d n) → ((k w : ℕ) → HasState d k w → HasState e k w) → IfSome window (λ w. HasState e n w)
has_states d e n None prepared stays = tt
has_states d e n (Some w) prepared stays = stays n w prepared.state

end_decides : (c d : Ledger) (lane : LaneId) (reply : Reply) (verdict : Verdict) (window : Option ℕ) (m : ℕ) (ds : List Due) (os : List Owed) → Ends c d lane reply verdict window m ds os
    → Decides c d [] (end_act lane reply verdict m ∷ os)
end_decides c d lane reply verdict window m ds os x =
    let es = map (due_entry lane m) ds in
    let entries = dues_entries (setting_of d) lane m ds os x.are in
    let cost = dues_cost (setting_of d) lane m ds os x.are in
    let legal = own_legal (setting_of c) (entry.Ended lane reply m ∷ past_of c) x.may.0 in
    record {
      same = x.same;
      room = (let r = x.room in record { room = (let q = r.room in omega (arith, q, cost)); short = (let q = r.short in omega (arith, q, cost)) });
      payable = (
        (moved c d (λ (s : Setting) (h : List Entry). verdict ≡ verdict_after s h lane reply) x.same x.ruled, x.prepared d x.same.keeps x.same.past x.memory),
        λ e added. dues_payable (setting_of d) e lane m window ds os x.are x.states (has_states d e lane.shard window x.memory added.stays),
      );
      may = subst (λ (rest : List Entry). MayAdd (setting_of c) (past_of c) [] (entry.Ended lane reply m ∷ rest)) (sym entries) (may_add (setting_of c) (past_of c) (entry.Ended lane reply m ∷ es) x.may);
      written = (record { payload = refl; short = tt; line = tt; in_time = legal.1.0.within }, subst (λ (s : Setting). AreWritten s os) x.same.setting (dues_written (setting_of d) lane m ds os x.are));
      lines = subst (λ (rest : List Entry). length (lines_of rest) ≤ 1) (sym entries) x.lines;
      bounds = x.sound.bounds;
    }

pub end_decided : (v : CoreView) (x : Inside) (d : Ledger) (ys : Vec Owed Global) (lane : LaneId) (reply : Reply) (verdict : Verdict) (window : Option ℕ) (m : ℕ) (ds : List Due) (os : List Owed)
    → Begins v x → Ends x.ledger d lane reply verdict window m ds os → reverse ys.items ≡ end_act lane reply verdict m ∷ os
    → Decided v (record x { ledger = d; owed = ys }) [] (entry.Ended lane reply m ∷ map (due_entry lane m) ds)
end_decided v x d ys lane reply verdict window m ds os b ends order =
    let entries = dues_entries (setting_of d) lane m ds os ends.are in
    subst (λ (es : List Entry). Decided v (record x { ledger = d; owed = ys }) [] (entry.Ended lane reply m ∷ es)) entries
    (decided v x d x.coming ys [] (end_act lane reply verdict m ∷ os) b (ap reverse (begun_empty v x b).coming) order (end_decides x.ledger d lane reply verdict window m ds os ends)
    (tt, subst BringNone (sym entries) (dues_none lane m ds)))
