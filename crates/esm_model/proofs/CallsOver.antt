-- The calls of a batcher stay when the lists of records go on.
use Rattle.std.proofs.Common.{◌≡◌, ℕ, ◌≤◌, Bool, true, false, cond, List, [], ◌∷◌, ◌++◌, length, refl, sym, ap, ◌∙◌, subst, Some, None, arith}
use Rattle.std.specs.Prelude.{◌==◌}
use Rattle.esm_model.specs.Lane.{same_lane}
use Rattle.esm_model.specs.declared.lane.LaneId.{LaneId}
use Rattle.esm_model.specs.declared.called.Called.{Called}
use Rattle.esm_model.specs.declared.entry.Entry.{Entry}
use Rattle.esm_model.specs.declared.entry.Entry.TheVariants.{Came, Began, Ended, Gave, Tried, Closed, Replayed, Shut}
use Rattle.esm_model.specs.Setting.{Setting, Stream, over, Extends}
use Rattle.esm_model.specs.Entries.{batcher}
use Rattle.esm_model.specs.EventText.{event_text}
use Rattle.esm_model.specs.Calls.{event_of, last_event, calls, calls_since}
use Rattle.esm_model.specs.Step.{Legal, MayBegin, MayBeginFinal}
use Rattle.esm_model.specs.Laws.{CallsKeptOver, CallsSinceKeptOver}
use Rattle.esm_model.proofs.Sound.{same_lane-true}
use Rattle.esm_model.proofs.Histories.{began_In}
use Rattle.esm_model.proofs.Records.{SameRecords, same_records, same_before, covered_open, window_call_same, event_same}

began_same : (s : Setting) (after : List Stream) (h : List Entry) → SameRecords s after h → (lane : LaneId) (places : List ℕ) (m : ℕ) → MayBegin s h lane places m → event_of (over s after) h lane.shard places None ≡ event_of s h lane.shard places None
began_same s after h same lane [] m may = (let some : 1 ≤ length {A = ℕ} [] = may.some in absurd (omega (arith, some)))
began_same s after h same lane (x ∷ xs) m may = event_same s after h same lane.shard x xs (λ i member. covered_open s h lane i (began_In s h lane (x ∷ xs) m may i member))

final_same : (s : Setting) (after : List Stream) (h : List Entry) (lane : LaneId) (places : List ℕ) (w m : ℕ) → MayBeginFinal s h lane places w m → event_of (over s after) h lane.shard places (Some w) ≡ event_of s h lane.shard places (Some w)
final_same s after h lane places w m may =
    ap (λ xs. event_of (over s after) h lane.shard xs (Some w)) may.no_places
    ∙ ap (event_text s.config []) (window_call_same s after h lane.shard [] (Some w) refl)
    ∙ ap (λ xs. event_of s h lane.shard xs (Some w)) (sym may.no_places)

cond_same : (a : Bool) (x y v w : List ℕ) → (a ≡ true → x ≡ y) → v ≡ w → cond a x v ≡ cond a y w
cond_same true x y v w same e = same refl
cond_same false x y v w same e = e

last_event_same : (s : Setting) (after : List Stream) (h : List Entry) → SameRecords s after h → Legal s h → (lane : LaneId) → last_event (over s after) h lane ≡ last_event s h lane
last_event_same s after [] same legal lane = refl
last_event_same s after (Began at places None m ∷ h) same legal lane =
    cond_same (same_lane at lane) (event_of (over s after) h lane.shard places None) (event_of s h lane.shard places None) (last_event (over s after) h lane) (last_event s h lane)
    (λ is. began_same s after h same lane places m (subst (λ l. MayBegin s h l places m) (same_lane-true at lane is) legal.1.1))
    (last_event_same s after h same legal.0 lane)
last_event_same s after (Began at places (Some w) m ∷ h) same legal lane =
    cond_same (same_lane at lane) (event_of (over s after) h lane.shard places (Some w)) (event_of s h lane.shard places (Some w)) (last_event (over s after) h lane) (last_event s h lane)
    (λ is. final_same s after h lane places w m (subst (λ l. MayBeginFinal s h l places w m) (same_lane-true at lane is) legal.1.1))
    (last_event_same s after h same legal.0 lane)
last_event_same s after (Came k first count m ∷ h) same legal lane = last_event_same s after h (same_before s after (Came k first count m) h same) legal.0 lane
last_event_same s after (Ended at reply m ∷ h) same legal lane = last_event_same s after h same legal.0 lane
last_event_same s after (Gave by k places f line state m ∷ h) same legal lane = last_event_same s after h same legal.0 lane
last_event_same s after (Tried at places closing t m ∷ h) same legal lane = last_event_same s after h same legal.0 lane
last_event_same s after (Closed at w m ∷ h) same legal lane = last_event_same s after h same legal.0 lane
last_event_same s after (Replayed k places m ∷ h) same legal lane = last_event_same s after h same legal.0 lane
last_event_same s after (Shut m ∷ h) same legal lane = last_event_same s after h same legal.0 lane

calls_as : (s : Setting) (sends : List ℕ → List ℕ) (after : List Stream) (h : List Entry) (k : ℕ) → SameRecords s after h → Legal s h → calls (over s after) sends h k ≡ calls s sends h k
calls_as s sends after [] k same legal = refl
calls_as s sends after (Ended lane reply m ∷ h) k same legal =
    ap (λ text. cond (batcher s h lane == k) (calls (over s after) sends h k ++ record { name = s.config.function; event = sends text; reply = reply } ∷ []) (calls (over s after) sends h k)) (last_event_same s after h same legal.0 lane)
    ∙ ap (λ (cs : List Called). cond (batcher s h lane == k) (cs ++ record { name = s.config.function; event = sends (last_event s h lane); reply = reply } ∷ []) cs) (calls_as s sends after h k same legal.0)
calls_as s sends after (Came n first count m ∷ h) k same legal = calls_as s sends after h k (same_before s after (Came n first count m) h same) legal.0
calls_as s sends after (Began lane places closing m ∷ h) k same legal = calls_as s sends after h k same legal.0
calls_as s sends after (Gave by n places f line state m ∷ h) k same legal = calls_as s sends after h k same legal.0
calls_as s sends after (Tried lane places closing t m ∷ h) k same legal = calls_as s sends after h k same legal.0
calls_as s sends after (Closed lane w m ∷ h) k same legal = calls_as s sends after h k same legal.0
calls_as s sends after (Replayed n places m ∷ h) k same legal = calls_as s sends after h k same legal.0
calls_as s sends after (Shut m ∷ h) k same legal = calls_as s sends after h k same legal.0

pub calls_same : (s : Setting) (sends : List ℕ → List ℕ) (h : List Entry) (k : ℕ) (after : List Stream) → Extends s.streams after → Legal s h → CallsKeptOver s sends h k after
calls_same s sends h k after extends legal = calls_as s sends after h k (same_records s after h extends legal) legal

pub since_same : (s : Setting) (sends : List ℕ → List ℕ) (later before : List Entry) (k : ℕ) (after : List Stream) → Extends s.streams after → Legal s (later ++ before) → CallsSinceKeptOver s sends later before k after
since_same s sends [] before k after extends legal = refl
since_same s sends (Ended lane reply m ∷ later) before k after extends legal =
    ap (λ text. cond (batcher s (later ++ before) lane == k) (calls_since (over s after) sends later before k ++ record { name = s.config.function; event = sends text; reply = reply } ∷ []) (calls_since (over s after) sends later before k)) (last_event_same s after (later ++ before) (same_records s after (later ++ before) extends legal.0) legal.0 lane)
    ∙ ap (λ (cs : List Called). cond (batcher s (later ++ before) lane == k) (cs ++ record { name = s.config.function; event = sends (last_event s (later ++ before) lane); reply = reply } ∷ []) cs) (since_same s sends later before k after extends legal.0)
since_same s sends (Came n first count m ∷ later) before k after extends legal = since_same s sends later before k after extends legal.0
since_same s sends (Began lane places closing m ∷ later) before k after extends legal = since_same s sends later before k after extends legal.0
since_same s sends (Gave by n places f line state m ∷ later) before k after extends legal = since_same s sends later before k after extends legal.0
since_same s sends (Tried lane places closing t m ∷ later) before k after extends legal = since_same s sends later before k after extends legal.0
since_same s sends (Closed lane w m ∷ later) before k after extends legal = since_same s sends later before k after extends legal.0
since_same s sends (Replayed n places m ∷ later) before k after extends legal = since_same s sends later before k after extends legal.0
since_same s sends (Shut m ∷ later) before k after extends legal = since_same s sends later before k after extends legal.0
