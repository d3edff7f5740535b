-- A history that passes the tests is a run of the replay.
use Rattle.std.proofs.Common.{◌≡◌, ℕ, true, List, [], ◌∷◌, Some, None}
use Rattle.std.specs.Str.{bytes_eq}
use Rattle.std.proofs.lemmas.Bool.{and_parts, eqb-true, leb-true, ltb-true}
use Rattle.std.proofs.lemmas.Slice.Eq.{bytes_eq-Decides}
use Rattle.esm_model.specs.declared.lane.LaneId.{LaneId}
use Rattle.esm_model.specs.declared.entry.Entry.{Entry}
use Rattle.esm_model.specs.declared.entry.Entry.TheVariants.{Came, Began, Ended, Gave, Tried, Closed, Replayed, Shut}
use Rattle.esm_model.specs.Entries.{moment_of}
use Rattle.esm_model.specs.Step.{IsLater}
use Rattle.esm_model.proofs.Sound.{same_lane-true}
use Rattle.esm_replay_model.specs.ReplaySetting.{ReplaySetting}
use Rattle.esm_replay_model.specs.ReplayRun.{MayBeginReplay, MayEndReplay, MayReplay, ReplayMayFollow, IsReplay}
use Rattle.esm_replay_model.specs.ReplayTests.{is_later_moment, may_begin_replay, may_end_replay, may_replay, may_follow_replay, is_replay}

bytes_eq-true : (a b : List ℕ) → bytes_eq a b ≡ true → a ≡ b
bytes_eq-true a b h = (bytes_eq-Decides a b).0 h

later : (h : List Entry) (m : ℕ) → is_later_moment h m ≡ true → IsLater h m
later h m t = let parts = and_parts _ _ t in record { not_back = leb-true _ _ parts.0; within = leb-true _ _ parts.1 }

begin : (s : ReplaySetting) (h : List Entry) (lane : LaneId) (places : List ℕ) → may_begin_replay s h lane places ≡ true → MayBeginReplay s h lane places
begin s h lane places t =
    let p1 = and_parts _ _ t in
    let p2 = and_parts _ _ p1.1 in
    let p3 = and_parts _ _ p2.1 in
    let p4 = and_parts _ _ p3.1 in
    let p5 = and_parts _ _ p4.1 in
    record {
      rests = bytes_eq-true _ _ p1.0;
      paid = bytes_eq-true _ _ p2.0;
      calls_left = ltb-true _ _ p3.0;
      lane_is = same_lane-true _ _ p4.0;
      exact = bytes_eq-true _ _ p5.0;
      some = leb-true _ _ p5.1;
    }

ended : (s : ReplaySetting) (h : List Entry) (lane : LaneId) → may_end_replay h lane ≡ true → MayEndReplay s h lane
ended s h lane t = let parts = and_parts _ _ t in record { lane_is = same_lane-true _ _ parts.0; runs = leb-true _ _ parts.1 }

replay : (s : ReplaySetting) (h : List Entry) (shard : ℕ) (places : List ℕ) (m : ℕ) → may_replay s h shard places m ≡ true → MayReplay s h shard places m
replay s h shard places m t =
    let p1 = and_parts _ _ t in
    let p2 = and_parts _ _ p1.0 in
    let p3 = and_parts _ _ p2.0 in
    let p4 = and_parts _ _ p2.1 in
    record { shard_is = eqb-true _ _ p3.0; exact = bytes_eq-true _ _ p4.0; some = leb-true _ _ p4.1; same_moment = eqb-true _ _ p1.1 }

follows : (s : ReplaySetting) (h : List Entry) (e : Entry) → may_follow_replay s h e ≡ true → ReplayMayFollow s h e
follows s h (Came shard first count m) t = cc
follows s h (Began lane places None m) t = begin s h lane places t
follows s h (Began lane places (Some window) m) t = cc
follows s h (Ended lane reply m) t = ended s h lane t
follows s h (Gave by shard places f line state m) t = cc
follows s h (Tried lane places closing tries m) t = cc
follows s h (Closed lane window m) t = cc
follows s h (Replayed shard places m) t = replay s h shard places m t
follows s h (Shut m) t = cc

pub is_replay_sound : (s : ReplaySetting) (h : List Entry) → is_replay s h ≡ true → IsReplay s h
is_replay_sound s [] t = tt
is_replay_sound s (e ∷ h) t =
    let p1 = and_parts _ _ t in
    let p2 = and_parts _ _ p1.1 in
    (is_replay_sound s h p1.0, (later h (moment_of e) p2.0, follows s h e p2.1))
