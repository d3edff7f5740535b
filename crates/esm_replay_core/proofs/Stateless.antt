-- A run of a replay is one whatever window states the journal told of: a replay has no windows.
use Rattle.std.proofs.Common.{◌≡◌, ℕ, List, [], ◌∷◌, refl, sym, ap, ◌∙◌, Some, None}
use Rattle.esm_model.specs.declared.lane.LaneId.{LaneId}
use Rattle.esm_model.specs.declared.entry.Entry.{Entry}
use Rattle.esm_model.specs.declared.entry.Entry.TheVariants.{Came, Began, Ended, Gave, Tried, Closed, Replayed, Shut}
use Rattle.esm_replay_model.specs.ReplaySetting.{ReplaySetting, named_places}
use Rattle.esm_replay_model.specs.Pieces.{ReplayPiece, ahead, rising_shards, named_pieces, next_call, pieces_after_call}
use Rattle.esm_replay_model.specs.ReplayRun.{replay_lane, call_out, owed_replay, pieces_left, MayBeginReplay, MayEndReplay, MayReplay, IsReplay}

abbrev pub stateless : ReplaySetting → ReplaySetting
stateless s = record s { base = record s.base { states = [] } }

named_alike : (s : ReplaySetting) (ns : List ℕ) → named_pieces (stateless s) ns ≡ named_pieces s ns
named_alike s [] = refl
named_alike s (n ∷ ns) = ap (λ (ps : List ReplayPiece). ahead n (named_places s n) ps) (named_alike s ns)

left_alike : (s : ReplaySetting) (h : List Entry) → pieces_left (stateless s) h ≡ pieces_left s h
left_alike s [] = named_alike s (rising_shards s.base.streams)
left_alike s (Ended lane reply m ∷ h) = ap (λ (ps : List ReplayPiece). pieces_after_call s (call_out h) reply ps) (left_alike s h)
left_alike s (Came shard first count m ∷ h) = left_alike s h
left_alike s (Began lane places closing m ∷ h) = left_alike s h
left_alike s (Gave by shard places f line state m ∷ h) = left_alike s h
left_alike s (Tried lane places closing tries m ∷ h) = left_alike s h
left_alike s (Closed lane window m ∷ h) = left_alike s h
left_alike s (Replayed shard places m ∷ h) = left_alike s h
left_alike s (Shut m ∷ h) = left_alike s h

next_alike : (s : ReplaySetting) (ps : List ReplayPiece) → next_call (stateless s) ps ≡ next_call s ps
next_alike s [] = refl
next_alike s (p ∷ ps) = refl

call_alike : (s : ReplaySetting) (h : List Entry) → next_call (stateless s) (pieces_left (stateless s) h) ≡ next_call s (pieces_left s h)
call_alike s h = next_alike s (pieces_left (stateless s) h) ∙ ap (next_call s) (left_alike s h)

owed_alike : (s : ReplaySetting) (h : List Entry) → owed_replay (stateless s) h ≡ owed_replay s h
owed_alike s [] = refl
owed_alike s (Ended lane reply m ∷ h) = refl
owed_alike s (Came shard first count m ∷ h) = refl
owed_alike s (Began lane places closing m ∷ h) = refl
owed_alike s (Gave by shard places f line state m ∷ h) = refl
owed_alike s (Tried lane places closing tries m ∷ h) = refl
owed_alike s (Closed lane window m ∷ h) = refl
owed_alike s (Replayed shard places m ∷ h) = refl
owed_alike s (Shut m ∷ h) = refl

begins_alike : (s : ReplaySetting) (h : List Entry) (lane : LaneId) (places : List ℕ) → MayBeginReplay s h lane places → MayBeginReplay (stateless s) h lane places
begins_alike s h lane places may = record {
  rests = may.rests;
  paid = ap (λ (p : ReplayPiece). p.places) (owed_alike s h) ∙ may.paid;
  calls_left = may.calls_left;
  lane_is = may.lane_is ∙ ap (λ (p : ReplayPiece). replay_lane p.shard) (sym (call_alike s h));
  exact = may.exact ∙ ap (λ (p : ReplayPiece). p.places) (sym (call_alike s h));
  some = may.some;
}

ends_alike : (s : ReplaySetting) (h : List Entry) (lane : LaneId) → MayEndReplay s h lane → MayEndReplay (stateless s) h lane
ends_alike s h lane may = record { lane_is = may.lane_is; runs = may.runs }

replays_alike : (s : ReplaySetting) (h : List Entry) (shard : ℕ) (places : List ℕ) (m : ℕ) → MayReplay s h shard places m → MayReplay (stateless s) h shard places m
replays_alike s h shard places m may = record {
  shard_is = may.shard_is ∙ ap (λ (p : ReplayPiece). p.shard) (sym (owed_alike s h));
  exact = may.exact ∙ ap (λ (p : ReplayPiece). p.places) (sym (owed_alike s h));
  some = may.some;
  same_moment = may.same_moment;
}

pub run_stateless : (s : ReplaySetting) (h : List Entry) → IsReplay s h → IsReplay (stateless s) h
run_stateless s [] run = tt
run_stateless s (Began lane places None m ∷ h) run = (run_stateless s h run.0, (run.1.0, begins_alike s h lane places run.1.1))
run_stateless s (Began lane places (Some window) m ∷ h) run = absurd run.1.1
run_stateless s (Ended lane reply m ∷ h) run = (run_stateless s h run.0, (run.1.0, ends_alike s h lane run.1.1))
run_stateless s (Replayed shard places m ∷ h) run = (run_stateless s h run.0, (run.1.0, replays_alike s h shard places m run.1.1))
run_stateless s (Came shard first count m ∷ h) run = absurd run.1.1
run_stateless s (Gave by shard places f line state m ∷ h) run = absurd run.1.1
run_stateless s (Tried lane places closing tries m ∷ h) run = absurd run.1.1
run_stateless s (Closed lane window m ∷ h) run = absurd run.1.1
run_stateless s (Shut m ∷ h) run = absurd run.1.1
