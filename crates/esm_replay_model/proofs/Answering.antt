-- The answers to the calls of a run: what they count as succeeded is replayed next, and each stands in the caller's log.
use Rattle.std.proofs.Common.{◌≡◌, ℕ, ◌+◌, ◌≤◌, List, [], ◌∷◌, ◌++◌, length, refl, ap, ◌∙◌, arith, Some, None}
use Rattle.std.proofs.lemmas.List.{length-append}
use Rattle.esm_model.specs.declared.called.Called.{Called}
use Rattle.esm_model.specs.declared.lane.LaneId.{LaneId}
use Rattle.esm_model.specs.declared.entry.Reply.{Reply}
use Rattle.esm_model.specs.declared.entry.Entry.{Entry}
use Rattle.esm_model.specs.declared.entry.Entry.TheVariants.{Came, Began, Ended, Gave, Tried, Closed, Replayed, Shut}
use Rattle.esm_model.specs.Entries.{calls_begun}
use Rattle.esm_replay_model.specs.ReplaySetting.{ReplaySetting, config_of}
use Rattle.esm_replay_model.specs.Pieces.{replay_event, succeeded_of}
use Rattle.esm_replay_model.specs.ReplayRun.{call_out, MayReplay, IsReplay, replay_calls}
use Rattle.esm_replay_model.specs.ReplayLaws.{SucceededAreReplayed, CallsLogged}
use Rattle.esm_replay_model.proofs.Runs.{front_at, flag, flag_some, rests}

-- what follows an answer by which some succeeded

none_succeeded : (s : ReplaySetting) (before : List Entry) (reply : Reply) → 1 ≤ length (succeeded_of s (call_out before) reply).places → (succeeded_of s (call_out before) reply).places ≡ [] → ⊥
none_succeeded s before reply some none = let empty : length (succeeded_of s (call_out before) reply).places ≡ 0 = ap length none in absurd (omega arith)

next_is : (s : ReplaySetting) (before : List Entry) (e : Entry) (lane : LaneId) (reply : Reply) (m : ℕ) → IsReplay s (e ∷ Ended lane reply m ∷ before) → 1 ≤ length (succeeded_of s (call_out before) reply).places
    → e ≡ Replayed (call_out before).shard (succeeded_of s (call_out before) reply).places m
next_is s before (Replayed shard places w) lane reply m run some =
    let may : MayReplay s (Ended lane reply m ∷ before) shard places w = run.1.1 in
    ap (λ (n : ℕ). Replayed n places w) may.shard_is
    ∙ (ap (λ (xs : List ℕ). Replayed (call_out before).shard xs w) may.exact
    ∙ ap (λ (k : ℕ). Replayed (call_out before).shard (succeeded_of s (call_out before) reply).places k) may.same_moment)
next_is s before (Began at xs None w) lane reply m run some = absurd (none_succeeded s before reply some run.1.1.paid)
next_is s before (Began at xs (Some window) w) lane reply m run some = absurd run.1.1
next_is s before (Ended at r w) lane reply m run some = let out : 1 ≤ 0 = run.1.1.runs in absurd (omega arith)
next_is s before (Came shard first count w) lane reply m run some = absurd run.1.1
next_is s before (Gave by shard places f line state w) lane reply m run some = absurd run.1.1
next_is s before (Tried at places closing tries w) lane reply m run some = absurd run.1.1
next_is s before (Closed at window w) lane reply m run some = absurd run.1.1
next_is s before (Shut w) lane reply m run some = absurd run.1.1

pub succeeded : (s : ReplaySetting) (h : List Entry) → IsReplay s h → SucceededAreReplayed s h
succeeded s h run later before e lane reply m is some = next_is s before e lane reply m (front_at s h later (e ∷ Ended lane reply m ∷ before) run is) some

-- the log has the calls that ended, and one may be out

module _ (s : ReplaySetting) (sends : List ℕ → List ℕ) where
  counted : (h : List Entry) → IsReplay s h → length (replay_calls s sends h) + flag (call_out h).places ≡ calls_begun h
  counted [] run = refl
  counted (Began lane places None m ∷ h) run =
      let before : length (replay_calls s sends h) + flag (call_out h).places ≡ calls_begun h = counted h run.0 in
      let rested : flag (call_out h).places ≡ 0 = ap flag run.1.1.rests in
      let out : flag places ≡ 1 = flag_some places run.1.1.some in
      omega arith
  counted (Began lane places (Some window) m ∷ h) run = absurd run.1.1
  counted (Ended lane reply m ∷ h) run =
      let before : length (replay_calls s sends h) + flag (call_out h).places ≡ calls_begun h = counted h run.0 in
      let out : flag (call_out h).places ≡ 1 = flag_some (call_out h).places run.1.1.runs in
      let call : Called = record { name = (config_of s).function; event = sends (replay_event s (call_out h)); reply = reply } in
      let longer : length (replay_calls s sends h ++ call ∷ []) ≡ length (replay_calls s sends h) + 1 = length-append (replay_calls s sends h) (call ∷ []) in
      omega arith
  counted (Replayed shard places m ∷ h) run =
      let before : length (replay_calls s sends h) + flag (call_out h).places ≡ calls_begun h = counted h run.0 in
      let rested : flag (call_out h).places ≡ 0 = rests s h shard places m run.1.1 in
      omega arith
  counted (Came shard first count m ∷ h) run = absurd run.1.1
  counted (Gave by shard places f line state m ∷ h) run = absurd run.1.1
  counted (Tried lane places closing tries m ∷ h) run = absurd run.1.1
  counted (Closed lane window m ∷ h) run = absurd run.1.1
  counted (Shut m ∷ h) run = absurd run.1.1

pub logged : (s : ReplaySetting) (sends : List ℕ → List ℕ) (h : List Entry) → IsReplay s h → CallsLogged s sends h
logged s sends h run none =
    let all : length (replay_calls s sends h) + flag (call_out h).places ≡ calls_begun h = counted s sends h run in
    let rested : flag (call_out h).places ≡ 0 = ap flag none in
    omega arith
