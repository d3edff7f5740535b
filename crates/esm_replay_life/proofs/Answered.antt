-- Each payload that a replay left names what an answer in its log counts as succeeded. Only this crate's proofs cite this.
use Rattle.std.proofs.Common.{◌≡◌, ℕ, ◌≤◌, List, [], ◌∷◌, ◌++◌, length, refl, sym, ap, ◌∙◌, subst, arith, append-nil, append_assoc, Option, Some, None}
use Rattle.std.specs.Prelude.{filter_map, reverse}
use Rattle.std.specs.List.{cons_option}
use Rattle.std.proofs.lemmas.List.{reverse-append, reverse-reverse}
use Rattle.esm_model.specs.declared.called.Called.{Called}
use Rattle.esm_model.specs.declared.entry.Reply.{Reply}
use Rattle.esm_model.specs.declared.entry.Entry.{Entry}
use Rattle.esm_model.specs.declared.entry.Entry.TheVariants.{Came, Began, Ended, Gave, Tried, Closed, Replayed, Shut}
use Rattle.esm_model.specs.Setting.{sequences_at}
use Rattle.esm_journal_record.specs.declared.said.Said.TheVariants as said
use Rattle.esm_journal_record.specs.Payload.{payload_of}
use Rattle.esm_journal_record.specs.Parsing.{said_of}
use Rattle.esm_journal_record.specs.EntryPayload.{entry_payload, AllMayBeSaid}
use Rattle.esm_journal_record.proofs.Payloads.{said_again}
use Rattle.esm_replay_model.specs.ReplaySetting.{ReplaySetting, config_of}
use Rattle.esm_replay_model.specs.Pieces.{piece, replay_event}
use Rattle.esm_replay_model.specs.ReplayRun.{replay_lane, call_out, IsReplay, replay_calls}
use Rattle.esm_replay_model.specs.ReplayLaws.{IsAnswered}
use Rattle.esm_replay_model.proofs.Runs.{front_at, replayed_as_answered}
use Rattle.esm_replay_life.specs.ReplayLife.{ReplayRun, IsReplayRunOver, IsLogged, IsOfAnswer, EachIsAnswered}
use Rattle.esm_replay_life.proofs.Fronts.{Recorded, recorded_of, said_front}

-- the entry whose payload it is

record EntryOf (f : Entry → Option (List ℕ)) (es : List Entry) (payload : List ℕ) : Type 0 where
  front : List Entry
  own : Entry
  back : List Entry
  split : es ≡ front ++ own ∷ back
  exact : f own ≡ Some payload

behind : (f : Entry → Option (List ℕ)) (e : Entry) (es : List Entry) (payload : List ℕ) → EntryOf f es payload → EntryOf f (e ∷ es) payload
behind f e es payload of = record { front = e ∷ of.front; own = of.own; back = of.back; split = ap (λ (xs : List Entry). e ∷ xs) of.split; exact = of.exact }

found_by : (f : Entry → Option (List ℕ)) (e : Entry) (es : List Entry) (payload : List ℕ) (front back : List (List ℕ)) (o : Option (List ℕ)) → f e ≡ o
    → ((xs : List (List ℕ)) → filter_map f es ≡ xs ++ payload ∷ back → EntryOf f es payload) → cons_option o (filter_map f es) ≡ front ++ payload ∷ back → EntryOf f (e ∷ es) payload
found_by f e es payload front back None at further is = behind f e es payload (further front is)
found_by f e es payload [] back (Some q) at further is =
    let same : q ≡ payload = cc in
    record { front = []; own = e; back = es; split = refl; exact = at ∙ ap (λ (p : List ℕ). Some p) same }
found_by f e es payload (p ∷ front) back (Some q) at further is =
    let rest : filter_map f es ≡ front ++ payload ∷ back = cc in
    behind f e es payload (further front rest)

entry_of : (f : Entry → Option (List ℕ)) (es : List Entry) (payload : List ℕ) (front back : List (List ℕ)) → filter_map f es ≡ front ++ payload ∷ back → EntryOf f es payload
entry_of f [] payload [] back is = absurd (cc)
entry_of f [] payload (p ∷ front) back is = absurd (cc)
entry_of f (e ∷ es) payload front back is = found_by f e es payload front back (f e) refl (λ xs now. entry_of f es payload xs back now) is

turned : (es front : List Entry) (own : Entry) (back : List Entry) → es ≡ front ++ own ∷ back → reverse es ≡ reverse back ++ own ∷ reverse front
turned es front own back is =
    ap reverse is
    ∙ (reverse-append front (own ∷ back)
    ∙ (ap (λ (xs : List Entry). xs ++ reverse front) (reverse-append (own ∷ []) back)
    ∙ append_assoc (reverse back) (own ∷ []) (reverse front)))

-- the log

-- it grows only at its end
log_grows : (s : ReplaySetting) (sends : List ℕ → List ℕ) (later h : List Entry) → (more : List Called) × (replay_calls s sends (later ++ h) ≡ replay_calls s sends h ++ more)
log_grows s sends [] h = ([], sym (append-nil (replay_calls s sends h)))
log_grows s sends (Ended lane reply m ∷ later) h =
    let was = log_grows s sends later h in
    let call : Called = record { name = (config_of s).function; event = sends (replay_event s (call_out (later ++ h))); reply = reply } in
    (was.0 ++ call ∷ [], ap (λ (cs : List Called). cs ++ call ∷ []) was.1 ∙ append_assoc (replay_calls s sends h) was.0 (call ∷ []))
log_grows s sends (Began lane places closing m ∷ later) h = log_grows s sends later h
log_grows s sends (Replayed shard places m ∷ later) h = log_grows s sends later h
log_grows s sends (Came shard first count m ∷ later) h = log_grows s sends later h
log_grows s sends (Gave by shard places f line state m ∷ later) h = log_grows s sends later h
log_grows s sends (Tried lane places closing tries m ∷ later) h = log_grows s sends later h
log_grows s sends (Closed lane window m ∷ later) h = log_grows s sends later h
log_grows s sends (Shut m ∷ later) h = log_grows s sends later h

-- what stands before an entry happened, where one at most is in hand
before_hand : (hand h later : List Entry) (e : Entry) (before : List Entry) → length hand ≤ 1 → hand ++ h ≡ later ++ e ∷ before → (front : List Entry) × (h ≡ front ++ before)
before_hand [] h later e before few is = (later ++ e ∷ [], is ∙ sym (append_assoc later (e ∷ []) before))
before_hand (x ∷ []) h [] e before few is = (let same : h ≡ before = cc in ([], same))
before_hand (x ∷ []) h (y ∷ later) e before few is = (let same : h ≡ later ++ e ∷ before = cc in (later ++ e ∷ [], same ∙ sym (append_assoc later (e ∷ []) before)))
before_hand (x ∷ y ∷ hand) h later e before few is = absurd (omega arith)

logged : (r : ReplayRun) (front : List Entry) (shard : ℕ) (batch : List ℕ) (reply : Reply) (ended began : ℕ) (earlier : List Entry) → r.happened ≡ front ++ Ended (replay_lane shard) reply ended ∷ Began (replay_lane shard) batch None began ∷ earlier
    → (sends : List ℕ → List ℕ) → IsLogged r (piece shard batch) reply sends
logged r front shard batch reply ended began earlier is sends =
    let before : List Entry = Began (replay_lane shard) batch None began ∷ earlier in
    let call : Called = record { name = (config_of r.setting).function; event = sends (replay_event r.setting (piece shard batch)); reply = reply } in
    let grown = log_grows r.setting sends front (Ended (replay_lane shard) reply ended ∷ Began (replay_lane shard) batch None began ∷ earlier) in
    record {
      front = replay_calls r.setting sends earlier;
      back = grown.0;
      log = ap (replay_calls r.setting sends) is ∙ (grown.1 ∙ append_assoc (replay_calls r.setting sends earlier) (call ∷ []) grown.0);
    }

-- a payload is one of kind 7

of_replayed : (r : ReplayRun) (old : List (List ℕ)) (payload : List ℕ) (later : List Entry) (shard : ℕ) (places : List ℕ) (m : ℕ) (before : List Entry) → IsReplayRunOver r old → r.hand ++ r.happened ≡ later ++ Replayed shard places m ∷ before
    → entry_payload r.setting.base (Replayed shard places m) ≡ Some payload → IsOfAnswer r payload
of_replayed r old payload later shard places m before is split exact =
    let s = r.setting in
    let a : IsAnswered r.setting shard places before = replayed_as_answered r.setting (r.hand ++ r.happened) is.hand_is_run later before shard places m split in
    let there = before_hand r.hand r.happened later (Replayed shard places m) before is.in_hand split in
    let call : r.happened ≡ there.0 ++ Ended (replay_lane shard) a.reply a.ended ∷ Began (replay_lane shard) a.batch None a.began ∷ a.earlier = there.1 ∙ ap (λ (es : List Entry). there.0 ++ es) a.call in
    let may = (said_front r.setting.base later (Replayed shard places m ∷ before) (subst (AllMayBeSaid r.setting.base) split is.may_be_said)).1 in
    let is_payload : payload_of (said.Replayed shard m places (sequences_at r.setting.base shard places)) ≡ payload = cc in
    record {
      call = piece shard a.batch;
      reply = a.reply;
      moment = m;
      logged = logged r there.0 shard a.batch a.reply a.ended a.began a.earlier call;
      names = ap said_of (sym is_payload) ∙ (said_again (said.Replayed shard m places (sequences_at r.setting.base shard places)) may ∙ ap (λ (xs : List ℕ). Some (said.Replayed shard m xs (sequences_at r.setting.base shard xs))) a.exact);
    }

of_entry : (r : ReplayRun) (old : List (List ℕ)) (payload : List ℕ) (later : List Entry) (e : Entry) (before : List Entry) → IsReplayRunOver r old → IsReplay r.setting (e ∷ before) → r.hand ++ r.happened ≡ later ++ e ∷ before
    → entry_payload r.setting.base e ≡ Some payload → IsOfAnswer r payload
of_entry r old payload later (Replayed shard places m) before is run split exact = of_replayed r old payload later shard places m before is split exact
of_entry r old payload later (Began lane places None m) before is run split exact = absurd (cc)
of_entry r old payload later (Began lane places (Some window) m) before is run split exact = absurd run.1.1
of_entry r old payload later (Ended lane reply m) before is run split exact = absurd (cc)
of_entry r old payload later (Came shard first count m) before is run split exact = absurd run.1.1
of_entry r old payload later (Gave by shard places f line state m) before is run split exact = absurd run.1.1
of_entry r old payload later (Tried lane places closing tries m) before is run split exact = absurd run.1.1
of_entry r old payload later (Closed lane window m) before is run split exact = absurd run.1.1
of_entry r old payload later (Shut m) before is run split exact = absurd run.1.1

pub each_answered : (r : ReplayRun) (old : List (List ℕ)) → IsReplayRunOver r old → EachIsAnswered r
each_answered r old is front back payload at =
    let kept : Recorded r = recorded_of r old is in
    let of = entry_of (entry_payload r.setting.base) (reverse kept.recorded) payload front back (sym kept.left ∙ at) in
    let recorded : kept.recorded ≡ reverse of.back ++ of.own ∷ reverse of.front = sym (reverse-reverse kept.recorded) ∙ turned (reverse kept.recorded) of.front of.own of.back of.split in
    let split : r.hand ++ r.happened ≡ (kept.lost ++ reverse of.back) ++ of.own ∷ reverse of.front = kept.split ∙ (ap (λ (es : List Entry). kept.lost ++ es) recorded ∙ sym (append_assoc kept.lost (reverse of.back) (of.own ∷ reverse of.front))) in
    let run : IsReplay r.setting (of.own ∷ reverse of.front) = front_at r.setting (r.hand ++ r.happened) (kept.lost ++ reverse of.back) (of.own ∷ reverse of.front) is.hand_is_run split in
    of_entry r old payload (kept.lost ++ reverse of.back) of.own (reverse of.front) is run split of.exact
