-- What is kept of a core stays true where it decides on the end of a call.
use Rattle.std.proofs.Common.{◌≡◌, ℕ, ◌+◌, ◌<◌, ◌≤◌, ◌^◌, List, [], ◌∷◌, ◌++◌, length, take, reverse, refl, sym, ap, ap₂, ◌∙◌, subst, arith, Option, Some, None}
use Rattle.std.specs.Prelude.{max, min}
use Rattle.std.specs.List.{All, list_all}
use Rattle.std.proofs.lemmas.List.{length-take-le}
use Rattle.esm_model.specs.declared.limits.TheConstants.{MAX_BATCH}
use Rattle.esm_model.specs.declared.moment.TheConstants.{MAX_MOMENT}
use Rattle.esm_model.specs.declared.config.Config.{Config}
use Rattle.esm_model.specs.Records.{Record}
use Rattle.esm_model.specs.declared.lane.LaneId.{LaneId}
use Rattle.esm_model.specs.declared.book.Job.{Job}
use Rattle.esm_model.specs.declared.entry.Reply.{Reply}
use Rattle.esm_model.specs.declared.entry.Entry.{Entry}
use Rattle.esm_model.specs.declared.entry.Entry.TheVariants as entry
use Rattle.esm_model.specs.declared.verdict.Verdict.{Verdict}
use Rattle.esm_model.specs.Sequence.{is_sequence}
use Rattle.esm_model.specs.Setting.{sequences_at}
use Rattle.esm_model.specs.Step.{IsLater}
use Rattle.esm_journal_record.specs.EntryPayload.{entry_payload}
use Rattle.esm_journal_record.specs.Payload.{payload_of, IsSaid}
use Rattle.esm_journal_record.specs.declared.said.Said.TheVariants as said
use Rattle.esm_replay_model.specs.ReplaySetting.{config_of}
use Rattle.esm_replay_model.specs.Pieces.{ReplayPiece, replay_verdict}
use Rattle.esm_replay_model.specs.ReplayRun.{replay_lane, call_out, owed_replay, IsReplay}
use Rattle.esm_replay.specs.Waiting.{Waiting, NamedPiece, seen_pieces, front_of, IsPlaced}
use Rattle.esm_replay.specs.Ending.{front_call, ArePartsOf}
use Rattle.esm_replay_core.specs.declared.owed.Owed.TheVariants.{Ended}
use Rattle.esm_replay_core.specs.declared.owed.Owed.{Owed}
use Rattle.esm_replay_core.specs.declared.owed.Replay.{Replay}
use Rattle.esm_replay_core.specs.declared.ending.Ending.{Ending}
use Rattle.esm_replay_core.specs.View.{IsJobOut}
use Rattle.esm_replay_core.specs.Deciding.{replayed_entries, done_entries, done_count}
use Rattle.esm_replay_core.specs.Ending.{verdict_by, IsReplayOf, MayEnd, IsEnding}
use Rattle.esm_replay_core.specs.Choosing.{IsWaitingFor}
use Rattle.esm_replay_core.specs.Owing.{replay_entries, replay_entry}
use Rattle.esm_replay_core.specs.Kept.{Parts, IsKept, AreWritten, own, seen_of}
use Rattle.esm_replay_core.proofs.Fronts.{IsFront, front_out, names_long, few_in_batch}
use Rattle.esm_replay_core.proofs.Saying.{verdict_is, verdict_within, ended_run, replayed_run, said_first, all_spelled}
use Rattle.esm_replay_core.proofs.Standing.{within_bounds}
use Rattle.esm_replay_core.proofs.Keeping.{IsDecided, deciding, kept_deciding, later_of}

replayed_some : (n m : ℕ) (places : List ℕ) → 1 ≤ length places → replayed_entries n places m ≡ entry.Replayed n places m ∷ []
replayed_some n m [] some = absurd (omega arith)
replayed_some n m (i ∷ places) some = refl

-- the end of the call that is out
pub record IsEndOf (p : Parts) (w : Waiting) (reply : Reply) (m : ℕ) : Type 0 where
  pub some : 1 ≤ length (call_out p.past).places
  pub waits : IsWaitingFor (own p) p.known p.past (Some w)
  pub front : IsFront (own p) w.pieces (call_out p.past)
  pub names_are : p.names ≡ sequences_at (own p).base (call_out p.past).shard (call_out p.past).places
  pub long : length p.names ≡ length (call_out p.past).places
  pub ruled : verdict_by p.opened.config p.names reply ≡ replay_verdict (own p) (call_out p.past) reply
  pub within : (replay_verdict (own p) (call_out p.past) reply).succeeded ≤ length (call_out p.past).places
  pub later : IsLater p.past m

pub end_of : (p : Parts) (w : Waiting) (job : Job) (reply : Reply) (m moment : ℕ) → IsKept p → p.waiting ≡ Some w → IsJobOut p.past job → m ≡ min (max moment p.last) MAX_MOMENT → IsEndOf p w reply m
end_of p w job reply m moment k waits_is out now =
    let call : ReplayPiece = call_out p.past in
    let some : 1 ≤ length call.places = subst (λ (xs : List ℕ). 1 ≤ length xs) out.places out.some in
    let waits : IsWaitingFor (own p) p.known p.past (Some w) = subst (IsWaitingFor (own p) p.known p.past) waits_is k.waiting in
    let front : IsFront (own p) w.pieces call = front_out (own p) p.past w.pieces k.run some waits.0 in
    let names_are : p.names ≡ sequences_at (own p).base call.shard call.places = k.names_are some in
    let long : length p.names ≡ length call.places = ap (λ (xs : List (List ℕ)). length xs) names_are ∙ names_long (own p) p.known w.pieces call front some waits.1 in
    let ruled : verdict_by p.opened.config p.names reply ≡ replay_verdict (own p) call reply = verdict_is (own p) p.opened.config p.names call reply k.own_config names_are long in
    let low : (verdict_by p.opened.config p.names reply).succeeded ≤ length p.names = verdict_within p.opened.config p.names reply in
    record {
      some = some;
      waits = waits;
      front = front;
      names_are = names_are;
      long = long;
      ruled = ruled;
      within = subst (λ (v : Verdict). v.succeeded ≤ length call.places) ruled (subst (λ (n : ℕ). (verdict_by p.opened.config p.names reply).succeeded ≤ n) long low);
      later = later_of p m moment k now;
    }

-- what is replayed of it
record IsReplayed (p : Parts) (reply : Reply) (m : ℕ) (d : Option Replay) : Type 0 where
  entries : replay_entries d ≡ replayed_entries (call_out p.past).shard (take (replay_verdict (own p) (call_out p.past) reply).succeeded (call_out p.past).places) m
  run : IsReplay (own p) (replay_entries d ++ entry.Ended (replay_lane (call_out p.past).shard) reply m ∷ p.past)
  written : AreWritten (own p) d
  none_left : d ≡ None → (owed_replay (own p) (entry.Ended (replay_lane (call_out p.past).shard) reply m ∷ p.past)).places ≡ []

-- what succeeded, where something did
module _ (p : Parts) (w : Waiting) (reply : Reply) (m : ℕ) (k : IsKept p) (e : IsEndOf p w reply m) where
  few : length p.known < 2 ^ 32
  few = (let f = k.few in omega arith)

  any_run : 1 ≤ (replay_verdict (own p) (call_out p.past) reply).succeeded
      → IsReplay (own p) (entry.Replayed (call_out p.past).shard (take (replay_verdict (own p) (call_out p.past) reply).succeeded (call_out p.past).places) m ∷ entry.Ended (replay_lane (call_out p.past).shard) reply m ∷ p.past)
  any_run any =
      let places : List ℕ = take (replay_verdict (own p) (call_out p.past) reply).succeeded (call_out p.past).places in
      let taken : length places ≡ (replay_verdict (own p) (call_out p.past) reply).succeeded = length-take-le (replay_verdict (own p) (call_out p.past) reply).succeeded (call_out p.past).places e.within in
      replayed_run (own p) p.past reply m places k.run e.later e.some refl (omega (arith, taken, any))

  any_said : 1 ≤ (replay_verdict (own p) (call_out p.past) reply).succeeded
      → IsSaid (said.Replayed (call_out p.past).shard m (take (replay_verdict (own p) (call_out p.past) reply).succeeded (call_out p.past).places) (take (replay_verdict (own p) (call_out p.past) reply).succeeded p.names))
      × (take (replay_verdict (own p) (call_out p.past) reply).succeeded p.names ≡ sequences_at (own p).base (call_out p.past).shard (take (replay_verdict (own p) (call_out p.past) reply).succeeded (call_out p.past).places))
  any_said any =
      said_first p.opened p.known (entry.Ended (replay_lane (call_out p.past).shard) reply m ∷ p.past) (call_out p.past).shard (replay_verdict (own p) (call_out p.past) reply).succeeded (call_out p.past).places p.names m k.valid few e.within e.names_are (any_run any)

  pub few_out : length (call_out p.past).places ≤ MAX_BATCH
  few_out =
      let low : length (call_out p.past).places ≤ (config_of (own p)).batch_size = e.front.few in
      let same : (config_of (own p)).batch_size ≡ p.opened.config.batch_size = ap (λ (c : Config). c.batch_size) k.own_config in
      let high : p.opened.config.batch_size ≤ MAX_BATCH = few_in_batch p.opened.config k.config in
      omega arith

  may_end_out : MayEnd p.opened.config w p.names (call_out p.past).shard (call_out p.past).places reply m
  may_end_out = record {
    few = few_out;
    some = e.some;
    same = e.long;
    spelled = ap (list_all is_sequence) e.names_are ∙ all_spelled (own p).base (within_bounds p.opened p.known k.valid).valid (call_out p.past).shard (call_out p.past).places;
    within = e.front.within;
    said = subst (λ (v : Verdict). 1 ≤ v.succeeded → IsSaid (said.Replayed (call_out p.past).shard m (take v.succeeded (call_out p.past).places) (take v.succeeded p.names))) (sym e.ruled) (λ any. (any_said any).0);
  }

  pub may_end : (job : Job) → IsJobOut p.past job → MayEnd p.opened.config w p.names job.lane.shard job.places reply m
  may_end job out =
      let shard : job.lane.shard ≡ (call_out p.past).shard = ap (λ (l : LaneId). l.shard) out.lane in
      subst (λ (n : ℕ). MayEnd p.opened.config w p.names n job.places reply m) (sym shard)
      (subst (λ (xs : List ℕ). MayEnd p.opened.config w p.names (call_out p.past).shard xs reply m) (sym out.places) may_end_out)

  replayed : (d : Option Replay) → IsReplayOf (call_out p.past).shard m (take (replay_verdict (own p) (call_out p.past) reply).succeeded (call_out p.past).places) (take (replay_verdict (own p) (call_out p.past) reply).succeeded p.names) d → IsReplayed p reply m d
  replayed None is = record {
    entries = ap (λ (xs : List ℕ). replayed_entries (call_out p.past).shard xs m) (sym is);
    run = ended_run (own p) p.past reply m k.run e.later e.some;
    written = tt;
    none_left = λ same. is;
  }
  replayed (Some r) is =
      let n : ℕ = (call_out p.past).shard in
      let count : ℕ = (replay_verdict (own p) (call_out p.past) reply).succeeded in
      let places : List ℕ = take count (call_out p.past).places in
      let taken : length places ≡ count = length-take-le count (call_out p.past).places e.within in
      let some : 1 ≤ length places = is.0 in
      let any : 1 ≤ count = omega arith in
      let entry_is : replay_entry r ≡ entry.Replayed n places m = ap (λ (j : ℕ). entry.Replayed j r.places r.moment) is.1 ∙ ap (λ (xs : List ℕ). entry.Replayed n xs r.moment) is.2 ∙ ap (entry.Replayed n places) is.3 in
      let texts : take count p.names ≡ sequences_at (own p).base n places = (any_said any).1 in
      let later : IsLater p.past m = e.later in
      record {
        entries = ap (λ (x : Entry). x ∷ []) entry_is ∙ sym (replayed_some n m places is.0);
        run = subst (λ (x : Entry). IsReplay (own p) (x ∷ entry.Ended (replay_lane n) reply m ∷ p.past)) (sym entry_is) (any_run any);
        written = record {
          payload = ap (entry_payload (own p).base) entry_is ∙ ap (λ (xs : List (List ℕ)). Some (payload_of (said.Replayed n m places xs))) (sym texts) ∙ ap Some (sym is.4);
          short = is.5;
          in_time = subst (λ (j : ℕ). j ≤ MAX_MOMENT) (sym is.3) later.within;
        };
        none_left = λ same. absurd (cc);
      }

  -- the whole
  ended_out : (w' : Waiting) (capacity count : ℕ) (ending : Ending) → p.coming ≡ [] → w'.pieces ≡ w.pieces → 2 ≤ w'.room → length p.past + 2 ≤ capacity → count ≡ length (call_out p.past).places
      → IsEnding p.opened.config w p.names (call_out p.past).shard (call_out p.past).places reply m ending
      → IsDecided (deciding p (Some w') capacity (Ended (replay_lane (call_out p.past).shard) reply m count ending.parts ending.replay)) (seen_of p) (done_entries (own p) p.past (replay_lane (call_out p.past).shard) reply m)
  ended_out w' capacity count ending none same room wide count_is is =
      let lane : LaneId = replay_lane (call_out p.past).shard in
      let v : Verdict = replay_verdict (own p) (call_out p.past) reply in
      let owed : Owed = Ended lane reply m count ending.parts ending.replay in
      let given : IsReplayOf (call_out p.past).shard m (take v.succeeded (call_out p.past).places) (take v.succeeded p.names) ending.replay =
      subst (λ (x : Verdict). IsReplayOf (call_out p.past).shard m (take x.succeeded (call_out p.past).places) (take x.succeeded p.names) ending.replay) e.ruled is.replay in
      let done : IsReplayed p reply m ending.replay = replayed ending.replay given in
      let parted : ArePartsOf v (length (call_out p.past).places) w.pieces ending.parts = subst (λ (x : Verdict). ArePartsOf x (length (call_out p.past).places) w.pieces ending.parts) e.ruled is.parted in
      let later : IsLater p.past m = e.later in
      let front : IsFront (own p) w'.pieces (call_out p.past) = subst (λ (ps : List NamedPiece). IsFront (own p) ps (call_out p.past)) (sym same) e.front in
      let waits : IsWaitingFor (own p) p.known p.past (Some w') = (
        ap (λ (ps : List NamedPiece). seen_pieces ps) same ∙ e.waits.0,
        subst (λ (ps : List NamedPiece). All (IsPlaced (own p) p.known) ps) (sym same) e.waits.1,
      ) in
      record {
        kept = kept_deciding p (Some w') capacity owed k waits (record {
          none = none;
          in_time = later.within;
          room = wide;
          run = done.run;
          written = done.written;
          none_left = done.none_left;
          ends = record {
            waiting = w';
            waits = refl;
            room = room;
            within = subst (λ (j : ℕ). j ≤ length (front_of w'.pieces)) (sym count_is) front.within;
            call = ap (λ (j : ℕ). front_call j w'.pieces) count_is ∙ front.call_is;
            parted = subst (λ (j : ℕ). ArePartsOf v j w'.pieces ending.parts) (sym count_is) (subst (λ (ps : List NamedPiece). ArePartsOf v (length (call_out p.past).places) ps ending.parts) (sym same) parted);
          };
        });
        owes = ap₂ (λ (rs : List Record) (es : List Entry). record { opened = p.opened; records = p.known; past = p.past; coming = rs; owed = entry.Ended lane reply m ∷ es }) none done.entries;
        run = ran ending.replay done.run;
      }
    where
      ran : (d : Option Replay) → IsReplay (own p) (replay_entries d ++ entry.Ended (replay_lane (call_out p.past).shard) reply m ∷ p.past) → IsReplay (own p) (reverse (entry.Ended (replay_lane (call_out p.past).shard) reply m ∷ replay_entries d) ++ p.past)
      ran None run = run
      ran (Some r) run = run

  pub done_decided : (w' : Waiting) (capacity count : ℕ) (job : Job) (ending : Ending) → IsJobOut p.past job → p.coming ≡ [] → w'.pieces ≡ w.pieces → 2 ≤ w'.room → length p.past + 2 ≤ capacity → count ≡ length p.names
      → IsEnding p.opened.config w p.names job.lane.shard job.places reply m ending
      → IsDecided (deciding p (Some w') capacity (Ended job.lane reply m count ending.parts ending.replay)) (seen_of p) (done_entries (own p) p.past job.lane reply m)
  done_decided w' capacity count job ending out none same room wide count_is is =
      let shard : job.lane.shard ≡ (call_out p.past).shard = ap (λ (l : LaneId). l.shard) out.lane in
      let is' : IsEnding p.opened.config w p.names (call_out p.past).shard (call_out p.past).places reply m ending =
      subst (λ (n : ℕ). IsEnding p.opened.config w p.names n (call_out p.past).places reply m ending) shard
      (subst (λ (xs : List ℕ). IsEnding p.opened.config w p.names job.lane.shard xs reply m ending) out.places is) in
      subst (λ (l : LaneId). IsDecided (deciding p (Some w') capacity (Ended l reply m count ending.parts ending.replay)) (seen_of p) (done_entries (own p) p.past l reply m)) (sym out.lane)
      (ended_out w' capacity count ending none same room wide (count_is ∙ e.long) is')

  pub done_counts : (ending : Ending) (n : ℕ) (places : List ℕ) → IsEnding p.opened.config w p.names n places reply m ending → ending.succeeded ≡ done_count (own p) p.past reply
  done_counts ending n places is =
      is.count ∙ ap (λ (v : Verdict). v.succeeded) e.ruled ∙ sym (length-take-le (replay_verdict (own p) (call_out p.past) reply).succeeded (call_out p.past).places e.within)
