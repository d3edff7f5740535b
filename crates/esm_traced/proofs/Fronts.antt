-- The replies that recorders kept are those of the history of the run.
use Rattle.std.proofs.Common.{◌≡◌, ◌∙◌, ◌<◌, ℕ, suc, Bool, true, false, List, [], ◌∷◌, length, map, refl, sym, ap, subst, Option, Some, None, Result, Ok, Err, arith, cond}
use Rattle.std.specs.Prelude.{IfOk, IfSome, is_ok, option_map}
use Rattle.std.specs.List.{All}
use Rattle.esm_input.specs.declared.ending.InputEnd.{InputEnd}
use Rattle.esm_model.specs.Calls.{calls}
use Rattle.esm_model.specs.Setting.{Setting}
use Rattle.esm_model.specs.declared.config.Config.{Config}
use Rattle.esm_model.specs.declared.config.Start.{Start}
use Rattle.esm_model.specs.declared.entry.Entry.{Entry}
use Rattle.esm_model.specs.declared.entry.Reply.{Reply}
use Rattle.esm_model.specs.declared.memory.OutOfMemory.{OutOfMemory}
use Rattle.esm_queue_model.specs.QueueBatch.{queue_calls}
use Rattle.esm_recorder.specs.Laws.{ListsTell, LogTells}
use Rattle.esm_recorder.specs.Recorder.{IsRecorder, RecorderState, all_kept, new_recorder, with_kept}
use Rattle.esm_redrive_run.specs.Ended as redrive
use Rattle.esm_redrive_run.specs.Headline as redrive_headline
use Rattle.esm_redrive_run.specs.declared.run.RedriveEnd.{RedriveEnd}
use Rattle.esm_redrive_run.specs.declared.run.RedriveEnd.TheVariants as redrive_end
use Rattle.esm_replay_run.specs.Ended as replay
use Rattle.esm_replay_run.specs.Headline as replay_headline
use Rattle.esm_replay_run.specs.declared.report.ReplayCounts.{ReplayCounts}
use Rattle.esm_replay_run.specs.declared.run.ReplayEnd.{ReplayEnd}
use Rattle.esm_replay_run.specs.declared.run.ReplayEnd.TheVariants as replay_end
use Rattle.esm_runner.specs.Ended as stream
use Rattle.esm_runner.specs.Files.{FilesState}
use Rattle.esm_runner.specs.Headline.{CallsMade, Devices, Telling}
use Rattle.esm_runner.specs.QueueEnded as queue
use Rattle.esm_runner.specs.QueueHeadline as queue_headline
use Rattle.esm_runner.specs.declared.run.MappingEnd.{MappingEnd}
use Rattle.esm_trace.specs.InOrder.{AreOfBatchers, replies_by}
use Rattle.esm_trace.specs.Laws.{QueueCallsTell, StreamCallsTell}
use Rattle.esm_trace.specs.Trace.{replies_of}
use Rattle.esm_trace.specs.declared.batchers.Batchers.TheVariants.{OfQueue, OfStream}
use Rattle.esm_traced.proofs.Below.{tells_recorded, within_recorders}
use Rattle.esm_traced.proofs.RedriveBelow.{redrive_recorded}
use Rattle.esm_traced.proofs.Replies.{redrive_tells, replay_tells}
use Rattle.esm_traced.proofs.ReplayBelow.{replay_recorded}

-- as many lists as recorders

one_more : (kept : Option (List Reply)) (rest : Option (List (List Reply))) (count : ℕ) (lists : List (List Reply)) → with_kept kept rest ≡ Some lists
    → ((ls : List (List Reply)) → rest ≡ Some ls → length ls ≡ count) → length lists ≡ suc count
one_more None rest count lists is few = cc is
one_more (Some replies) None count lists is few = cc is
one_more (Some replies) (Some ls) count lists is few =
    let same : replies ∷ ls ≡ lists = cc in
    sym (ap length same) ∙ ap suc (few ls refl)

as_many : {F : Type 0} (rs : List (RecorderState F)) (lists : List (List Reply)) → all_kept rs ≡ Some lists → length lists ≡ length rs
as_many [] lists is = (let same : [] ≡ lists = cc in sym (ap length same))
as_many (r ∷ rs) lists is = one_more r.kept (all_kept rs) (length rs) lists is (as_many rs)

some_of : {F : Type 0} (rs : List (RecorderState F)) (k : ℕ) → k < length rs → RecorderState F
some_of [] k within = absurd (omega (arith, within))
some_of (r ∷ rs) k within = r

-- the lists that are handed out, of what all kept

handed_out : {V F : Type 0} (P : List (List Reply) → Type 0) (lists_in : V → List (List Reply)) (news : List (RecorderState F)) (listed : Bool) (lists : Option V)
    → option_map lists_in lists ≡ cond listed (all_kept news) None → ((ls : List (List Reply)) → all_kept news ≡ Some ls → P ls) → IfSome lists (λ v. P (lists_in v))
handed_out P lists_in news listed None is holds = tt
handed_out P lists_in news true (Some v) is holds = holds (lists_in v) (sym is)
handed_out P lists_in news false (Some v) is holds = cc is

module _ {S D F : Type 0} (t : Telling D F) (faults : S → ℕ) (left : S → Option (List ℕ)) (config : Config) (count : ℕ) (f : FilesState D) (old_input new_input : S) (reading : Option InputEnd) (h : List Entry) (law : ListsTell t.callers.log) (keeps : Bool) (olds : List F) (found : List (RecorderState F)) (found_is : found ≡ map (new_recorder keeps) olds) (new : Devices D (RecorderState F)) (recorded : All (IsRecorder t.callers.log) new.callers) (many : length new.callers ≡ length olds) where
  within_olds : (k : ℕ) (ls : List (List Reply)) → all_kept new.callers ≡ Some ls → k < length ls → k < length olds
  within_olds k ls all within = subst (λ n. k < n) (as_many new.callers ls all ∙ many) within

  within_news : (k : ℕ) (ls : List (List Reply)) → all_kept new.callers ≡ Some ls → k < length ls → k < length new.callers
  within_news k ls all within = subst (λ n. k < n) (as_many new.callers ls all) within

  -- of a stream
  stream_lists : StreamCallsTell → (start : Start) (e : MappingEnd) → stream.HasEnded (tells_recorded t) faults left config start count f old_input new_input reading found h new e
      → (ls : List (List Reply)) → all_kept new.callers ≡ Some ls → AreOfBatchers (OfStream config.factor) h ls
  stream_lists tell start e is ls all = λ k within.
      let r = some_of new.callers k (within_news k ls all within) in
      law keeps olds new.callers recorded many ls all k r (calls is.setting t.callers.sends h k) (within_olds k ls all within)
      (subst (λ rs. CallsMade (tells_recorded t) is.setting h rs new.callers) found_is is.calls_made k r (within_recorders keeps olds k (within_olds k ls all within)))
      ∙ tell is.setting t.callers.sends h k
      ∙ ap (λ (s : Setting). replies_by (OfStream s.config.factor) h k) is.is_setting.opened

  -- of a queue
  queue_lists : QueueCallsTell → (visibility : ℕ) (e : MappingEnd) → queue.HasEnded (tells_recorded t) faults left config count visibility f old_input new_input reading found h new e
      → (ls : List (List Reply)) → all_kept new.callers ≡ Some ls → AreOfBatchers OfQueue h ls
  queue_lists tell visibility e is ls all = λ k within.
      let r = some_of new.callers k (within_news k ls all within) in
      law keeps olds new.callers recorded many ls all k r (queue_calls is.setting t.callers.sends h k) (within_olds k ls all within)
      (subst (λ rs. queue_headline.CallsMade (tells_recorded t) is.setting h rs new.callers) found_is is.calls_made k r (within_recorders keeps olds k (within_olds k ls all within)))
      ∙ tell is.setting t.callers.sends h k

  module _ {V : Type 0} (lists_in : V → List (List Reply)) (listed : Bool) (lists : Option V) (handed : option_map lists_in lists ≡ cond listed (all_kept new.callers) None) where
    pub stream_front : StreamCallsTell → (start : Start) (end : Result MappingEnd OutOfMemory)
        → IfOk end (stream.HasEnded (tells_recorded t) faults left config start count f old_input new_input reading found h new)
        → is_ok end ≡ true → IfSome lists (λ v. AreOfBatchers (OfStream config.factor) h (lists_in v))
    stream_front tell start (Ok e) is ended = handed_out (AreOfBatchers (OfStream config.factor) h) lists_in new.callers listed lists handed (stream_lists tell start e is)
    stream_front tell start (Err why) is ended = cc ended

    pub queue_front : QueueCallsTell → (visibility : ℕ) (end : Result MappingEnd OutOfMemory)
        → IfOk end (queue.HasEnded (tells_recorded t) faults left config count visibility f old_input new_input reading found h new)
        → is_ok end ≡ true → IfSome lists (λ v. AreOfBatchers OfQueue h (lists_in v))
    queue_front tell visibility (Ok e) is ended = handed_out (AreOfBatchers OfQueue h) lists_in new.callers listed lists handed (queue_lists tell visibility e is)
    queue_front tell visibility (Err why) is ended = cc ended

-- the replies that one recorder kept

handed_back : {V : Type 0} (P : List Reply → Type 0) (items : V → List Reply) (kept : Option V) (q : Option (List Reply)) → option_map items kept ≡ q → IfSome q P → IfSome kept (λ v. P (items v))
handed_back P items None q is holds = tt
handed_back P items (Some v) q is holds = subst (λ o. IfSome o P) (sym is) holds

with_some : {A : Type 0} {P Q : A → Type 0} (o : Option A) → ((a : A) → P a → Q a) → IfSome o P → IfSome o Q
with_some None more p = tt
with_some (Some a) more p = more a p

none_kept : {F : Type 0} (keeps : Bool) (old : F) (new : RecorderState F) (h : List Entry) → new ≡ new_recorder keeps old → h ≡ [] → IfSome new.kept (λ replies. replies ≡ replies_of h)
none_kept {F} keeps old new h is none =
    subst (λ (r : RecorderState F). IfSome r.kept (λ replies. replies ≡ replies_of h)) (sym is)
    (subst (λ past. IfSome (new_recorder keeps old).kept (λ replies. replies ≡ replies_of past)) (sym none) (by_keeping keeps))
  where
    by_keeping : (b : Bool) → IfSome (cond b (Some []) None) (λ replies. replies ≡ replies_of [])
    by_keeping true = refl
    by_keeping false = tt

module _ {S D F : Type 0} (t : redrive.Telling D F) (faults : S → ℕ) (left : S → Option (List ℕ)) (w : redrive_headline.Words) (f : FilesState D) (old_input new_input : S) (reading : Option InputEnd) (law : LogTells t.callers.log) (keeps : Bool) (old : F) (new : RecorderState F) (recorded : IsRecorder t.callers.log new) (h : List Entry) (disks : redrive_headline.Disks D) where
  redrive_kept : (e : RedriveEnd) → redrive.HasRun (redrive_recorded t) faults left w f old_input new_input reading (new_recorder keeps old) new h disks e → IfSome new.kept (λ replies. replies ≡ replies_of h)
  redrive_kept e is = with_some new.kept (λ replies kept. kept ∙ redrive_tells is.setting t.callers.sends h (is.headline.legal_trace is.setting.queue.messages (λ i m at. at))) (law keeps old new _ recorded is.calls_made).kept

  redrive_replies : (e : RedriveEnd) → redrive.HasEnded (redrive_recorded t) faults left w f old_input new_input reading (new_recorder keeps old) new h disks e → IfSome new.kept (λ replies. replies ≡ replies_of h)
  redrive_replies (redrive_end.Finished why) is = redrive_kept (redrive_end.Finished why) is
  redrive_replies redrive_end.CallsSpent is = redrive_kept redrive_end.CallsSpent is
  redrive_replies redrive_end.DiskFault is = redrive_kept redrive_end.DiskFault is
  redrive_replies redrive_end.DestFault is = redrive_kept redrive_end.DestFault is
  redrive_replies (redrive_end.Changed change) is = redrive_kept (redrive_end.Changed change) is
  redrive_replies (redrive_end.BadLine index) is = none_kept keeps old new h is.1.caller is.1.no_trace

  pub redrive_front : {V : Type 0} (items : V → List Reply) (kept : Option V) → option_map items kept ≡ new.kept → (end : Result RedriveEnd OutOfMemory)
      → (found : RecorderState F) → found ≡ new_recorder keeps old → IfOk end (redrive.HasEnded (redrive_recorded t) faults left w f old_input new_input reading found new h disks) → is_ok end ≡ true
      → IfSome kept (λ v. items v ≡ replies_of h)
  redrive_front items kept handed (Ok e) found found_is is ended =
      handed_back (λ replies. replies ≡ replies_of h) items kept new.kept handed
      (redrive_replies e (subst (λ r. redrive.HasEnded (redrive_recorded t) faults left w f old_input new_input reading r new h disks e) found_is is))
  redrive_front items kept handed (Err why) found found_is is ended = cc ended

module _ {S D F : Type 0} (t : replay.Telling D F) (faults : S → ℕ) (left : S → Option (List ℕ)) (config : Config) (count : ℕ) (f : FilesState D) (old_input new_input : S) (reading : Option InputEnd) (law : LogTells t.callers.log) (keeps : Bool) (old : F) (new : RecorderState F) (recorded : IsRecorder t.callers.log new) (h : List Entry) (counts : ReplayCounts) (disks : replay_headline.Disks D) where
  replay_kept : (e : ReplayEnd) → replay.HasRun (replay_recorded t) faults left config count f old_input new_input reading (new_recorder keeps old) new h counts disks e → IfSome new.kept (λ replies. replies ≡ replies_of h)
  replay_kept e is = with_some new.kept (λ replies kept. kept ∙ replay_tells is.setting t.callers.sends h) (law keeps old new _ recorded is.calls_made).kept

  replay_replies : (e : ReplayEnd) → replay.HasEnded (replay_recorded t) faults left config count f old_input new_input reading (new_recorder keeps old) new h counts disks e → IfSome new.kept (λ replies. replies ≡ replies_of h)
  replay_replies (replay_end.Finished why) is = replay_kept (replay_end.Finished why) is
  replay_replies replay_end.CallsSpent is = replay_kept replay_end.CallsSpent is
  replay_replies replay_end.DiskFault is = replay_kept replay_end.DiskFault is
  replay_replies (replay_end.Changed change) is = replay_kept (replay_end.Changed change) is
  replay_replies (replay_end.BadLine index) is = none_kept keeps old new h is.1.caller is.1.no_trace

  pub replay_front : {V : Type 0} (items : V → List Reply) (kept : Option V) → option_map items kept ≡ new.kept → (end : Result ReplayEnd OutOfMemory)
      → (found : RecorderState F) → found ≡ new_recorder keeps old → IfOk end (replay.HasEnded (replay_recorded t) faults left config count f old_input new_input reading found new h counts disks) → is_ok end ≡ true
      → IfSome kept (λ v. items v ≡ replies_of h)
  replay_front items kept handed (Ok e) found found_is is ended =
      handed_back (λ replies. replies ≡ replies_of h) items kept new.kept handed
      (replay_replies e (subst (λ r. replay.HasEnded (replay_recorded t) faults left config count f old_input new_input reading r new h counts disks e) found_is is))
  replay_front items kept handed (Err why) found found_is is ended = cc ended
