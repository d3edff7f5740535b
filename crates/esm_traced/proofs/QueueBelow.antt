-- What the run of a queue over recorders says of the callers below them.
use Rattle.std.proofs.Common.{◌≡◌, ◌∙◌, ◌<◌, ℕ, zero, suc, Bool, List, [], ◌∷◌, length, map, refl, ap, subst, inl, inr, Option, Some, None}
use Rattle.std.specs.Prelude.{slice_index_or}
use Rattle.std.specs.List.{All}
use Rattle.esm_input.specs.Reading.{handed}
use Rattle.esm_input.specs.declared.ending.InputEnd.{InputEnd}
use Rattle.esm_model.specs.declared.book.Trouble.{Trouble}
use Rattle.esm_model.specs.declared.book.Trouble.TheVariants as trouble
use Rattle.esm_model.specs.declared.config.Config.{Config}
use Rattle.esm_model.specs.declared.entry.Entry.{Entry}
use Rattle.esm_model.specs.declared.item.Message.{Message}
use Rattle.esm_queue_model.specs.QueueBatch.{queue_calls}
use Rattle.esm_queue_model.specs.QueueSetting.{QueueSetting}
use Rattle.esm_recorder.specs.Laws.{LogsTell}
use Rattle.esm_recorder.specs.Recorder.{IsRecorder, RecorderState, log_of, new_recorder}
use Rattle.esm_runner.specs.Files.{FilesState}
use Rattle.esm_runner.specs.Headline.{Devices, Telling}
use Rattle.esm_runner.specs.QueueComing.{messages_in_items}
use Rattle.esm_runner.specs.QueueEnded.{HasEnded, HasStoppedRun, IsCauseOf, IsFaultOf, OthersRest}
use Rattle.esm_runner.specs.QueueHeadline.{CallsMade, CallsMadeOrOneMore, Headline}
use Rattle.esm_runner.specs.QueueStopping.{HasLogged}
use Rattle.esm_runner.specs.declared.run.MappingEnd.{MappingEnd}
use Rattle.esm_runner.specs.declared.run.MappingEnd.TheVariants as end
use Rattle.esm_traced.proofs.Below.{callers_below, devices_below, tells_recorded, within_recorders}

-- the caller of a number below

below_at : {F : Type 0} (keeps : Bool) (rs : List (RecorderState F)) (k : ℕ) (d : F) → slice_index_or (callers_below rs) k d ≡ (slice_index_or rs k (new_recorder keeps d)).caller
below_at keeps [] k d = refl
below_at keeps (r ∷ rs) zero d = refl
below_at keeps (r ∷ rs) (suc k) d = below_at keeps rs k d

new_at : {F : Type 0} (keeps : Bool) (olds : List F) (k : ℕ) (d : F) → (slice_index_or (map (new_recorder keeps) olds) k (new_recorder keeps d)).caller ≡ slice_index_or olds k d
new_at keeps [] k d = refl
new_at keeps (c ∷ cs) zero d = refl
new_at keeps (c ∷ cs) (suc k) d = new_at keeps cs k d

module _ {D F : Type 0} (t : Telling D F) where
  fault_below : (f : FilesState D) (o : Option Trouble) (new : Devices D (RecorderState F)) → IsFaultOf (tells_recorded t) f new o → IsFaultOf t f (devices_below new) o
  fault_below f None new fault = fault
  fault_below f (Some trouble.Disk) new fault = fault
  fault_below f (Some trouble.Dest) new fault = fault
  fault_below f (Some (trouble.Changed change)) new fault = fault

  cause_below : (f : FilesState D) (s : QueueSetting) (h : List Entry) (messages : List Message) (reading : Option InputEnd) (bytes_left : Option (List ℕ)) (new : Devices D (RecorderState F)) (e : MappingEnd)
      → IsCauseOf (tells_recorded t) f s h messages reading bytes_left new e → IsCauseOf t f s h messages reading bytes_left (devices_below new) e
  cause_below f s h messages reading bytes_left new (end.Finished why) cause = cause
  cause_below f s h messages reading bytes_left new end.CallsSpent cause = cause
  cause_below f s h messages reading bytes_left new end.DiskFault cause = cause
  cause_below f s h messages reading bytes_left new end.DestFault cause = cause
  cause_below f s h messages reading bytes_left new (end.Changed change) cause = cause

  headline_below : (f : FilesState D) (s : QueueSetting) (h : List Entry) (o : Option Trouble) (hand : List Entry) (new : Devices D (RecorderState F))
      → Headline (tells_recorded t) f s h o hand new → Headline t f s h o hand (devices_below new)
  headline_below f s h o hand new is = record {
    legal_trace = is.legal_trace;
    settled = is.settled;
    messages_came = is.messages_came;
    valid = is.valid;
    few = is.few;
    moments = is.moments;
    journal_kept = is.journal_kept;
    journal_stopped = is.journal_stopped;
    in_hand = is.in_hand;
    hand_has_payload = is.hand_has_payload;
    hand_follows = is.hand_follows;
    hand_given = is.hand_given;
    crash = is.crash;
    crash_since_opening = is.crash_since_opening;
    failures_same = is.failures_same;
    failures_read = is.failures_read;
    only_earned = is.only_earned;
    replies_are_logged = is.replies_are_logged;
    deletions_are_recorded = is.deletions_are_recorded;
    deleted_once = is.deleted_once;
    order_per_group = is.order_per_group;
    every_message_counted = is.every_message_counted;
  }

  others_below : (keeps : Bool) (olds : List F) (news : List (RecorderState F)) (config : Config) (s : QueueSetting) (h : List Entry)
      → OthersRest (tells_recorded t) config s h (map (new_recorder keeps) olds) news → OthersRest t config s h olds (callers_below news)
  others_below keeps olds news config s h is = record {
    untouched = λ k d past. below_at keeps news k d ∙ ap (λ (r : RecorderState F). r.caller) (is.untouched k (new_recorder keeps d) past) ∙ new_at keeps olds k d;
    no_calls = is.no_calls;
  }

  module _ (law : LogsTell t.callers.log) (keeps : Bool) (olds : List F) (news : List (RecorderState F)) (recorded : All (IsRecorder t.callers.log) news) (many : length news ≡ length olds) where
    calls_below : (s : QueueSetting) (h : List Entry) → CallsMade (tells_recorded t) s h (map (new_recorder keeps) olds) news → CallsMade t s h olds (callers_below news)
    calls_below s h made = λ k d within.
        law keeps olds news recorded many k d (new_recorder keeps d) (queue_calls s t.callers.sends h k) within (made k (new_recorder keeps d) (within_recorders keeps olds k within))

    logged_below : (s : QueueSetting) (h : List Entry) (k : ℕ) (d : F) → k < length olds
        → HasLogged t.callers.sends s h k (log_of t.callers.log (slice_index_or (map (new_recorder keeps) olds) k (new_recorder keeps d))) (log_of t.callers.log (slice_index_or news k (new_recorder keeps d)))
        → HasLogged t.callers.sends s h k (t.callers.log (slice_index_or olds k d)) (t.callers.log (slice_index_or (callers_below news) k d))
    logged_below s h k d within (inl made) = inl (law keeps olds news recorded many k d (new_recorder keeps d) (queue_calls s t.callers.sends h k) within made)
    logged_below s h k d within (inr more) = inr (record {
      runs = more.runs;
      reply = more.reply;
      logged = law keeps olds news recorded many k d (new_recorder keeps d) _ within more.logged;
    })

    calls_or_more_below : (s : QueueSetting) (h : List Entry) → CallsMadeOrOneMore (tells_recorded t) s h (map (new_recorder keeps) olds) news → CallsMadeOrOneMore t s h olds (callers_below news)
    calls_or_more_below s h made = λ k d within. logged_below s h k d within (made k (new_recorder keeps d) (within_recorders keeps olds k within))

module _ {S D F : Type 0} (t : Telling D F) (faults : S → ℕ) (left : S → Option (List ℕ)) (config : Config) (count visibility : ℕ) (f : FilesState D) (old_input new_input : S) (h : List Entry) (law : LogsTell t.callers.log) (keeps : Bool) (olds : List F) (found : List (RecorderState F)) (found_is : found ≡ map (new_recorder keeps) olds) (new : Devices D (RecorderState F)) (recorded : All (IsRecorder t.callers.log) new.callers) (many : length new.callers ≡ length olds) where
  -- it came to its end
  pub queue_ended_below : (reading : Option InputEnd) (e : MappingEnd) → HasEnded (tells_recorded t) faults left config count visibility f old_input new_input reading found h new e
      → HasEnded t faults left config count visibility f old_input new_input reading olds h (devices_below new) e
  queue_ended_below reading e is = record {
    input = is.input;
    is_input = is.is_input;
    read_to = is.read_to;
    setting = is.setting;
    is_setting = is.is_setting;
    hand = is.hand;
    headline = headline_below t f is.setting h _ is.hand new is.headline;
    all_earned = is.all_earned;
    calls_made = calls_below t law keeps olds new.callers recorded many is.setting h (subst (λ rs. CallsMade (tells_recorded t) is.setting h rs new.callers) found_is is.calls_made);
    rests = is.rests;
    others = others_below t keeps olds new.callers config is.setting h (subst (λ rs. OthersRest (tells_recorded t) config is.setting h rs new.callers) found_is is.others);
    cause = cause_below t f is.setting h (messages_in_items (handed is.input)) reading (left new_input) new e is.cause;
  }

  -- it was stopped
  pub queue_stopped_below : HasStoppedRun (tells_recorded t) left config count visibility f old_input new_input found h new
      → HasStoppedRun t left config count visibility f old_input new_input olds h (devices_below new)
  queue_stopped_below is = record {
    bytes = is.bytes;
    more = is.more;
    whole = is.whole;
    taken = is.taken;
    setting = is.setting;
    is_setting = is.is_setting;
    trouble = is.trouble;
    fault = fault_below t f is.trouble new is.fault;
    hand = is.hand;
    headline = headline_below t f is.setting h is.trouble is.hand new is.headline;
    calls_made = calls_or_more_below t law keeps olds new.callers recorded many is.setting h (subst (λ rs. CallsMadeOrOneMore (tells_recorded t) is.setting h rs new.callers) found_is is.calls_made);
    others = others_below t keeps olds new.callers config is.setting h (subst (λ rs. OthersRest (tells_recorded t) config is.setting h rs new.callers) found_is is.others);
  }
