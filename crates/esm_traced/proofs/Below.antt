-- What the run of a stream over recorders says of the callers below them.
use Rattle.std.proofs.Common.{◌≡◌, ◌<◌, ℕ, Bool, List, length, map, sym, subst, inl, inr, Option, Some, None}
use Rattle.std.specs.Prelude.{slice_index_or}
use Rattle.std.specs.List.{All}
use Rattle.std.proofs.lemmas.List.{length-map}
use Rattle.esm_input.specs.Reading.{handed}
use Rattle.esm_input.specs.declared.ending.InputEnd.{InputEnd}
use Rattle.esm_model.specs.Calls.{calls}
use Rattle.esm_model.specs.Setting.{Setting}
use Rattle.esm_model.specs.declared.book.Trouble.{Trouble}
use Rattle.esm_model.specs.declared.book.Trouble.TheVariants as trouble
use Rattle.esm_model.specs.declared.config.Config.{Config}
use Rattle.esm_model.specs.declared.config.Start.{Start}
use Rattle.esm_model.specs.declared.entry.Entry.{Entry}
use Rattle.esm_model.specs.Records.{Record}
use Rattle.esm_recorder.specs.Laws.{LogsTell}
use Rattle.esm_recorder.specs.Recorder.{IsRecorder, RecorderState, log_of, new_recorder}
use Rattle.esm_runner.specs.Coming.{records_in_items}
use Rattle.esm_runner.specs.Ended.{HasEnded, HasStoppedRun, IsCauseOf, IsFaultOf}
use Rattle.esm_runner.specs.Files.{FilesState}
use Rattle.esm_runner.specs.Headline.{CallsMade, CallsMadeOrOneMore, Devices, FailureLinesCrashKept, FailureLinesKept, Headline, Telling, telling}
use Rattle.esm_runner.specs.Stopping.{HasLogged}
use Rattle.esm_runner.specs.declared.run.MappingEnd.{MappingEnd}
use Rattle.esm_runner.specs.declared.run.MappingEnd.TheVariants as end
use Rattle.esm_workers.specs.Working.{outside}

-- what recorders tell, and the callers below them

abbrev pub tells_recorded : {D F : Type 0} → Telling D F → Telling D (RecorderState F)
tells_recorded t = telling (outside t.callers.gave t.callers.sends (λ r. log_of t.callers.log r)) t.disk t.line

abbrev pub callers_below : {F : Type 0} → List (RecorderState F) → List F
callers_below rs = map (λ (r : RecorderState _). r.caller) rs

abbrev pub devices_below : {D F : Type 0} → Devices D (RecorderState F) → Devices D F
devices_below new = record { journal = new.journal; spare = new.spare; failures = new.failures; callers = callers_below new.callers }

pub within_recorders : {F : Type 0} (keeps : Bool) (olds : List F) (k : ℕ) → k < length olds → k < length (map (new_recorder keeps) olds)
within_recorders keeps olds k within = subst (λ n. k < n) (sym (length-map olds (new_recorder keeps))) within

module _ {D F : Type 0} (t : Telling D F) where
  lines_below : (f : FilesState D) (o : Option Trouble) (h hand : List Entry) (new : Devices D (RecorderState F)) → FailureLinesKept (tells_recorded t) f o h hand new → FailureLinesKept t f o h hand (devices_below new)
  lines_below f None h hand new kept = kept
  lines_below f (Some trouble.Disk) h hand new kept = kept
  lines_below f (Some trouble.Dest) h hand new kept = kept
  lines_below f (Some (trouble.Changed change)) h hand new kept = kept

  crash_below : (f : FilesState D) (s : Setting) (h : List Entry) (o : Option Trouble) (hand : List Entry) (new : Devices D (RecorderState F))
      → FailureLinesCrashKept (tells_recorded t) f s h o hand new → FailureLinesCrashKept t f s h o hand (devices_below new)
  crash_below f s h o hand new is = record { tried = is.tried; is_tried = is.is_tried; tried_follows = is.tried_follows; tried_given = is.tried_given; since = is.since; since_opening = is.since_opening; now = is.now }

  fault_below : (f : FilesState D) (o : Option Trouble) (new : Devices D (RecorderState F)) → IsFaultOf (tells_recorded t) f new o → IsFaultOf t f (devices_below new) o
  fault_below f None new fault = fault
  fault_below f (Some trouble.Disk) new fault = fault
  fault_below f (Some trouble.Dest) new fault = fault
  fault_below f (Some (trouble.Changed change)) new fault = fault

  cause_below : (f : FilesState D) (s : Setting) (h : List Entry) (records : List Record) (reading : Option InputEnd) (bytes_left : Option (List ℕ)) (new : Devices D (RecorderState F)) (e : MappingEnd)
      → IsCauseOf (tells_recorded t) f s h records reading bytes_left new e → IsCauseOf t f s h records reading bytes_left (devices_below new) e
  cause_below f s h records reading bytes_left new (end.Finished why) cause = cause
  cause_below f s h records reading bytes_left new end.CallsSpent cause = cause
  cause_below f s h records reading bytes_left new end.DiskFault cause = cause
  cause_below f s h records reading bytes_left new end.DestFault cause = cause
  cause_below f s h records reading bytes_left new (end.Changed change) cause = cause

  headline_below : (f : FilesState D) (s : Setting) (h : List Entry) (o : Option Trouble) (hand : List Entry) (new : Devices D (RecorderState F))
      → Headline (tells_recorded t) f s h o hand new → Headline t f s h o hand (devices_below new)
  headline_below f s h o hand new is = record {
    legal_trace = is.legal_trace;
    settled = is.settled;
    can_be_said = is.can_be_said;
    moments = is.moments;
    journal_kept = is.journal_kept;
    journal_stopped = is.journal_stopped;
    failure_lines_kept = lines_below f o h hand new is.failure_lines_kept;
    failure_lines_crash = crash_below f s h o hand new is.failure_lines_crash;
    in_hand = is.in_hand;
    hand_has_payload = is.hand_has_payload;
    hand_follows = is.hand_follows;
    hand_given = is.hand_given;
    crash = is.crash;
    crash_since_opening = is.crash_since_opening;
    one_fate = is.one_fate;
    fate_is_earned = is.fate_is_earned;
    answers_are_logged = is.answers_are_logged;
    fates_are_recorded = is.fates_are_recorded;
    checkpoint_is_longest = is.checkpoint_is_longest;
    checkpoint_is_recorded = is.checkpoint_is_recorded;
    order_per_key = is.order_per_key;
    no_repeat = is.no_repeat;
    every_record_counted = is.every_record_counted;
  }

  module _ (law : LogsTell t.callers.log) (keeps : Bool) (olds : List F) (news : List (RecorderState F)) (recorded : All (IsRecorder t.callers.log) news) (many : length news ≡ length olds) where
    calls_below : (s : Setting) (h : List Entry) → CallsMade (tells_recorded t) s h (map (new_recorder keeps) olds) news → CallsMade t s h olds (callers_below news)
    calls_below s h made = λ k d within.
        law keeps olds news recorded many k d (new_recorder keeps d) (calls s t.callers.sends h k) within (made k (new_recorder keeps d) (within_recorders keeps olds k within))

    logged_below : (s : Setting) (h : List Entry) (k : ℕ) (d : F) → k < length olds
        → HasLogged t.callers.sends s h k (log_of t.callers.log (slice_index_or (map (new_recorder keeps) olds) k (new_recorder keeps d))) (log_of t.callers.log (slice_index_or news k (new_recorder keeps d)))
        → HasLogged t.callers.sends s h k (t.callers.log (slice_index_or olds k d)) (t.callers.log (slice_index_or (callers_below news) k d))
    logged_below s h k d within (inl made) = inl (law keeps olds news recorded many k d (new_recorder keeps d) (calls s t.callers.sends h k) within made)
    logged_below s h k d within (inr more) = inr (record {
      lane = more.lane;
      mine = more.mine;
      runs = more.runs;
      reply = more.reply;
      logged = law keeps olds news recorded many k d (new_recorder keeps d) _ within more.logged;
    })

    calls_or_more_below : (s : Setting) (h : List Entry) → CallsMadeOrOneMore (tells_recorded t) s h (map (new_recorder keeps) olds) news → CallsMadeOrOneMore t s h olds (callers_below news)
    calls_or_more_below s h made = λ k d within. logged_below s h k d within (made k (new_recorder keeps d) (within_recorders keeps olds k within))

module _ {S D F : Type 0} (t : Telling D F) (faults : S → ℕ) (left : S → Option (List ℕ)) (config : Config) (start : Start) (count : ℕ) (f : FilesState D) (old_input new_input : S) (h : List Entry) (law : LogsTell t.callers.log) (keeps : Bool) (olds : List F) (found : List (RecorderState F)) (found_is : found ≡ map (new_recorder keeps) olds) (new : Devices D (RecorderState F)) (recorded : All (IsRecorder t.callers.log) new.callers) (many : length new.callers ≡ length olds) where
  -- it came to its end
  pub ended_below : (reading : Option InputEnd) (e : MappingEnd) → HasEnded (tells_recorded t) faults left config start count f old_input new_input reading found h new e
      → HasEnded t faults left config start count f old_input new_input reading olds h (devices_below new) e
  ended_below reading e is = record {
    input = is.input;
    is_input = is.is_input;
    read_to = is.read_to;
    setting = is.setting;
    is_setting = is.is_setting;
    hand = is.hand;
    headline = headline_below t f is.setting h _ is.hand new is.headline;
    calls_made = calls_below t law keeps olds new.callers recorded many is.setting h (subst (λ rs. CallsMade (tells_recorded t) is.setting h rs new.callers) found_is is.calls_made);
    rests = is.rests;
    cause = cause_below t f is.setting h (records_in_items (handed is.input)) reading (left new_input) new e is.cause;
  }

  -- it was stopped
  pub stopped_below : HasStoppedRun (tells_recorded t) left config start count f old_input new_input found h new
      → HasStoppedRun t left config start count f old_input new_input olds h (devices_below new)
  stopped_below is = record {
    bytes = is.bytes;
    more = is.more;
    whole = is.whole;
    taken = is.taken;
    setting = is.setting;
    is_setting = is.is_setting;
    trouble = is.trouble;
    fault = fault_below t f is.trouble new is.fault;
    hand = is.hand;
    headline = headline_below t f is.setting h is.trouble is.hand new is.headline;
    calls_made = calls_or_more_below t law keeps olds new.callers recorded many is.setting h (subst (λ rs. CallsMadeOrOneMore (tells_recorded t) is.setting h rs new.callers) found_is is.calls_made);
  }
