-- What the run of a redrive over a recorder says of the caller below it.
use Rattle.std.proofs.Common.{◌≡◌, ℕ, Bool, List, ap, subst, inl, inr, Option}
use Rattle.esm_input.specs.declared.ending.InputEnd.{InputEnd}
use Rattle.esm_model.specs.declared.entry.Entry.{Entry}
use Rattle.esm_queue_model.specs.QueueSetting.{QueueSetting}
use Rattle.esm_recorder.specs.Laws.{LogTells}
use Rattle.esm_recorder.specs.Recorder.{IsRecorder, RecorderState, log_of, new_recorder}
use Rattle.esm_redrive_run.specs.Ended.{HasEnded, HasNotBegun, HasRun, HasStopped, HasStoppedRun, Telling, telling}
use Rattle.esm_redrive_run.specs.Headline.{Disks, Words}
use Rattle.esm_redrive_run.specs.declared.run.RedriveEnd.{RedriveEnd}
use Rattle.esm_redrive_run.specs.declared.run.RedriveEnd.TheVariants as end
use Rattle.esm_runner.specs.Files.{FilesState}
use Rattle.esm_runner.specs.QueueStopping.{HasLogged}
use Rattle.esm_workers.specs.Working.{outside}

abbrev pub redrive_recorded : {D F : Type 0} → Telling D F → Telling D (RecorderState F)
redrive_recorded t = telling (outside t.callers.gave t.callers.sends (λ r. log_of t.callers.log r)) t.disk

module _ {S D F : Type 0} (t : Telling D F) (faults : S → ℕ) (left : S → Option (List ℕ)) (w : Words) (f : FilesState D) (old_input new_input : S) (reading : Option InputEnd) (law : LogTells t.callers.log) (keeps : Bool) (old : F) (new : RecorderState F) (recorded : IsRecorder t.callers.log new) (h : List Entry) (disks : Disks D) where
  ran_below : (e : RedriveEnd) → HasRun (redrive_recorded t) faults left w f old_input new_input reading (new_recorder keeps old) new h disks e → HasRun t faults left w f old_input new_input reading old new.caller h disks e
  ran_below e is = record {
    input = is.input;
    is_input = is.is_input;
    read_to = is.read_to;
    setting = is.setting;
    is_setting = is.is_setting;
    hand = is.hand;
    tried = is.tried;
    headline = is.headline;
    calls_made = (law keeps old new _ recorded is.calls_made).below;
    rests = is.rests;
    calls_after_all = is.calls_after_all;
    cause = is.cause;
  }

  unbegun_below : HasNotBegun (redrive_recorded t) f old_input new_input reading (new_recorder keeps old) new h disks → HasNotBegun t f old_input new_input reading old new.caller h disks
  unbegun_below is = record { input = is.input; unread = is.unread; caller = ap (λ (r : RecorderState F). r.caller) is.caller; no_trace = is.no_trace; unwritten = is.unwritten }

  ended_so : (e : RedriveEnd) → HasEnded (redrive_recorded t) faults left w f old_input new_input reading (new_recorder keeps old) new h disks e
      → HasEnded t faults left w f old_input new_input reading old new.caller h disks e
  ended_so (end.Finished why) is = ran_below (end.Finished why) is
  ended_so end.CallsSpent is = ran_below end.CallsSpent is
  ended_so end.DiskFault is = ran_below end.DiskFault is
  ended_so end.DestFault is = ran_below end.DestFault is
  ended_so (end.Changed change) is = ran_below (end.Changed change) is
  ended_so (end.BadLine index) is = (is.0, unbegun_below is.1)

  logged_below : (s : QueueSetting) → HasLogged t.callers.sends s h 0 (log_of t.callers.log (new_recorder keeps old)) (log_of t.callers.log new) → HasLogged t.callers.sends s h 0 (t.callers.log old) (t.callers.log new.caller)
  logged_below s (inl made) = inl (law keeps old new _ recorded made).below
  logged_below s (inr more) = inr (record { runs = more.runs; reply = more.reply; logged = (law keeps old new _ recorded more.logged).below })

  stopped_so : HasStopped (redrive_recorded t) faults left w f old_input new_input reading (new_recorder keeps old) new h disks → HasStopped t faults left w f old_input new_input reading old new.caller h disks
  stopped_so is = record {
    bytes = is.bytes;
    more = is.more;
    whole = is.whole;
    taken = is.taken;
    at_end = is.at_end;
    setting = is.setting;
    is_setting = is.is_setting;
    calls_after_all = is.calls_after_all;
    trouble = is.trouble;
    fault = is.fault;
    hand = is.hand;
    tried = is.tried;
    headline = is.headline;
    calls_made = logged_below is.setting.queue is.calls_made;
  }

  stopped_run : HasStoppedRun (redrive_recorded t) faults left w f old_input new_input reading (new_recorder keeps old) new h disks
      → HasStoppedRun t faults left w f old_input new_input reading old new.caller h disks
  stopped_run (inl unbegun) = inl (unbegun_below unbegun)
  stopped_run (inr stopped) = inr (stopped_so stopped)

  -- the recorder as the run found it
  module _ (found : RecorderState F) (found_is : found ≡ new_recorder keeps old) where
    pub redrive_ended_below : (e : RedriveEnd) → HasEnded (redrive_recorded t) faults left w f old_input new_input reading found new h disks e → HasEnded t faults left w f old_input new_input reading old new.caller h disks e
    redrive_ended_below e is = ended_so e (subst (λ r. HasEnded (redrive_recorded t) faults left w f old_input new_input reading r new h disks e) found_is is)

    pub redrive_stopped_below : HasStoppedRun (redrive_recorded t) faults left w f old_input new_input reading found new h disks → HasStoppedRun t faults left w f old_input new_input reading old new.caller h disks
    redrive_stopped_below is = stopped_run (subst (λ r. HasStoppedRun (redrive_recorded t) faults left w f old_input new_input reading r new h disks) found_is is)
