-- What the run of a replay over a recorder says of the caller below it.
use Rattle.std.proofs.Common.{◌≡◌, ℕ, Bool, List, ap, subst, inl, inr, Option}
use Rattle.esm_input.specs.declared.ending.InputEnd.{InputEnd}
use Rattle.esm_model.specs.declared.config.Config.{Config}
use Rattle.esm_model.specs.declared.entry.Entry.{Entry}
use Rattle.esm_recorder.specs.Laws.{LogTells}
use Rattle.esm_recorder.specs.Recorder.{IsRecorder, RecorderState, log_of, new_recorder}
use Rattle.esm_replay_model.specs.ReplaySetting.{ReplaySetting}
use Rattle.esm_replay_run.specs.Ended.{HasEnded, HasLogged, HasNotBegun, HasRun, HasStopped, HasStoppedRun, Telling, telling}
use Rattle.esm_replay_run.specs.Headline.{Disks}
use Rattle.esm_replay_run.specs.declared.report.ReplayCounts.{ReplayCounts}
use Rattle.esm_replay_run.specs.declared.run.ReplayEnd.{ReplayEnd}
use Rattle.esm_replay_run.specs.declared.run.ReplayEnd.TheVariants as end
use Rattle.esm_runner.specs.Files.{FilesState}
use Rattle.esm_workers.specs.Working.{outside}

abbrev pub replay_recorded : {D F : Type 0} → Telling D F → Telling D (RecorderState F)
replay_recorded t = telling (outside t.callers.gave t.callers.sends (λ r. log_of t.callers.log r)) t.disk

module _ {S D F : Type 0} (t : Telling D F) (faults : S → ℕ) (left : S → Option (List ℕ)) (config : Config) (count : ℕ) (f : FilesState D) (old_input new_input : S) (reading : Option InputEnd) (law : LogTells t.callers.log) (keeps : Bool) (old : F) (new : RecorderState F) (recorded : IsRecorder t.callers.log new) (h : List Entry) (counts : ReplayCounts) (disks : Disks D) where
  ran_below : (e : ReplayEnd) → HasRun (replay_recorded t) faults left config count f old_input new_input reading (new_recorder keeps old) new h counts disks e → HasRun t faults left config count f old_input new_input reading old new.caller h counts disks e
  ran_below e is = record {
    input = is.input;
    is_input = is.is_input;
    read_to = is.read_to;
    came = is.came;
    some_came = is.some_came;
    unchanged = is.unchanged;
    setting = is.setting;
    is_setting = is.is_setting;
    hand = is.hand;
    headline = is.headline;
    are_counts = is.are_counts;
    few_calls = is.few_calls;
    calls_made = (law keeps old new _ recorded is.calls_made).below;
    rests = is.rests;
    cause = is.cause;
  }

  unbegun_below : HasNotBegun (replay_recorded t) f old_input new_input reading (new_recorder keeps old) new h disks → HasNotBegun t f old_input new_input reading old new.caller h disks
  unbegun_below is = record { input = is.input; unread = is.unread; caller = ap (λ (r : RecorderState F). r.caller) is.caller; no_trace = is.no_trace; unwritten = is.unwritten }

  ended_so : (e : ReplayEnd) → HasEnded (replay_recorded t) faults left config count f old_input new_input reading (new_recorder keeps old) new h counts disks e
      → HasEnded t faults left config count f old_input new_input reading old new.caller h counts disks e
  ended_so (end.Finished why) is = ran_below (end.Finished why) is
  ended_so end.CallsSpent is = ran_below end.CallsSpent is
  ended_so end.DiskFault is = ran_below end.DiskFault is
  ended_so (end.Changed change) is = ran_below (end.Changed change) is
  ended_so (end.BadLine index) is = (is.0, unbegun_below is.1)

  logged_below : (s : ReplaySetting) → HasLogged t.callers.sends s h (log_of t.callers.log (new_recorder keeps old)) (log_of t.callers.log new) → HasLogged t.callers.sends s h (t.callers.log old) (t.callers.log new.caller)
  logged_below s (inl made) = inl (law keeps old new _ recorded made).below
  logged_below s (inr more) = inr (record { out = more.out; reply = more.reply; logged = (law keeps old new _ recorded more.logged).below })

  stopped_so : HasStopped (replay_recorded t) faults left config count f old_input new_input reading (new_recorder keeps old) new h counts disks → HasStopped t faults left config count f old_input new_input reading old new.caller h counts disks
  stopped_so is = record {
    bytes = is.bytes;
    more = is.more;
    whole = is.whole;
    taken = is.taken;
    at_end = is.at_end;
    came = is.came;
    some_came = is.some_came;
    called_last = is.called_last;
    unchanged = is.unchanged;
    setting = is.setting;
    is_setting = is.is_setting;
    trouble = is.trouble;
    fault = is.fault;
    hand = is.hand;
    headline = is.headline;
    are_counts = is.are_counts;
    few_calls = is.few_calls;
    calls_made = logged_below is.setting is.calls_made;
  }

  stopped_run : HasStoppedRun (replay_recorded t) faults left config count f old_input new_input reading (new_recorder keeps old) new h counts disks
      → HasStoppedRun t faults left config count f old_input new_input reading old new.caller h counts disks
  stopped_run (inl unbegun) = inl (unbegun_below unbegun)
  stopped_run (inr stopped) = inr (stopped_so stopped)

  -- the recorder as the run found it
  module _ (found : RecorderState F) (found_is : found ≡ new_recorder keeps old) where
    pub replay_ended_below : (e : ReplayEnd) → HasEnded (replay_recorded t) faults left config count f old_input new_input reading found new h counts disks e → HasEnded t faults left config count f old_input new_input reading old new.caller h counts disks e
    replay_ended_below e is = ended_so e (subst (λ r. HasEnded (replay_recorded t) faults left config count f old_input new_input reading r new h counts disks e) found_is is)

    pub replay_stopped_below : HasStoppedRun (replay_recorded t) faults left config count f old_input new_input reading found new h counts disks → HasStoppedRun t faults left config count f old_input new_input reading old new.caller h counts disks
    replay_stopped_below is = stopped_run (subst (λ r. HasStoppedRun (replay_recorded t) faults left config count f old_input new_input reading r new h counts disks) found_is is)
