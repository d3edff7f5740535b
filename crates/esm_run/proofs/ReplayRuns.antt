-- How `replay` came to its ending, or was stopped by want of memory.
use Rattle.std.proofs.Common.{◌≡◌, ◌++◌, ℕ, Bool, true, List, refl, sym, subst, inl, inr, Option, Result, Ok, Err}
use Rattle.std.specs.Prelude.{IfOk, OnErr, is_ok}
use Rattle.esm_input.specs.declared.ending.InputEnd.{InputEnd}
use Rattle.esm_mapping.specs.declared.named.NamedMapping.{NamedMapping}
use Rattle.esm_model.specs.declared.config.Kind.TheVariants as kind
use Rattle.esm_model.specs.declared.entry.Entry.{Entry}
use Rattle.esm_model.specs.declared.memory.OutOfMemory.{OutOfMemory}
use Rattle.esm_replay_run.specs.Ended as replay
use Rattle.esm_replay_run.specs.declared.report.ReplayCounts.{ReplayCounts}
use Rattle.esm_replay_run.specs.declared.run.ReplayEnd.{ReplayEnd}
use Rattle.esm_report.specs.declared.ending.Ending.{Ending}
use Rattle.esm_runner.specs.Files.{FilesState}
use Rattle.esm_run.specs.Answers.{HasCome, IsReadyFor}
use Rattle.esm_run.specs.Endings.{ending_of_replay}
use Rattle.esm_run.specs.FirstCaller.{IsFirstUsed}
use Rattle.esm_run.specs.Ran.{EndsWith, IsReplayEndingOf}
use Rattle.esm_run.specs.Replay.{IsReplayCut, ReplayCause, replay_asks, replay_disks, replay_tells}
use Rattle.esm_run.specs.Reports.{replay_report_text}
use Rattle.esm_run.specs.World.{RunTells, Seen}
use Rattle.esm_run.specs.declared.left.Began.TheVariants as began
use Rattle.esm_run.proofs.RunEndings.{behind}
use Rattle.esm_traced.specs.Front.{front_text}

module _ {S D F : Type 0} (o : RunTells S D F) (config : List ℕ) (calls : ℕ) (traced : Bool) (h : List Entry) (old new : Seen S D F) (mapping : NamedMapping) (files : FilesState D) (ready : IsReadyFor o.run.disk (replay_asks config) old new mapping files)
    (caller caller_left : F) (first_used : IsFirstUsed old.callers new.callers caller caller_left) (reading : Option InputEnd) (counts : ReplayCounts) where
  abbrev HasRunTo : ReplayEnd → Type 0
  HasRunTo end = replay.HasEnded (replay_tells o) o.faults o.left mapping.config calls files old.input new.input reading caller caller_left h counts (replay_disks new) end

  abbrev HasStoppedSo : Type 0
  HasStoppedSo = replay.HasStoppedRun (replay_tells o) o.faults o.left mapping.config calls files old.input new.input reading caller caller_left h counts (replay_disks new)

  came : (end : ReplayEnd) → HasRunTo end → HasCome (ReplayCause o config calls traced h old new) (ending_of_replay end)
  came end is = record {
    text = front_text traced kind.Stream h ++ replay_report_text counts h (ending_of_replay end);
    cause_is = inr (record {
      mapping = mapping;
      files = files;
      ready = ready;
      caller = caller;
      caller_left = caller_left;
      first_used = first_used;
      end = end;
      reading = reading;
      counts = counts;
      run = is;
      tells = refl;
      text_is = refl;
    });
  }

  -- it came to its end, which is told
  pub replay_ends : (front : List ℕ) (end : Result ReplayEnd OutOfMemory) (e : Ending) → IfOk end HasRunTo → (is_ok end ≡ true → front ≡ front_text traced kind.Stream h) → IsReplayEndingOf end e
      → EndsWith (ReplayCause o config calls traced h old new) front h (began.Replay counts) e
  unfolding came
  replay_ends front (Ok end) e is fronts tells = subst (EndsWith (ReplayCause o config calls traced h old new) front h (began.Replay counts)) (sym tells) (record {
    ended = came end is;
    report = behind front (front_text traced kind.Stream h) h (ending_of_replay end) (began.Replay counts) (replay_report_text counts h (ending_of_replay end)) (fronts refl) (record { text_is = refl });
  })
  replay_ends front (Err why) e is fronts tells = absurd tells

  -- it was stopped, or its end could not be told
  pub replay_cut : (end : Result ReplayEnd OutOfMemory) → IfOk end HasRunTo → OnErr end HasStoppedSo → IsReplayCut o config calls traced h old new
  replay_cut (Ok end) is stopped = inr (inr (ending_of_replay end, came end is))
  replay_cut (Err why) is stopped = inr (inl (record {
    mapping = mapping;
    files = files;
    ready = ready;
    caller = caller;
    caller_left = caller_left;
    first_used = first_used;
    reading = reading;
    counts = counts;
    run = stopped;
  }))
