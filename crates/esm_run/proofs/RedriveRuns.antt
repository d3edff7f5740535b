-- How `redrive` came to its ending, or was stopped by want of memory.
use Rattle.std.proofs.Common.{◌≡◌, ◌∙◌, ◌∷◌, ◌++◌, [], ℕ, Bool, true, false, List, refl, sym, ap, subst, inl, inr, Option, Result, Ok, Err}
use Rattle.std.specs.Prelude.{IfOk, OnErr, is_ok}
use Rattle.esm_input.specs.declared.ending.InputEnd.{InputEnd}
use Rattle.esm_mapping.specs.declared.named.NamedMapping.{NamedMapping}
use Rattle.esm_model.specs.declared.config.Kind.{Kind}
use Rattle.esm_model.specs.declared.entry.Entry.{Entry}
use Rattle.esm_model.specs.declared.memory.OutOfMemory.{OutOfMemory}
use Rattle.esm_journal_state.specs.SaidLists.{SaidLists}
use Rattle.esm_redrive_model.specs.RedriveSetting.{RedriveSetting}
use Rattle.esm_redrive_model.specs.RedriveStep.{LegalRedrive}
use Rattle.esm_redrive_run.specs.Ended as redrive
use Rattle.esm_redrive_run.specs.Headline.{setting_before}
use Rattle.esm_redrive_run.specs.declared.run.RedriveEnd.{RedriveEnd}
use Rattle.esm_redrive_run.specs.declared.run.RedriveEnd.TheVariants as end
use Rattle.esm_report.specs.Report.{last_line}
use Rattle.esm_report.specs.declared.ending.Ending.{Ending}
use Rattle.esm_runner.specs.Files.{AreUnwritten, FilesState}
use Rattle.esm_run.specs.Answers.{HasCome, HasNotBegun, IsReadyFor}
use Rattle.esm_run.specs.Endings.{ending_of_redrive}
use Rattle.esm_run.specs.FirstCaller.{IsFirstUsed}
use Rattle.esm_run.specs.Ran.{EndsWith, IsRedriveEndingOf}
use Rattle.esm_run.specs.Redrive.{IsRedriveCut, RedriveCause, redrive_asks, redrive_disks, redrive_tells, words_of}
use Rattle.esm_run.specs.Reports.{redrive_report_text}
use Rattle.esm_run.specs.World.{RunTells, Seen}
use Rattle.esm_run.specs.declared.asked.RedriveWords.{RedriveWords}
use Rattle.esm_run.specs.declared.left.Began.TheVariants as began
use Rattle.esm_run.proofs.RunEndings.{behind}
use Rattle.esm_trace.specs.Trace.{trace_text}
use Rattle.esm_traced.specs.Front.{front_text}

-- nothing is told of no history
no_front : (traced : Bool) (kind : Kind) → front_text traced kind [] ≡ []
unfolding trace_text
no_front true kind = refl
no_front false kind = refl

module _ {S D F : Type 0} (o : RunTells S D F) (w : RedriveWords) (h : List Entry) (old new : Seen S D F) (mapping : NamedMapping) (files : FilesState D) (ready : IsReadyFor o.run.disk (redrive_asks w) old new mapping files)
    (caller caller_left : F) (first_used : IsFirstUsed old.callers new.callers caller caller_left) (reading : Option InputEnd) where
  abbrev HasEndedTo : RedriveEnd → Type 0
  HasEndedTo e = redrive.HasEnded (redrive_tells o) o.faults o.left (words_of w mapping.config) files old.input new.input reading caller caller_left h (redrive_disks new) e

  abbrev HasRunTo : RedriveEnd → Type 0
  HasRunTo e = redrive.HasRun (redrive_tells o) o.faults o.left (words_of w mapping.config) files old.input new.input reading caller caller_left h (redrive_disks new) e

  abbrev HasStoppedSo : Type 0
  HasStoppedSo = redrive.HasStoppedRun (redrive_tells o) o.faults o.left (words_of w mapping.config) files old.input new.input reading caller caller_left h (redrive_disks new)

  came : (e : RedriveEnd) → HasRunTo e → HasCome (RedriveCause o w h old new) (ending_of_redrive e)
  came e is = record {
    text = front_text w.trace mapping.config.kind h ++ redrive_report_text is.setting h (ending_of_redrive e);
    cause_is = inr (inr (record {
      mapping = mapping;
      files = files;
      ready = ready;
      caller = caller;
      caller_left = caller_left;
      first_used = first_used;
      end_is = e;
      reading = reading;
      run = is;
      tells = refl;
      text_is = refl;
    }));
  }

  ran_so : (front : List ℕ) (said : SaidLists) (e : RedriveEnd) → said ≡ files.said → HasRunTo e → front ≡ front_text w.trace mapping.config.kind h → EndsWith (RedriveCause o w h old new) front h (began.Redrive said) (ending_of_redrive e)
  unfolding came
  ran_so front said e same is fronts = record {
    ended = came e is;
    report = behind front (front_text w.trace mapping.config.kind h) h (ending_of_redrive e) (began.Redrive said) (redrive_report_text is.setting h (ending_of_redrive e)) fronts (record {
      setting = is.setting;
      deletions = ap (λ (s : RedriveSetting). s.queue.deletions) is.is_setting.opened ∙ ap (λ (t : SaidLists). t.deletions) (sym same);
      legal = is.headline.legal_trace is.setting.queue.messages (λ i m at. at);
      text_is = refl;
    });
  }

  abbrev IsUnwrittenFrom : D → D → D → Type 0
  IsUnwrittenFrom journal spare failures = AreUnwritten o.run.disk journal spare failures new.disks.journal new.disks.spare new.disks.failures

  -- nothing was read, called or written
  unbegun_of : redrive.HasNotBegun (redrive_tells o) files old.input new.input reading caller caller_left h (redrive_disks new) → HasNotBegun o.run.disk (redrive_asks w) h old new
  unbegun_of is = record {
    untouched = record {
      no_trace = is.no_trace;
      unread = is.input;
      uncalled = first_used.is ∙ ap (λ c. c ∷ first_used.rest) is.caller ∙ sym first_used.was;
    };
    unwritten = subst (λ j. IsUnwrittenFrom j old.disks.spare old.disks.failures) ready.journal
        (subst (λ s. IsUnwrittenFrom files.journal s old.disks.failures) ready.spare
        (subst (λ f. IsUnwrittenFrom files.journal files.spare f) ready.failures is.unwritten));
    registry = ready.registry;
  }

  refused : (index : ℕ) → HasEndedTo (end.BadLine index) → HasCome (RedriveCause o w h old new) (ending_of_redrive (end.BadLine index))
  refused index is = record {
    text = last_line (ending_of_redrive (end.BadLine index));
    cause_is = inr (inl (record {
      mapping = mapping;
      files = files;
      ready = ready;
      index = index;
      first_bad = is.0;
      unbegun = unbegun_of is.1;
      tells = refl;
      text_is = refl;
    }));
  }

  -- it came to an end
  ended_so : (e : RedriveEnd) → HasEndedTo e → HasCome (RedriveCause o w h old new) (ending_of_redrive e)
  ended_so (end.Finished why) is = came (end.Finished why) is
  ended_so end.CallsSpent is = came end.CallsSpent is
  ended_so end.DiskFault is = came end.DiskFault is
  ended_so end.DestFault is = came end.DestFault is
  ended_so (end.Changed change) is = came (end.Changed change) is
  ended_so (end.BadLine index) is = refused index is

  told_so : (front : List ℕ) (said : SaidLists) (e : RedriveEnd) → said ≡ files.said → HasEndedTo e → front ≡ front_text w.trace mapping.config.kind h → EndsWith (RedriveCause o w h old new) front h (began.Redrive said) (ending_of_redrive e)
  unfolding refused
  told_so front said (end.Finished why) same is fronts = ran_so front said (end.Finished why) same is fronts
  told_so front said end.CallsSpent same is fronts = ran_so front said end.CallsSpent same is fronts
  told_so front said end.DiskFault same is fronts = ran_so front said end.DiskFault same is fronts
  told_so front said end.DestFault same is fronts = ran_so front said end.DestFault same is fronts
  told_so front said (end.Changed change) same is fronts = ran_so front said (end.Changed change) same is fronts
  told_so front said (end.BadLine index) same is fronts = record {
    ended = refused index is;
    report = behind front [] h (ending_of_redrive (end.BadLine index)) (began.Redrive said) (last_line (ending_of_redrive (end.BadLine index)))
        (fronts ∙ ap (front_text w.trace mapping.config.kind) is.1.no_trace ∙ no_front w.trace mapping.config.kind) (record {
          setting = setting_before (words_of w mapping.config) files;
          deletions = ap (λ (t : SaidLists). t.deletions) (sym same);
          legal = subst (LegalRedrive (setting_before (words_of w mapping.config) files)) (sym is.1.no_trace) tt;
          text_is = refl;
        });
  }

  -- and is told
  pub redrive_ends : (front : List ℕ) (said : SaidLists) (end : Result RedriveEnd OutOfMemory) (e : Ending) → said ≡ files.said → IfOk end HasEndedTo → (is_ok end ≡ true → front ≡ front_text w.trace mapping.config.kind h)
      → IsRedriveEndingOf end e → EndsWith (RedriveCause o w h old new) front h (began.Redrive said) e
  redrive_ends front said (Ok to) e same is fronts tells = subst (EndsWith (RedriveCause o w h old new) front h (began.Redrive said)) (sym tells) (told_so front said to same is (fronts refl))
  redrive_ends front said (Err why) e same is fronts tells = absurd tells

  -- it was stopped, or its end could not be told
  pub redrive_cut : (end : Result RedriveEnd OutOfMemory) → IfOk end HasEndedTo → OnErr end HasStoppedSo → IsRedriveCut o w h old new
  redrive_cut (Ok to) is stopped = inr (inr (ending_of_redrive to, ended_so to is))
  redrive_cut (Err why) is stopped = inr (inl (record {
    mapping = mapping;
    files = files;
    ready = ready;
    caller = caller;
    caller_left = caller_left;
    first_used = first_used;
    reading = reading;
    run = stopped;
  }))
