-- How the options of `run` came to their ending, or were stopped by want of memory.
use Rattle.std.proofs.Common.{◌≡◌, ◌∙◌, ℕ, Bool, true, false, List, [], ◌++◌, refl, sym, ap, subst, inl, inr, Option, Some, Result, Ok, Err}
use Rattle.std.specs.Prelude.{IfOk, OnErr, is_ok}
use Rattle.esm_model.specs.Valid.{is_stream}
use Rattle.esm_model.specs.declared.book.Trouble.{Trouble}
use Rattle.esm_model.specs.declared.config.Kind.TheVariants as source
use Rattle.esm_model.specs.declared.entry.Entry.{Entry}
use Rattle.esm_model.specs.declared.memory.OutOfMemory.{OutOfMemory}
use Rattle.esm_model.specs.Entries.{CallsFollowShut}
use Rattle.esm_model.specs.Setting.{Setting}
use Rattle.esm_input.specs.declared.ending.InputEnd.{InputEnd}
use Rattle.esm_input.specs.Reading.{handed}
use Rattle.esm_cli.specs.declared.command.RunWords.{RunWords}
use Rattle.esm_cli.specs.declared.command.Which.{Which}
use Rattle.esm_cli.specs.declared.command.Which.TheVariants.{Config, Mapping}
use Rattle.esm_io.specs.Meanings.{DiskMeaning}
use Rattle.esm_journal.specs.Reads.{IsOnlyRead}
use Rattle.esm_mapping.specs.Named.{IsNamed, MayRun, WhyNot}
use Rattle.esm_mapping.specs.declared.named.MappingError.{MappingError}
use Rattle.esm_mapping.specs.declared.named.NamedMapping.{NamedMapping}
use Rattle.esm_queue_model.specs.QueueSetting.{QueueSetting}
use Rattle.esm_report.specs.Queue.{queue_report_text}
use Rattle.esm_runner.specs.Coming.{records_in_items}
use Rattle.esm_runner.specs.QueueEnded as queue
use Rattle.esm_report.specs.declared.ending.Ending.{Ending}
use Rattle.esm_report.specs.Report.{last_line, report_text, stands_alone}
use Rattle.esm_journal_state.specs.SaidLists.{SaidLists}
use Rattle.esm_runner.specs.Ended as stream
use Rattle.esm_runner.specs.Ended.{trouble_of}
use Rattle.esm_runner.specs.Headline as runner
use Rattle.esm_runner.specs.Headline.{CallsMade, Devices, Telling}
use Rattle.esm_runner.specs.Ran.{NoneRuns}
use Rattle.esm_runner.specs.Files.{FilesState, IsOpenedFiles, AreRefused}
use Rattle.esm_runner.specs.declared.files.FilesError.{FilesError}
use Rattle.esm_runner.specs.declared.run.MappingEnd.{MappingEnd}
use Rattle.esm_run.specs.Answers.{AreGoodFiles, HasNotBegun, HasNotRun, HasTold, IsCutOf, IsReadyFor, RunCause, RunEnded, asked, visibility_of}
use Rattle.esm_run.specs.Asks.{Asks, IsRegistryLeft}
use Rattle.esm_run.specs.Headline.{Headline}
use Rattle.esm_run.specs.Endings.{IsTold, ending_of, ending_of_files, ending_of_mapping}
use Rattle.esm_run.specs.Ran.{EndsWith, IsEndingOf, IsReport, IsReportBehind}
use Rattle.esm_run.specs.World.{RunTells, Seen, Written, devices_of, disks}
use Rattle.esm_run.specs.declared.left.Began.{Began}
use Rattle.esm_run.specs.declared.left.Began.TheVariants as began
use Rattle.esm_run.proofs.Alone.{files_alone, mapping_alone}
use Rattle.esm_traced.specs.Front.{front_text}

-- what opened files tell of the disks that were handed in
pub good_files : {D : Type 0} (m : DiskMeaning D) (f : FilesState D) (registry : D) → IsOpenedFiles m f → AreGoodFiles m (disks f.journal f.spare f.failures registry)
good_files m f registry is = record {
  payloads = record { payloads = f.pair.payloads; are_found = λ honest. (f.pair.epoch, is.opens honest); good = is.good };
  lines = f.dest.payloads;
  lines_found = is.opens_lines;
}

-- what the words name may run
pub may_run : {D : Type 0} (m : DiskMeaning D) (which : Which) (registry : D) (mapping : NamedMapping) → IsNamed m which registry mapping → MayRun mapping
may_run m (Config text) registry mapping named = named.1
may_run m (Mapping id) registry mapping named = named.3

-- what reading the mapping leaves of the registry's disk
pub registry_left : {D : Type 0} (m : DiskMeaning D) (which : Which) (old new : D) → IsOnlyRead m old new → ((text : List ℕ) → which ≡ Config text → new ≡ old) → IsRegistryLeft m which old new
registry_left m (Config text) old new read untouched = untouched text refl
registry_left m (Mapping id) old new read untouched = read

pub registry_unopened : {D : Type 0} (m : DiskMeaning D) (which : Which) (disk : D) → IsOnlyRead m disk disk → IsRegistryLeft m which disk disk
registry_unopened m which disk read = registry_left m which disk disk read (λ text is. refl)

-- the report behind what is told before it
pub behind : (front told : List ℕ) (h : List Entry) (e : Ending) (b : Began) (report : List ℕ) → front ≡ told → IsReport h e b report → IsReportBehind front h e b (told ++ report)
behind front told h e b report same is = record { report = report; is_report = is; text_is = ap (λ f. f ++ report) (sym same) }

-- what a stream's run left, told
pub headline_of : {D F : Type 0} (t : Telling D F) (read_first traced : Bool) (f : FilesState D) (s : Setting) (h : List Entry) (trouble : Option Trouble) (ending : Ending) (hand : List Entry) (old : List F) (new : Devices D F)
    → runner.Headline t f s h trouble hand new → CallsMade t s h old new.callers → NoneRuns h → (read_first ≡ true → CallsFollowShut h)
    → Headline t read_first traced f s h trouble ending hand old new (front_text traced source.Stream h ++ report_text s h ending)
headline_of t read_first traced f s h trouble ending hand old new is calls rests later = record {
  legal_trace = is.legal_trace;
  settled = is.settled;
  can_be_said = is.can_be_said;
  moments = is.moments;
  calls_made = calls;
  none_runs = rests;
  journal_kept = is.journal_kept;
  journal_stopped = is.journal_stopped;
  crash_kept = is.crash;
  crash_since_opening = is.crash_since_opening;
  in_hand = is.in_hand;
  hand_has_payload = is.hand_has_payload;
  hand_follows = is.hand_follows;
  hand_given = is.hand_given;
  failure_lines_kept = is.failure_lines_kept;
  failure_lines_crash = is.failure_lines_crash;
  report_told = refl;
  order_per_key = is.order_per_key;
  no_repeat = is.no_repeat;
  every_record_counted = is.every_record_counted;
  checkpoint_is_longest = is.checkpoint_is_longest;
  checkpoint_is_recorded = is.checkpoint_is_recorded;
  one_fate = is.one_fate;
  fates_are_recorded = is.fates_are_recorded;
  fate_is_earned = is.fate_is_earned;
  answers_are_logged = is.answers_are_logged;
  read_first = later;
}

module _ {S D F : Type 0} (o : RunTells S D F) (r : RunWords) (h : List Entry) (old new : Seen S D F) where
  module _ (mapping : NamedMapping) (files : FilesState D) (reading : Option InputEnd) (ready : IsReadyFor o.run.disk (asked o r) old new mapping files) (later : r.read_first ≡ true → CallsFollowShut h) where
    -- a stream's mapping ran

    abbrev HasStreamEnded : MappingEnd → Type 0
    HasStreamEnded end = stream.HasEnded o.run o.faults o.left mapping.config mapping.start r.calls files old.input new.input reading old.callers h (devices_of new) end

    abbrev HasStreamStopped : Type 0
    HasStreamStopped = stream.HasStoppedRun o.run o.left mapping.config mapping.start r.calls files old.input new.input old.callers h (devices_of new)

    stream_ended : is_stream mapping.config.kind ≡ true → (end : MappingEnd) → HasStreamEnded end → RunEnded o r h old new (ending_of end)
    stream_ended kind end is = record {
      text = front_text r.trace source.Stream h ++ report_text is.setting h (ending_of end);
      cause_is = inr (inl (record {
        mapping = mapping;
        files = files;
        ready = ready;
        kind = kind;
        input = is.input;
        is_input = is.is_input;
        setting = is.setting;
        is_setting = is.is_setting;
        end = end;
        tells = refl;
        cause = subst (λ (x : Option InputEnd). stream.IsCauseOf o.run files is.setting h (records_in_items (handed is.input)) x (o.left new.input) (devices_of new) end) (sym is.read_to) is.cause;
        hand = is.hand;
        headline = headline_of o.run r.read_first r.trace files is.setting h (trouble_of end) (ending_of end) is.hand old.callers (devices_of new) is.headline is.calls_made is.rests later;
      }));
    }

    -- it came to its end, which is told
    pub stream_ends : is_stream mapping.config.kind ≡ true → (front : List ℕ) (said : SaidLists) (end : Result MappingEnd OutOfMemory) (e : Ending) → said ≡ files.said
        → IfOk end HasStreamEnded → (is_ok end ≡ true → front ≡ front_text r.trace source.Stream h) → IsEndingOf end e → EndsWith (RunCause o r h old new) front h (began.Stream said) e
    unfolding stream_ended
    stream_ends kind front said (Ok end) e same is fronts tells = subst (EndsWith (RunCause o r h old new) front h (began.Stream said)) (sym tells) (record {
      ended = stream_ended kind end is;
      report = behind front (front_text r.trace source.Stream h) h (ending_of end) (began.Stream said) (report_text is.setting h (ending_of end)) (fronts refl) (record {
        setting = is.setting;
        fates = ap (λ (s : Setting). s.fates) is.is_setting.opened ∙ ap (λ (t : SaidLists). t.fates) (sym same);
        text_is = refl;
      });
    })
    stream_ends kind front said (Err why) e same is fronts tells = absurd tells

    -- it was stopped, or its end could not be told
    pub stream_cut : is_stream mapping.config.kind ≡ true → (end : Result MappingEnd OutOfMemory) → IfOk end HasStreamEnded → OnErr end HasStreamStopped → IsCutOf o r h old new
    stream_cut kind (Ok end) is stopped = inr (inr (ending_of end, stream_ended kind end is))
    stream_cut kind (Err why) is stopped = inr (inl (inl (record { mapping = mapping; files = files; ready = ready; kind = kind; run = stopped; read_first = later })))

    -- a queue's mapping ran

    abbrev HasQueueEnded : MappingEnd → Type 0
    HasQueueEnded end = queue.HasEnded o.run o.faults o.left mapping.config r.calls (visibility_of r) files old.input new.input reading old.callers h (devices_of new) end

    abbrev HasQueueStopped : Type 0
    HasQueueStopped = queue.HasStoppedRun o.run o.left mapping.config r.calls (visibility_of r) files old.input new.input old.callers h (devices_of new)

    queue_ended : is_stream mapping.config.kind ≡ false → (end : MappingEnd) → HasQueueEnded end → RunEnded o r h old new (ending_of end)
    queue_ended kind end is = record {
      text = front_text r.trace mapping.config.kind h ++ queue_report_text is.setting h (ending_of end);
      cause_is = inr (inr (record { mapping = mapping; files = files; ready = ready; kind = kind; end = end; reading = reading; run = is; tells = refl; text_is = refl; read_first = later }));
    }

    pub queue_ends : is_stream mapping.config.kind ≡ false → (front : List ℕ) (said : SaidLists) (end : Result MappingEnd OutOfMemory) (e : Ending) → said ≡ files.said
        → IfOk end HasQueueEnded → (is_ok end ≡ true → front ≡ front_text r.trace mapping.config.kind h) → IsEndingOf end e → EndsWith (RunCause o r h old new) front h (began.Queue said) e
    unfolding queue_ended
    queue_ends kind front said (Ok end) e same is fronts tells = subst (EndsWith (RunCause o r h old new) front h (began.Queue said)) (sym tells) (record {
      ended = queue_ended kind end is;
      report = behind front (front_text r.trace mapping.config.kind h) h (ending_of end) (began.Queue said) (queue_report_text is.setting h (ending_of end)) (fronts refl) (record {
        setting = is.setting;
        deletions = ap (λ (s : QueueSetting). s.deletions) is.is_setting.opened ∙ ap (λ (t : SaidLists). t.deletions) (sym same);
        legal = is.headline.legal_trace is.setting.messages (λ i m at. at);
        text_is = refl;
      });
    })
    queue_ends kind front said (Err why) e same is fronts tells = absurd tells

    pub queue_cut : is_stream mapping.config.kind ≡ false → (end : Result MappingEnd OutOfMemory) → IfOk end HasQueueEnded → OnErr end HasQueueStopped → IsCutOf o r h old new
    queue_cut kind (Ok end) is stopped = inr (inr (ending_of end, queue_ended kind end is))
    queue_cut kind (Err why) is stopped = inr (inl (inr (record { mapping = mapping; files = files; ready = ready; kind = kind; run = stopped; read_first = later })))

-- nothing ran

module _ {S D F : Type 0} (m : DiskMeaning D) (a : Asks D) (h : List Entry) (old new : Seen S D F) where
  pub refused_run : HasNotBegun m a h old new → (why : FilesError) (e : Ending)
      → AreRefused m old.disks.journal old.disks.spare old.disks.failures new.disks.journal new.disks.spare new.disks.failures why
      → new.disks.registry ≡ old.disks.registry → ending_of_files why ≡ Some e → HasNotRun m a h old new (last_line e) e
  refused_run unbegun why e refused unopened tells = record {
    why = inl (record { why = why; refused = refused; tells = tells; unopened = unopened });
    unbegun = unbegun;
    text_is = refl;
  }

  pub unnamed_run : HasNotBegun m a h old new → AreGoodFiles m old.disks → (why : MappingError) (e : Ending) (read : D) → new.disks.registry ≡ read
      → a.why_not old.disks.registry read why → ending_of_mapping why ≡ Some e → HasNotRun m a h old new (last_line e) e
  unnamed_run unbegun good why e read same refused tells = record {
    why = inr (record { good = good; why = why; refused = subst (λ disk. a.why_not old.disks.registry disk why) (sym same) refused; tells = tells });
    unbegun = unbegun;
    text_is = refl;
  }

-- which is a cause of the command's, and nothing is told before the last line
pub ends_alone : (cause : List ℕ → Ending → Type 0) (front : List ℕ) (h : List Entry) (e : Ending) → front ≡ [] → cause (last_line e) e → stands_alone e ≡ true → EndsWith cause front h began.Nothing e
ends_alone cause front h e none is alone = record {
  ended = record { text = last_line e; cause_is = is };
  report = behind front [] h e began.Nothing (last_line e) none (record { alone = alone; text_is = refl });
}

module _ {S D F : Type 0} (o : RunTells S D F) (r : RunWords) (h : List Entry) (old new : Seen S D F) (front : List ℕ) (none : front ≡ []) where
  pub refused_ends : HasNotBegun o.run.disk (asked o r) h old new → (why : FilesError) (e : Ending)
      → AreRefused o.run.disk old.disks.journal old.disks.spare old.disks.failures new.disks.journal new.disks.spare new.disks.failures why
      → new.disks.registry ≡ old.disks.registry → ending_of_files why ≡ Some e → EndsWith (RunCause o r h old new) front h began.Nothing e
  refused_ends unbegun why e refused unopened tells =
      ends_alone (RunCause o r h old new) front h e none (inl (refused_run o.run.disk (asked o r) h old new unbegun why e refused unopened tells)) (files_alone why e tells)

  pub mapping_ends : HasNotBegun o.run.disk (asked o r) h old new → AreGoodFiles o.run.disk old.disks → (why : MappingError) (e : Ending) (read : D) → new.disks.registry ≡ read
      → WhyNot o.run.disk r.which old.disks.registry read why → ending_of_mapping why ≡ Some e → EndsWith (RunCause o r h old new) front h began.Nothing e
  mapping_ends unbegun good why e read same refused tells =
      ends_alone (RunCause o r h old new) front h e none (inl (unnamed_run o.run.disk (asked o r) h old new unbegun good why e read same refused tells)) (mapping_alone why e tells)

-- an ending that was told, of a history that is this one
pub told_run : (cause : List ℕ → Ending → Type 0) (h : List Entry) (output : Written) (status : ℕ) (b : Began) (e : Ending) (front : List ℕ) (es : List Entry) → EndsWith cause front h b e → es ≡ h
    → ((text : List ℕ) → IsReportBehind front es e b text → IsTold output.faults_before output.faults_now output.before output.after text e status) → HasTold cause output status
told_run cause h output status b e front es ends same tells = record {
  ending = e;
  ended = ends.ended;
  told = tells ends.ended.text (subst (λ (past : List Entry). IsReportBehind front past e b ends.ended.text) (sym same) ends.report);
}

-- what a run wrote to be told is what it hands on
pub handed_on : {A V : Type 0} (items : V → List ℕ) (end : Result A OutOfMemory) (front : Result V OutOfMemory) (mine : V) (asked trace : Bool) (text : Bool → List ℕ)
    → front ≡ Ok mine → asked ≡ trace → (is_ok end ≡ true → IfOk front (λ v. items v ≡ text asked)) → is_ok end ≡ true → items mine ≡ text trace
handed_on items end front mine asked trace text is same told ended =
    subst (λ (x : Result _ _). IfOk x (λ v. items v ≡ text asked)) is (told ended) ∙ ap text same
