-- How `ddb` came to its ending, or was stopped by want of memory. The run's own callers are those over the callers of the world.
use Rattle.std.proofs.Common.{◌≡◌, ◌∙◌, ◌<◌, ◌++◌, ℕ, zero, suc, Bool, true, List, [], ◌∷◌, length, refl, sym, ap, subst, inl, inr, Option, Some, None, Result, Ok, Err}
use Rattle.std.specs.Prelude.{IfOk, OnErr, is_ok, slice_index_or}
use Rattle.esm_ddb.specs.Translating.{source_of}
use Rattle.esm_ddb.specs.TurnedInput.{IsTurnedInput}
use Rattle.esm_ddb.specs.declared.caller.DdbCaller.{DdbCaller}
use Rattle.esm_ddb.specs.declared.input.InputTurned.{InputTurned}
use Rattle.esm_input.specs.Reading.{handed}
use Rattle.esm_input.specs.declared.ending.InputEnd.{InputEnd}
use Rattle.esm_io.specs.Told.{Grows}
use Rattle.esm_journal_state.specs.SaidLists.{SaidLists}
use Rattle.esm_mapping.specs.Named.{WhyNotExpected}
use Rattle.esm_mapping.specs.declared.expected.Expected.TheVariants.{DynamoDb}
use Rattle.esm_mapping.specs.declared.named.MappingError.{MappingError}
use Rattle.esm_mapping.specs.declared.named.NamedMapping.{NamedMapping}
use Rattle.esm_model.specs.Calls.{calls}
use Rattle.esm_model.specs.Entries.{CallsFollowShut}
use Rattle.esm_model.specs.Setting.{Setting}
use Rattle.esm_model.specs.declared.book.Trouble.{Trouble}
use Rattle.esm_model.specs.declared.book.Trouble.TheVariants as trouble
use Rattle.esm_model.specs.declared.config.Kind.TheVariants as kind
use Rattle.esm_model.specs.declared.entry.Entry.{Entry}
use Rattle.esm_model.specs.Records.{Record}
use Rattle.esm_model.specs.declared.memory.OutOfMemory.{OutOfMemory}
use Rattle.esm_report.specs.Report.{report_text}
use Rattle.esm_report.specs.declared.ending.Ending.{Ending}
use Rattle.esm_runner.specs.Coming.{records_in_items}
use Rattle.esm_runner.specs.Ended as stream
use Rattle.esm_runner.specs.Ended.{IsCauseOf, IsFaultOf, trouble_of}
use Rattle.esm_runner.specs.Files.{AreRefused, FilesState}
use Rattle.esm_runner.specs.Headline as runner
use Rattle.esm_runner.specs.Headline.{CallsMade, CallsMadeOrOneMore, Devices, FailureLinesCrashKept, FailureLinesKept, Telling, telling}
use Rattle.esm_runner.specs.Stopping.{HasLogged}
use Rattle.esm_runner.specs.declared.files.FilesError.{FilesError}
use Rattle.esm_runner.specs.declared.run.MappingEnd.{MappingEnd}
use Rattle.esm_runner.specs.declared.run.MappingEnd.TheVariants as end
use Rattle.esm_workers.specs.Working.{outside}
use Rattle.esm_run.specs.Answers.{AreGoodFiles, HasCome, HasNotBegun, IsReadyFor}
use Rattle.esm_run.specs.Ddb.{DdbCause, IsDdbCut, all_left, ddb_asks, never_fails}
use Rattle.esm_run.specs.Endings.{ending_of_ddb, ending_of_files, ending_of_mapping}
use Rattle.esm_run.specs.Ran.{EndsWith, IsDdbEndingOf}
use Rattle.esm_run.specs.Under.{callers_under}
use Rattle.esm_traced.specs.Front.{front_text}
use Rattle.esm_run.specs.World.{RunTells, Seen, ddb_tells, devices_of}
use Rattle.esm_run.specs.declared.left.Began.TheVariants as began
use Rattle.esm_run.proofs.Alone.{files_alone, mapping_alone}
use Rattle.esm_run.proofs.RunEndings.{behind, ends_alone, headline_of, refused_run, unnamed_run}

-- the callers over others

abbrev over : {F : Type 0} → F → DdbCaller F
over c = record { inner = c }

under_at : {F : Type 0} (cs : List (DdbCaller F)) (k : ℕ) (d : F) → slice_index_or (callers_under cs) k d ≡ (slice_index_or cs k (over d)).inner
under_at [] k d = refl
under_at (c ∷ cs) zero d = refl
under_at (c ∷ cs) (suc k) d = under_at cs k d

pub under_length : {F : Type 0} (cs : List (DdbCaller F)) → length (callers_under cs) ≡ length cs
under_length [] = refl
under_length (c ∷ cs) = ap suc (under_length cs)

-- what they tell

abbrev pub tells_over : {D F : Type 0} → Telling D F → Telling D (DdbCaller F)
tells_over t = telling (outside t.callers.gave t.callers.sends (λ c. t.callers.log c.inner)) t.disk t.line

abbrev pub devices_under : {D F : Type 0} → Devices D (DdbCaller F) → Devices D F
devices_under new = record { journal = new.journal; spare = new.spare; failures = new.failures; callers = callers_under new.callers }

module _ {D F : Type 0} (t : Telling D F) where
  calls_under : (s : Setting) (h : List Entry) (olds news : List (DdbCaller F)) → CallsMade (tells_over t) s h olds news → CallsMade t s h (callers_under olds) (callers_under news)
  calls_under s h olds news made = λ k d within.
      subst (λ x. Grows (t.callers.log x) (t.callers.log (slice_index_or (callers_under news) k d)) (calls s t.callers.sends h k)) (sym (under_at olds k d))
      (subst (λ y. Grows (t.callers.log (slice_index_or olds k (over d)).inner) (t.callers.log y) (calls s t.callers.sends h k)) (sym (under_at news k d))
      (made k (over d) (subst (λ n. k < n) (under_length olds) within)))

  calls_or_more_under : (s : Setting) (h : List Entry) (olds news : List (DdbCaller F)) → CallsMadeOrOneMore (tells_over t) s h olds news
      → CallsMadeOrOneMore t s h (callers_under olds) (callers_under news)
  calls_or_more_under s h olds news made = λ k d within.
      subst (λ x. HasLogged t.callers.sends s h k (t.callers.log x) (t.callers.log (slice_index_or (callers_under news) k d))) (sym (under_at olds k d))
      (subst (λ y. HasLogged t.callers.sends s h k (t.callers.log (slice_index_or olds k (over d)).inner) (t.callers.log y)) (sym (under_at news k d))
      (made k (over d) (subst (λ n. k < n) (under_length olds) within)))

  lines_under : (f : FilesState D) (o : Option Trouble) (h hand : List Entry) (new : Devices D (DdbCaller F)) → FailureLinesKept (tells_over t) f o h hand new → FailureLinesKept t f o h hand (devices_under new)
  lines_under f None h hand new kept = kept
  lines_under f (Some trouble.Disk) h hand new kept = kept
  lines_under f (Some trouble.Dest) h hand new kept = kept
  lines_under f (Some (trouble.Changed change)) h hand new kept = kept

  crash_under : (f : FilesState D) (s : Setting) (h : List Entry) (o : Option Trouble) (hand : List Entry) (new : Devices D (DdbCaller F))
      → FailureLinesCrashKept (tells_over t) f s h o hand new → FailureLinesCrashKept t f s h o hand (devices_under new)
  crash_under f s h o hand new is = record { tried = is.tried; is_tried = is.is_tried; tried_follows = is.tried_follows; tried_given = is.tried_given; since = is.since; since_opening = is.since_opening; now = is.now }

  fault_under : (f : FilesState D) (o : Option Trouble) (new : Devices D (DdbCaller F)) → IsFaultOf (tells_over t) f new o → IsFaultOf t f (devices_under new) o
  fault_under f None new fault = fault
  fault_under f (Some trouble.Disk) new fault = fault
  fault_under f (Some trouble.Dest) new fault = fault
  fault_under f (Some (trouble.Changed change)) new fault = fault

  cause_under : (f : FilesState D) (s : Setting) (h : List Entry) (records : List Record) (reading : Option InputEnd) (bytes_left : Option (List ℕ)) (new : Devices D (DdbCaller F)) (e : MappingEnd)
      → IsCauseOf (tells_over t) f s h records reading bytes_left new e → IsCauseOf t f s h records reading bytes_left (devices_under new) e
  cause_under f s h records reading bytes_left new (end.Finished why) cause = cause
  cause_under f s h records reading bytes_left new end.CallsSpent cause = cause
  cause_under f s h records reading bytes_left new end.DiskFault cause = cause
  cause_under f s h records reading bytes_left new end.DestFault cause = cause
  cause_under f s h records reading bytes_left new (end.Changed change) cause = cause

  headline_under : (f : FilesState D) (s : Setting) (h : List Entry) (o : Option Trouble) (hand : List Entry) (new : Devices D (DdbCaller F))
      → runner.Headline (tells_over t) f s h o hand new → runner.Headline t f s h o hand (devices_under new)
  headline_under f s h o hand new is = record {
    legal_trace = is.legal_trace;
    settled = is.settled;
    can_be_said = is.can_be_said;
    moments = is.moments;
    journal_kept = is.journal_kept;
    journal_stopped = is.journal_stopped;
    failure_lines_kept = lines_under f o h hand new is.failure_lines_kept;
    failure_lines_crash = crash_under f s h o hand new is.failure_lines_crash;
    in_hand = is.in_hand;
    hand_has_payload = is.hand_has_payload;
    hand_follows = is.hand_follows;
    hand_given = is.hand_given;
    crash = is.crash;
    crash_since_opening = is.crash_since_opening;
    one_fate = is.one_fate;
    fate_is_earned = is.fate_is_earned;
    answers_are_logged = is.answers_are_logged;
    fates_are_recorded = is.fates_are_recorded;
    checkpoint_is_longest = is.checkpoint_is_longest;
    checkpoint_is_recorded = is.checkpoint_is_recorded;
    order_per_key = is.order_per_key;
    no_repeat = is.no_repeat;
    every_record_counted = is.every_record_counted;
  }

pub same_devices_of : {D F : Type 0} (a b : Devices D F) → a.journal ≡ b.journal → a.spare ≡ b.spare → a.failures ≡ b.failures → a.callers ≡ b.callers → a ≡ b
same_devices_of {D} {F} a b journal spare failures callers =
    ap (λ d. record a { journal = d }) journal
    ∙ ap (λ d. record a { journal = b.journal; spare = d }) spare
    ∙ ap (λ d. record a { journal = b.journal; spare = b.spare; failures = d }) failures
    ∙ ap (λ (cs : List F). record b { callers = cs }) callers

-- the mapping ran

module _ {S D F : Type 0} (o : RunTells S D F) (config : List ℕ) (count : ℕ) (traced : Bool) (h : List Entry) (old new : Seen S D F) (mapping : NamedMapping) (files : FilesState D) (ready : IsReadyFor o.run.disk (ddb_asks config) old new mapping files) (lines : List ℕ) (turned : InputTurned) (is_turned : IsTurnedInput o.faults o.left (source_of mapping.config) old.input new.input lines turned) (rest : List ℕ) (reading : Option InputEnd) (wrapped : List (DdbCaller F)) (same : callers_under wrapped ≡ old.callers) (left : Devices D (DdbCaller F)) (same_devices : devices_of new ≡ devices_under left) (later : CallsFollowShut h) where
  abbrev HasRunTo : MappingEnd → Type 0
  HasRunTo end = stream.HasEnded (tells_over (ddb_tells o)) never_fails all_left mapping.config mapping.start count files lines rest reading wrapped h left end

  abbrev HasStoppedSo : Type 0
  HasStoppedSo = stream.HasStoppedRun (tells_over (ddb_tells o)) all_left mapping.config mapping.start count files lines rest wrapped h left

  made_under : (s : Setting) → CallsMade (tells_over (ddb_tells o)) s h wrapped left.callers → CallsMade (ddb_tells o) s h old.callers (devices_of new).callers
  made_under s made =
      subst (λ cs. CallsMade (ddb_tells o) s h cs (devices_of new).callers) same
      (subst (λ (d : Devices D F). CallsMade (ddb_tells o) s h (callers_under wrapped) d.callers) (sym same_devices) (calls_under (ddb_tells o) s h wrapped left.callers made))

  kept_under : (s : Setting) (x : Option Trouble) (hand : List Entry) → runner.Headline (tells_over (ddb_tells o)) files s h x hand left → runner.Headline (ddb_tells o) files s h x hand (devices_of new)
  kept_under s x hand is =
      subst (λ (d : Devices D F). runner.Headline (ddb_tells o) files s h x hand d) (sym same_devices) (headline_under (ddb_tells o) files s h x hand left is)

  came : (end : MappingEnd) → HasRunTo end → HasCome (DdbCause o config count traced h old new) (ending_of_ddb turned end)
  came end is = record {
    text = front_text traced kind.Stream h ++ report_text is.setting h (ending_of_ddb turned end);
    cause_is = inr (record {
      mapping = mapping;
      files = files;
      ready = ready;
      lines = lines;
      reading = turned;
      is_turned = is_turned;
      rest = rest;
      input = is.input;
      is_input = is.is_input;
      setting = is.setting;
      is_setting = is.is_setting;
      end = end;
      tells = refl;
      cause = subst (λ (x : Option InputEnd). IsCauseOf (ddb_tells o) files is.setting h (records_in_items (handed is.input)) x (Some rest) (devices_of new) end) (sym is.read_to)
          (subst (λ (d : Devices D F). IsCauseOf (ddb_tells o) files is.setting h (records_in_items (handed is.input)) reading (Some rest) d end) (sym same_devices)
          (cause_under (ddb_tells o) files is.setting h (records_in_items (handed is.input)) reading (Some rest) left end is.cause));
      hand = is.hand;
      headline = headline_of (ddb_tells o) true traced files is.setting h (trouble_of end) (ending_of_ddb turned end) is.hand old.callers (devices_of new)
          (kept_under is.setting (trouble_of end) is.hand is.headline) (made_under is.setting is.calls_made) is.rests (λ _. later);
    });
  }

  -- it came to its end, which is told
  pub ddb_ends : (front : List ℕ) (said : SaidLists) (end : Result MappingEnd OutOfMemory) (e : Ending) → said ≡ files.said → IfOk end HasRunTo → (is_ok end ≡ true → front ≡ front_text traced kind.Stream h)
      → IsDdbEndingOf turned end e → EndsWith (DdbCause o config count traced h old new) front h (began.Stream said) e
  unfolding came
  ddb_ends front said (Ok end) e is_said is fronts tells = subst (EndsWith (DdbCause o config count traced h old new) front h (began.Stream said)) (sym tells) (record {
    ended = came end is;
    report = behind front (front_text traced kind.Stream h) h (ending_of_ddb turned end) (began.Stream said) (report_text is.setting h (ending_of_ddb turned end)) (fronts refl) (record {
      setting = is.setting;
      fates = ap (λ (s : Setting). s.fates) is.is_setting.opened ∙ ap (λ (x : SaidLists). x.fates) (sym is_said);
      text_is = refl;
    });
  })
  ddb_ends front said (Err why) e is_said is fronts tells = absurd tells

  -- it was stopped, or its end could not be told
  pub ddb_cut : (end : Result MappingEnd OutOfMemory) → IfOk end HasRunTo → OnErr end HasStoppedSo → IsDdbCut o config count traced h old new
  ddb_cut (Ok end) is stopped = inr (inr (inr (ending_of_ddb turned end, came end is)))
  ddb_cut (Err why) is stopped = inr (inr (inl (record {
    mapping = mapping;
    files = files;
    ready = ready;
    lines = lines;
    reading = turned;
    is_turned = is_turned;
    rest = rest;
    run = record {
      bytes = stopped.bytes;
      more = stopped.more;
      whole = stopped.whole;
      taken = stopped.taken;
      setting = stopped.setting;
      is_setting = stopped.is_setting;
      trouble = stopped.trouble;
      fault = subst (λ (d : Devices D F). IsFaultOf (ddb_tells o) files d stopped.trouble) (sym same_devices) (fault_under (ddb_tells o) files stopped.trouble left stopped.fault);
      hand = stopped.hand;
      headline = kept_under stopped.setting stopped.trouble stopped.hand stopped.headline;
      calls_made = subst (λ cs. CallsMadeOrOneMore (ddb_tells o) stopped.setting h cs (devices_of new).callers) same
          (subst (λ (d : Devices D F). CallsMadeOrOneMore (ddb_tells o) stopped.setting h (callers_under wrapped) d.callers) (sym same_devices)
          (calls_or_more_under (ddb_tells o) stopped.setting h wrapped left.callers stopped.calls_made));
    };
    read_first = later;
  })))

-- nothing ran

module _ {S D F : Type 0} (o : RunTells S D F) (config : List ℕ) (count : ℕ) (traced : Bool) (h : List Entry) (old new : Seen S D F) (front : List ℕ) (none : front ≡ []) where
  pub ddb_refused : HasNotBegun o.run.disk (ddb_asks config) h old new → (why : FilesError) (e : Ending)
      → AreRefused o.run.disk old.disks.journal old.disks.spare old.disks.failures new.disks.journal new.disks.spare new.disks.failures why
      → new.disks.registry ≡ old.disks.registry → ending_of_files why ≡ Some e → EndsWith (DdbCause o config count traced h old new) front h began.Nothing e
  ddb_refused unbegun why e refused unopened tells =
      ends_alone (DdbCause o config count traced h old new) front h e none (inl (refused_run o.run.disk (ddb_asks config) h old new unbegun why e refused unopened tells)) (files_alone why e tells)

  pub ddb_unnamed : HasNotBegun o.run.disk (ddb_asks config) h old new → AreGoodFiles o.run.disk old.disks → (why : MappingError) (e : Ending)
      → WhyNotExpected DynamoDb config why → ending_of_mapping why ≡ Some e → EndsWith (DdbCause o config count traced h old new) front h began.Nothing e
  ddb_unnamed unbegun good why e refused tells =
      ends_alone (DdbCause o config count traced h old new) front h e none (inl (unnamed_run o.run.disk (ddb_asks config) h old new unbegun good why e new.disks.registry refl refused tells)) (mapping_alone why e tells)
