-- What `run` and `redrive` leave of the life of a queue's mapping: with the run or the redrive one further stage.
use Rattle.std.proofs.Common.{◌≡◌, ◌⊎◌, ℕ, Bool, List, ◌∷◌, Option, Some, None, ap, arith, inl, inr, refl, subst}
use Rattle.esm_folder.specs.Upkeep.{AreSettled, OneRose}
use Rattle.esm_input.specs.declared.ending.InputEnd.{InputEnd}
use Rattle.esm_input.specs.Positions.{from_start}
use Rattle.esm_input.specs.Reading.{handed, items_read}
use Rattle.esm_io.specs.Faults.{Rose}
use Rattle.esm_io.specs.Images.{Only}
use Rattle.esm_io.specs.Meanings.{DiskMeaning}
use Rattle.esm_journal.specs.Pair.{first_disk, second_disk}
use Rattle.esm_life.specs.Left.{AreLinesSinceStart}
use Rattle.esm_life.specs.Queues.{HasRunOver, OpensToLife, stage_of}
use Rattle.esm_life.specs.Redrives as redrives
use Rattle.esm_mapping.specs.declared.named.NamedMapping.{NamedMapping}
use Rattle.esm_model.specs.declared.book.Trouble.{Trouble}
use Rattle.esm_model.specs.declared.book.Trouble.TheVariants as trouble
use Rattle.esm_model.specs.declared.entry.Entry.{Entry}
use Rattle.esm_model.specs.declared.item.Item.{Item}
use Rattle.esm_model.specs.declared.item.Message.{Message}
use Rattle.esm_program_life.specs.QueueRan.{AnyRose, HasRanOver, HasRedriven, TellsNoTrouble}
use Rattle.esm_program_life.specs.Reads.{HasRead}
use Rattle.esm_program_life.proofs.ReadInputs.{all_read}
use Rattle.esm_program_life.specs.Queues.{HasLife, IsQueueOf, IsRedriveOf, IsRunOf, IsWholeRun}
use Rattle.esm_program_life.proofs.Disks.{AreLeft}
use Rattle.esm_program_life.proofs.QueueDisks.{AreLaws, of_redrive, of_run, of_whole, of_whole_redrive}
use Rattle.esm_queue_life.specs.Life.{Ran, Redriven, Run, Stage}
use Rattle.esm_queue_model.specs.QueueSetting.{QueueSetting}
use Rattle.esm_queue_model.specs.QueueStep.{SettledQueue}
use Rattle.esm_redrive_life.specs.Life.{IsWhole, Redrive}
use Rattle.esm_redrive_model.specs.RedriveSetting.{RedriveSetting}
use Rattle.esm_redrive_run.specs.Ended as redrive_ended
use Rattle.esm_redrive_run.specs.Headline.{Disks as RedriveDisks}
use Rattle.esm_redrive_run.specs.declared.run.RedriveEnd.{RedriveEnd}
use Rattle.esm_redrive_run.specs.declared.run.RedriveEnd.TheVariants as redrive_end
use Rattle.esm_run.specs.Answers.{IsReadyFor}
use Rattle.esm_run.specs.Asks.{Asks}
use Rattle.esm_run.specs.FirstCaller.{IsFirstUsed}
use Rattle.esm_run.specs.Redrive.{redrive_asks, redrive_disks, words_of}
use Rattle.esm_run.specs.World.{Seen, devices_of}
use Rattle.esm_run.specs.declared.asked.RedriveWords.{RedriveWords}
use Rattle.esm_runner.specs.Ended.{trouble_of}
use Rattle.esm_runner.specs.Files.{FilesState, IsOpenedFiles}
use Rattle.esm_runner.specs.Given.{AreGiven}
use Rattle.esm_runner.specs.Headline.{Devices, Telling}
use Rattle.esm_runner.specs.QueueComing.{messages_in_items}
use Rattle.esm_runner.specs.QueueEnded.{HasEnded, HasStoppedRun, IsCauseOf, IsFaultOf, line_kind}
use Rattle.esm_runner.specs.QueueHeadline.{CallsMade, CallsMadeOrOneMore}
use Rattle.esm_runner.specs.declared.run.MappingEnd.{MappingEnd}
use Rattle.esm_runner.specs.declared.run.MappingEnd.TheVariants as end
use Rattle.esm_workers.specs.Working.{Outside}

-- runs

fault_of : {D F : Type 0} (t : Telling D F) (f : FilesState D) (s : QueueSetting) (h : List Entry) (messages : List Message) (reading : Option InputEnd) (bytes_left : Option (List ℕ)) (new : Devices D F) (e : MappingEnd)
    → IsCauseOf t f s h messages reading bytes_left new e → trouble_of e ≡ Some trouble.Disk → OneRose t.disk f.journal f.spare new.journal new.spare
fault_of t f s h messages reading bytes_left new end.DiskFault cause is = cause
fault_of t f s h messages reading bytes_left new end.DestFault cause is = absurd cause
fault_of t f s h messages reading bytes_left new (end.Changed change) cause is = cc
fault_of t f s h messages reading bytes_left new end.CallsSpent cause is = cc
fault_of t f s h messages reading bytes_left new (end.Finished why) cause is = cc

stopped_fault : {D F : Type 0} (t : Telling D F) (f : FilesState D) (new : Devices D F) (trouble_is : Option Trouble) → IsFaultOf t f new trouble_is → trouble_is ≡ Some trouble.Disk → OneRose t.disk f.journal f.spare new.journal new.spare
stopped_fault t f new (Some trouble.Disk) fault is = fault
stopped_fault t f new (Some trouble.Dest) fault is = absurd fault
stopped_fault t f new (Some (trouble.Changed change)) fault is = cc
stopped_fault t f new None fault is = cc

one_more : {D F : Type 0} (t : Telling D F) (s : QueueSetting) (h : List Entry) (old new : List F) → CallsMade t s h old new → CallsMadeOrOneMore t s h old new
one_more t s h old new made k d low = inl (made k d low)

rose_at : {D : Type 0} (m : DiskMeaning D) (f : FilesState D) (journal spare journal' spare' : D) → f.journal ≡ journal → f.spare ≡ spare → OneRose m f.journal f.spare journal' spare' → OneRose m journal spare journal' spare'
rose_at m f journal spare journal' spare' journal_is spare_is rose =
    subst (λ j. OneRose m j spare journal' spare') journal_is (subst (λ s. OneRose m f.journal s journal' spare') spare_is rose)

module _ {S D F : Type 0} (t : Telling D F) (a : Asks D) (calls visibility : ℕ) (h : List Entry) (old new : Seen S D F) (told : Type 0) (status : ℕ) (reads : NamedMapping → List Item → Type 0) (mapping : NamedMapping) (files : FilesState D) (ready : IsReadyFor t.disk a old new mapping files) where
  pub of_ended : {I : Type 0} (faults : I → ℕ) (left : I → Option (List ℕ)) (was now : I) → ((items : List Item) → HasRead left (line_kind mapping.config) mapping.config.factor mapping.config.start status was now items → reads mapping items) → (reading : Option InputEnd) (e : MappingEnd) → HasEnded t faults left mapping.config calls visibility files was now reading old.callers h (devices_of new) e → (trouble_of e ≡ Some trouble.Disk → told) → (TellsNoTrouble status → trouble_of e ≡ None)
      → HasRanOver t told status (a.is_named old.disks.registry) reads calls visibility h old.disks.journal old.disks.spare old.disks.failures old.callers (devices_of new)
  of_ended faults left was now reads_so reading e run tells quiet = record {
    mapping = mapping;
    named = ready.named;
    files = files;
    journal_is = ready.journal;
    spare_is = ready.spare;
    failures_is = ready.failures;
    opened = ready.opened;
    items = handed run.input;
    read = reads_so (handed run.input)
        (all_read faults left status (line_kind mapping.config) mapping.config.factor mapping.config.start was now run.input run.is_input.kind run.is_input.factor run.is_input.start run.is_input.found run.is_input.source run.is_input.read);
    setting = run.setting;
    is_setting = run.is_setting;
    trouble_is = trouble_of e;
    hand = run.hand;
    headline = run.headline;
    calls_made = one_more t run.setting h old.callers new.callers run.calls_made;
    calls_ended = λ known. run.calls_made;
    no_trouble = quiet;
    fault = λ is. (
      inl (rose_at t.disk files old.disks.journal old.disks.spare new.disks.journal new.disks.spare ready.journal ready.spare
          (fault_of t files run.setting h (messages_in_items (handed run.input)) reading (left now) (devices_of new) e run.cause is)),
      tells is,
    );
  }

  pub of_stopped : {I : Type 0} (left : I → Option (List ℕ)) (was now : I) → ((items : List Item) → HasRead left (line_kind mapping.config) mapping.config.factor mapping.config.start status was now items → reads mapping items) → HasStoppedRun t left mapping.config calls visibility files was now old.callers h (devices_of new) → told → status ≡ 70
      → HasRanOver t told status (a.is_named old.disks.registry) reads calls visibility h old.disks.journal old.disks.spare old.disks.failures old.callers (devices_of new)
  of_stopped left was now reads_so run tells short = record {
    mapping = mapping;
    named = ready.named;
    files = files;
    journal_is = ready.journal;
    spare_is = ready.spare;
    failures_is = ready.failures;
    opened = ready.opened;
    items = from_start mapping.config.start (items_read (line_kind mapping.config) mapping.config.factor run.whole run.bytes).items;
    read = reads_so (from_start mapping.config.start (items_read (line_kind mapping.config) mapping.config.factor run.whole run.bytes).items) (record {
      bytes = run.bytes;
      more = run.more;
      whole = run.whole;
      taken = run.taken;
      items_are = refl;
      no_more = λ known. absurd (known short);
      at_end = λ known whole. absurd (known short);
    });
    setting = run.setting;
    is_setting = run.is_setting;
    trouble_is = run.trouble;
    hand = run.hand;
    headline = run.headline;
    calls_made = run.calls_made;
    calls_ended = λ known. absurd (known short);
    no_trouble = λ quiet. absurd (quiet.hides.memory short);
    fault = λ is. (
      inl (rose_at t.disk files old.disks.journal old.disks.spare new.disks.journal new.disks.spare ready.journal ready.spare (stopped_fault t files (devices_of new) run.trouble run.fault is)),
      tells,
    );
  }

-- what such a run leaves of a life

pub record AddsRun {D F : Type 0} (t : Telling D F) (fifo : Bool) (life : List Stage) (status : ℕ) (names : NamedMapping → Type 0) (reads : NamedMapping → List Item → Type 0) (calls visibility : ℕ) (h : List Entry) (old new : List F) (one other bytes : List ℕ) : Type 0 where
  pub run : Run
  pub is_run : IsRunOf t status names reads calls visibility h old new run
  pub epoch : ℕ
  pub opens : OpensToLife fifo (Ran run ∷ life) epoch one other bytes

pub record AddsWholeRun {D F : Type 0} (t : Telling D F) (fifo : Bool) (life : List Stage) (status : ℕ) (names : NamedMapping → Type 0) (reads : NamedMapping → List Item → Type 0) (calls visibility : ℕ) (h : List Entry) (old : List F) (new : Devices D F) : Type 0 where
  pub run : Run
  pub is_run : IsRunOf t status names reads calls visibility h old new.callers run
  pub whole : IsWholeRun status run
  pub epoch : ℕ
  pub opens : OpensToLife fifo (Ran run ∷ life) epoch (t.disk.content new.journal) (t.disk.content new.spare) (t.disk.content new.failures)
  pub settled : AreSettled t.disk new.journal new.spare
  pub settled_lines : Only (t.disk.content new.failures) (t.disk.image new.failures)

module _ {D F : Type 0} (t : Telling D F) (laws : AreLaws F t.disk) (fifo : Bool) (life : List Stage) (epoch : ℕ) (told : Type 0) (status : ℕ) (names : NamedMapping → Type 0) (reads : NamedMapping → List Item → Type 0) (calls visibility : ℕ) (h : List Entry) (journal spare failures : D) (old : List F) (new : Devices D F) (has : HasLife t.disk fifo life epoch journal spare failures)
    (ran : HasRanOver t told status names reads calls visibility h journal spare failures old new) (kind : IsQueueOf fifo ran.mapping.config.kind) where
  over : HasRunOver t.disk t.callers t.line ran.mapping.config calls visibility ran.files (messages_in_items ran.items) ran.setting h ran.trouble_is ran.hand new
  over = record { opened = ran.opened; is_setting = ran.is_setting; headline = ran.headline }

  run_is : (recorded : List Entry) → AreGiven t.callers.gave recorded → IsRunOf t status names reads calls visibility h old new.callers (stage_of ran.setting h recorded)
  run_is recorded moments = record {
    mapping = ran.mapping;
    named = ran.named;
    config_is = ap (λ (s : QueueSetting). s.config) ran.is_setting.opened;
    calls_are = ap (λ (s : QueueSetting). s.calls) ran.is_setting.opened;
    visibility_is = ap (λ (s : QueueSetting). s.visibility) ran.is_setting.opened;
    items = ran.items;
    read = ran.read;
    came = ran.is_setting.came;
    happened_is = refl;
    moments = moments;
    calls_made = ran.calls_made;
    calls_ended = ran.calls_ended;
  }

  pub adds_run : (one other bytes : List ℕ) → AreLeft t.disk ran.files journal spare new.journal new.spare one other → AreLinesSinceStart t.disk failures new.failures bytes ⊎ t.disk.since new.failures (t.disk.moment ran.files.dest.disk) bytes → AddsRun t fifo life status names reads calls visibility h old new.callers one other bytes
  adds_run one other bytes left lines_left =
      let by = of_run t.disk laws fifo life epoch journal spare failures has ran.files ran.journal_is ran.spare_is ran.failures_is t.callers t.line ran.mapping.config calls visibility kind.1 (messages_in_items ran.items) ran.setting h ran.trouble_is ran.hand new over one other bytes left lines_left in
      record { run = stage_of ran.setting h by.recorded; is_run = run_is by.recorded by.moments; epoch = ran.files.pair.epoch; opens = by.opens }

  -- where nothing tells of a trouble nothing is called for
  settled_here : TellsNoTrouble status → SettledQueue ran.setting h
  settled_here quiet = ran.headline.settled (ran.no_trouble quiet) ran.setting.messages (λ i message at. at)

  pub adds_whole_run : ((AnyRose t.disk journal spare failures new.journal new.spare new.failures × told) → ⊥) → AddsWholeRun t fifo life status names reads calls visibility h old new
  adds_whole_run none =
      let by = of_whole t.disk laws fifo life epoch journal spare failures has ran.files ran.journal_is ran.spare_is ran.failures_is t.callers t.line ran.mapping.config calls visibility kind.1 (messages_in_items ran.items) ran.setting h ran.trouble_is ran.hand new over (λ is. none (ran.fault is)) in
      record { run = stage_of ran.setting h h; is_run = run_is h ran.headline.moments; whole = record { recorded = refl; settled = settled_here }; epoch = ran.files.pair.epoch; opens = by.0; settled = by.1; settled_lines = by.2 }

-- redrives

-- the fault of a disk as it was opened is one of the disk as it was handed in
any_rose_at : {D : Type 0} (m : DiskMeaning D) (f : FilesState D) (journal spare failures journal' spare' dead : D) → f.journal ≡ journal → f.spare ≡ spare → f.failures ≡ failures → IsOpenedFiles m f
    → OneRose m (first_disk f.pair) (second_disk f.pair) journal' spare' ⊎ Rose (m.faults f.dest.disk) (m.faults dead) → AnyRose m journal spare failures journal' spare' dead
any_rose_at m f journal spare failures journal' spare' dead journal_is spare_is failures_is opened rose =
    subst (λ j. AnyRose m j spare failures journal' spare' dead) journal_is (subst (λ s. AnyRose m f.journal s failures journal' spare' dead) spare_is (subst (λ d. AnyRose m f.journal f.spare d journal' spare' dead) failures_is (back rose)))
  where
    back : OneRose m (first_disk f.pair) (second_disk f.pair) journal' spare' ⊎ Rose (m.faults f.dest.disk) (m.faults dead) → AnyRose m f.journal f.spare f.failures journal' spare' dead
    back (inl (inl rose)) = inl (inl (λ low. omega (arith, opened.read.0.never_falls, rose low)))
    back (inl (inr rose)) = inl (inr (λ low. omega (arith, opened.read.1.never_falls, rose low)))
    back (inr rose) = inr (λ low. omega (arith, opened.lines_read.never_falls, rose low))

redrive_fault : {D : Type 0} (m : DiskMeaning D) (f : FilesState D) (s : RedriveSetting) (h : List Entry) (messages : List Message) (reading : Option InputEnd) (new : RedriveDisks D) (e : RedriveEnd) → redrive_ended.IsCauseOf m f s h messages reading new e
    → (redrive_ended.trouble_of e ≡ Some trouble.Disk) ⊎ (redrive_ended.trouble_of e ≡ Some trouble.Dest) → OneRose m (first_disk f.pair) (second_disk f.pair) new.journal new.spare ⊎ Rose (m.faults f.dest.disk) (m.faults new.dead)
redrive_fault m f s h messages reading new redrive_end.DiskFault cause is = inl cause
redrive_fault m f s h messages reading new redrive_end.DestFault cause is = inr cause
redrive_fault m f s h messages reading new redrive_end.CallsSpent cause (inl is) = cc
redrive_fault m f s h messages reading new redrive_end.CallsSpent cause (inr is) = cc
redrive_fault m f s h messages reading new (redrive_end.Finished why) cause (inl is) = cc
redrive_fault m f s h messages reading new (redrive_end.Finished why) cause (inr is) = cc
redrive_fault m f s h messages reading new (redrive_end.Changed change) cause (inl is) = cc
redrive_fault m f s h messages reading new (redrive_end.Changed change) cause (inr is) = cc
redrive_fault m f s h messages reading new (redrive_end.BadLine index) cause is = absurd cause

stopped_redrive_fault : {D : Type 0} (m : DiskMeaning D) (f : FilesState D) (new : RedriveDisks D) (trouble_is : Option Trouble) → redrive_ended.IsFaultOf m f new trouble_is
    → (trouble_is ≡ Some trouble.Disk) ⊎ (trouble_is ≡ Some trouble.Dest) → OneRose m (first_disk f.pair) (second_disk f.pair) new.journal new.spare ⊎ Rose (m.faults f.dest.disk) (m.faults new.dead)
stopped_redrive_fault m f new (Some trouble.Disk) fault is = inl fault
stopped_redrive_fault m f new (Some trouble.Dest) fault is = inr fault
stopped_redrive_fault m f new (Some (trouble.Changed change)) fault is = absurd fault
stopped_redrive_fault m f new None fault (inl is) = cc
stopped_redrive_fault m f new None fault (inr is) = cc

module _ {S D F : Type 0} (t : redrive_ended.Telling D F) (faults : S → ℕ) (left : S → Option (List ℕ)) (told : Type 0) (status : ℕ) (w : RedriveWords) (reads : NamedMapping → List Item → Type 0) (h : List Entry) (old new : Seen S D F) (mapping : NamedMapping) (files : FilesState D) (ready : IsReadyFor t.disk (redrive_asks w) old new mapping files)
    (caller caller_left : F) (first_used : IsFirstUsed old.callers new.callers caller caller_left) (reading : Option InputEnd)
    (reads_so : (items : List Item) → HasRead left (line_kind mapping.config) mapping.config.factor mapping.config.start status old.input new.input items → reads mapping items) where
  abbrev pub HasRedrivenIn : Type 0
  HasRedrivenIn = HasRedriven t told status w reads h old.disks.journal old.disks.spare old.disks.failures old.callers new.callers (redrive_disks new)

  pub of_ended_redrive : (e : RedriveEnd) → redrive_ended.HasRun t faults left (words_of w mapping.config) files old.input new.input reading caller caller_left h (redrive_disks new) e
      → ((redrive_ended.trouble_of e ≡ Some trouble.Disk) ⊎ (redrive_ended.trouble_of e ≡ Some trouble.Dest) → told) → HasRedrivenIn
  of_ended_redrive e run tells = record {
    mapping = mapping;
    named = ready.named;
    files = files;
    journal_is = ready.journal;
    spare_is = ready.spare;
    failures_is = ready.failures;
    opened = ready.opened;
    items = handed run.input;
    read = reads_so (handed run.input)
        (all_read faults left status (line_kind mapping.config) mapping.config.factor mapping.config.start old.input new.input run.input run.is_input.kind run.is_input.factor run.is_input.start run.is_input.found run.is_input.source run.is_input.read);
    setting = run.setting;
    is_setting = run.is_setting;
    trouble_is = redrive_ended.trouble_of e;
    hand = run.hand;
    tried = run.tried;
    headline = run.headline;
    caller = caller;
    caller_left = caller_left;
    first_used = first_used;
    calls_made = inl run.calls_made;
    calls_ended = λ known. run.calls_made;
    fault = λ is. (
      any_rose_at t.disk files old.disks.journal old.disks.spare old.disks.failures new.disks.journal new.disks.spare new.disks.failures ready.journal ready.spare ready.failures ready.opened
          (redrive_fault t.disk files run.setting h (messages_in_items (handed run.input)) reading (redrive_disks new) e run.cause is),
      tells is,
    );
  }

  pub of_stopped_redrive : redrive_ended.HasStopped t faults left (words_of w mapping.config) files old.input new.input reading caller caller_left h (redrive_disks new) → told → status ≡ 70 → HasRedrivenIn
  of_stopped_redrive run tells short = record {
    mapping = mapping;
    named = ready.named;
    files = files;
    journal_is = ready.journal;
    spare_is = ready.spare;
    failures_is = ready.failures;
    opened = ready.opened;
    items = from_start mapping.config.start (items_read (line_kind mapping.config) mapping.config.factor run.whole run.bytes).items;
    read = reads_so (from_start mapping.config.start (items_read (line_kind mapping.config) mapping.config.factor run.whole run.bytes).items) (record {
      bytes = run.bytes;
      more = run.more;
      whole = run.whole;
      taken = run.taken;
      items_are = refl;
      no_more = λ known. absurd (known short);
      at_end = λ known whole. absurd (known short);
    });
    setting = run.setting;
    is_setting = run.is_setting;
    trouble_is = run.trouble;
    hand = run.hand;
    tried = run.tried;
    headline = run.headline;
    caller = caller;
    caller_left = caller_left;
    first_used = first_used;
    calls_made = run.calls_made;
    calls_ended = λ known. absurd (known short);
    fault = λ is. (
      any_rose_at t.disk files old.disks.journal old.disks.spare old.disks.failures new.disks.journal new.disks.spare new.disks.failures ready.journal ready.spare ready.failures ready.opened (stopped_redrive_fault t.disk files (redrive_disks new) run.trouble run.fault is),
      tells,
    );
  }

pub record AddsRedrive {F : Type 0} (callers : Outside F) (fifo : Bool) (life : List Stage) (status : ℕ) (w : RedriveWords) (reads : NamedMapping → List Item → Type 0) (h : List Entry) (old new : List F) (one other bytes : List ℕ) : Type 0 where
  pub redrive : Redrive
  pub is_redrive : IsRedriveOf callers status w.config reads w.max_receives w.calls w.visibility h old new redrive
  pub epoch : ℕ
  pub opens : OpensToLife fifo (Redriven redrive ∷ life) epoch one other bytes

pub record AddsWholeRedrive {D F : Type 0} (m : DiskMeaning D) (callers : Outside F) (fifo : Bool) (life : List Stage) (status : ℕ) (w : RedriveWords) (reads : NamedMapping → List Item → Type 0) (h : List Entry) (old new_callers : List F) (new : RedriveDisks D) : Type 0 where
  pub redrive : Redrive
  pub is_redrive : IsRedriveOf callers status w.config reads w.max_receives w.calls w.visibility h old new_callers redrive
  pub whole : IsWhole redrive
  pub epoch : ℕ
  pub opens : OpensToLife fifo (Redriven redrive ∷ life) epoch (m.content new.journal) (m.content new.spare) (m.content new.dead)
  pub settled : AreSettled m new.journal new.spare
  pub settled_lines : Only (m.content new.dead) (m.image new.dead)

module _ {D F : Type 0} (t : redrive_ended.Telling D F) (laws : AreLaws F t.disk) (fifo : Bool) (life : List Stage) (epoch : ℕ) (told : Type 0) (status : ℕ) (w : RedriveWords) (reads : NamedMapping → List Item → Type 0) (h : List Entry) (journal spare failures : D) (old new_callers : List F) (new : RedriveDisks D) (has : HasLife t.disk fifo life epoch journal spare failures)
    (ran : HasRedriven t told status w reads h journal spare failures old new_callers new) (kind : IsQueueOf fifo ran.mapping.config.kind) where
  redrive_is : (recorded lined : List Entry) → AreGiven t.callers.gave recorded → AreGiven t.callers.gave lined → IsRedriveOf t.callers status w.config reads w.max_receives w.calls w.visibility h old new_callers (redrives.stage_of ran.setting h recorded lined)
  redrive_is recorded lined moments lines_given = record {
    mapping = ran.mapping;
    named = ran.named;
    config_is = ap (λ (s : RedriveSetting). s.queue.config) ran.is_setting.opened;
    receives_are = ap (λ (s : RedriveSetting). s.max_receives) ran.is_setting.opened;
    calls_are = ap (λ (s : RedriveSetting). s.queue.calls) ran.is_setting.opened;
    visibility_is = ap (λ (s : RedriveSetting). s.queue.visibility) ran.is_setting.opened;
    items = ran.items;
    read = ran.read;
    came = ran.is_setting.came;
    happened_is = refl;
    moments = moments;
    lines_given = lines_given;
    caller = ran.caller;
    caller_left = ran.caller_left;
    first_used = ran.first_used;
    calls_made = ran.calls_made;
    calls_ended = ran.calls_ended;
  }

  pub adds_redrive : (one other bytes : List ℕ) → AreLeft t.disk ran.files journal spare new.journal new.spare one other → t.disk.image new.dead bytes → AddsRedrive t.callers fifo life status w reads h old new_callers one other bytes
  adds_redrive one other bytes left now =
      let by = of_redrive t.disk laws fifo life epoch journal spare failures has ran.files ran.journal_is ran.spare_is ran.failures_is t.callers.gave (words_of w ran.mapping.config) kind.1 (messages_in_items ran.items) ran.setting h ran.trouble_is ran.hand ran.tried new ran.opened ran.is_setting ran.headline one other bytes left now in
      record { redrive = redrives.stage_of ran.setting h by.recorded by.lined; is_redrive = redrive_is by.recorded by.lined by.moments by.lines_given; epoch = ran.files.pair.epoch; opens = by.opens }

  pub adds_whole_redrive : ((AnyRose t.disk journal spare failures new.journal new.spare new.dead × told) → ⊥) → AddsWholeRedrive t.disk t.callers fifo life status w reads h old new_callers new
  adds_whole_redrive none =
      let by = of_whole_redrive t.disk laws fifo life epoch journal spare failures has ran.files ran.journal_is ran.spare_is ran.failures_is t.callers.gave (words_of w ran.mapping.config) kind.1 (messages_in_items ran.items) ran.setting h ran.trouble_is ran.hand ran.tried new ran.opened ran.is_setting ran.headline
      (λ is. none (ran.fault (inl is))) (λ is. none (ran.fault (inr is))) in
      record { redrive = redrives.stage_of ran.setting h h h; is_redrive = redrive_is h h ran.headline.moments ran.headline.moments; whole = by.3; epoch = ran.files.pair.epoch; opens = by.0; settled = by.1; settled_lines = by.2 }
