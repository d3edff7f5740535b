-- What `run` and `ddb` leave of a life: with the run of a stream's mapping one further stage.
use Rattle.std.proofs.Common.{◌≡◌, ℕ, Bool, List, ◌∷◌, Option, Some, None, ap, inl, refl, subst}
use Rattle.esm_folder.specs.Upkeep.{AreSettled, OneRose}
use Rattle.esm_input.specs.declared.ending.InputEnd.{InputEnd}
use Rattle.esm_input.specs.Positions.{from_start}
use Rattle.esm_input.specs.Reading.{items_read}
use Rattle.esm_io.specs.Meanings.{DiskMeaning}
use Rattle.esm_life.specs.Life.{Ran, Run, Stage}
use Rattle.esm_life.specs.Streams.{HasRunOver, OpensToLife, stage_of}
use Rattle.esm_mapping.specs.declared.named.NamedMapping.{NamedMapping}
use Rattle.esm_model.specs.declared.book.Trouble.{Trouble}
use Rattle.esm_model.specs.declared.book.Trouble.TheVariants as trouble
use Rattle.esm_model.specs.declared.entry.Entry.{Entry}
use Rattle.esm_model.specs.declared.item.Item.{Item}
use Rattle.esm_model.specs.declared.item.LineKind.TheVariants as kinds
use Rattle.esm_model.specs.Records.{Record}
use Rattle.esm_model.specs.Setting.{Setting}
use Rattle.esm_program_life.specs.Ran.{HasRanOver, TellsNoTrouble}
use Rattle.esm_program_life.specs.Reads.{HasRead}
use Rattle.esm_program_life.specs.Streams.{HasLife, IsRunOf, IsWholeRun}
use Rattle.esm_program_life.proofs.Disks.{AreLaws, AreLeft, of_run, of_whole}
use Rattle.esm_report.specs.declared.ending.Ending.{Ending}
use Rattle.esm_run.specs.Answers.{IsReadyFor}
use Rattle.esm_run.specs.Asks.{Asks}
use Rattle.esm_run.specs.Headline.{Headline as ToldHeadline}
use Rattle.esm_run.specs.World.{Seen, devices_of}
use Rattle.esm_runner.specs.Coming.{records_in_items}
use Rattle.esm_runner.specs.Ended.{HasStoppedRun, IsCauseOf, IsFaultOf, trouble_of}
use Rattle.esm_runner.specs.Files.{FilesState}
use Rattle.esm_runner.specs.Given.{AreGiven}
use Rattle.esm_runner.specs.Headline.{CallsMade, CallsMadeOrOneMore, Devices, Headline, IsSettingOf, Telling}
use Rattle.esm_runner.specs.declared.run.MappingEnd.{MappingEnd}
use Rattle.esm_runner.specs.declared.run.MappingEnd.TheVariants as end

-- such a run as `esm` tells of it

headline_of : {D F : Type 0} (t : Telling D F) (first traced : Bool) (f : FilesState D) (s : Setting) (h : List Entry) (trouble : Option Trouble) (ending : Ending) (hand : List Entry) (old : List F) (new : Devices D F) (text : List ℕ)
    → ToldHeadline t first traced f s h trouble ending hand old new text → Headline t f s h trouble hand new
headline_of t first traced f s h trouble ending hand old new text told = record {
  legal_trace = told.legal_trace;
  settled = told.settled;
  can_be_said = told.can_be_said;
  moments = told.moments;
  journal_kept = told.journal_kept;
  journal_stopped = told.journal_stopped;
  failure_lines_kept = told.failure_lines_kept;
  failure_lines_crash = told.failure_lines_crash;
  in_hand = told.in_hand;
  hand_has_payload = told.hand_has_payload;
  hand_follows = told.hand_follows;
  hand_given = told.hand_given;
  crash = told.crash_kept;
  crash_since_opening = told.crash_since_opening;
  one_fate = told.one_fate;
  fate_is_earned = told.fate_is_earned;
  answers_are_logged = told.answers_are_logged;
  fates_are_recorded = told.fates_are_recorded;
  checkpoint_is_longest = told.checkpoint_is_longest;
  checkpoint_is_recorded = told.checkpoint_is_recorded;
  order_per_key = told.order_per_key;
  no_repeat = told.no_repeat;
  every_record_counted = told.every_record_counted;
}

fault_of : {D F : Type 0} (t : Telling D F) (f : FilesState D) (s : Setting) (h : List Entry) (records : List Record) (reading : Option InputEnd) (bytes_left : Option (List ℕ)) (new : Devices D F) (e : MappingEnd)
    → IsCauseOf t f s h records reading bytes_left new e → trouble_of e ≡ Some trouble.Disk → OneRose t.disk f.journal f.spare new.journal new.spare
fault_of t f s h records reading bytes_left new end.DiskFault cause is = cause
fault_of t f s h records reading bytes_left new end.DestFault cause is = cc
fault_of t f s h records reading bytes_left new (end.Changed change) cause is = cc
fault_of t f s h records reading bytes_left new end.CallsSpent cause is = cc
fault_of t f s h records reading bytes_left new (end.Finished why) cause is = cc

stopped_fault : {D F : Type 0} (t : Telling D F) (f : FilesState D) (new : Devices D F) (trouble_is : Option Trouble) → IsFaultOf t f new trouble_is → trouble_is ≡ Some trouble.Disk → OneRose t.disk f.journal f.spare new.journal new.spare
stopped_fault t f new (Some trouble.Disk) fault is = fault
stopped_fault t f new (Some trouble.Dest) fault is = cc
stopped_fault t f new (Some (trouble.Changed change)) fault is = cc
stopped_fault t f new None fault is = cc

one_more : {D F : Type 0} (t : Telling D F) (s : Setting) (h : List Entry) (old new : List F) → CallsMade t s h old new → CallsMadeOrOneMore t s h old new
one_more t s h old new made k d low = inl (made k d low)

-- where a disk of the pair failed, so did one of those that were handed in
rose_at : {D : Type 0} (m : DiskMeaning D) (f : FilesState D) (journal spare journal' spare' : D) → f.journal ≡ journal → f.spare ≡ spare → OneRose m f.journal f.spare journal' spare' → OneRose m journal spare journal' spare'
rose_at m f journal spare journal' spare' journal_is spare_is rose =
    subst (λ j. OneRose m j spare journal' spare') journal_is (subst (λ s. OneRose m f.journal s journal' spare') spare_is rose)

-- a run that ended, and one that was stopped

module _ {S D F : Type 0} (t : Telling D F) (a : Asks D) (status : ℕ) (reads : NamedMapping → List Item → Type 0) (calls : ℕ) (h : List Entry) (old new : Seen S D F) where
  pub of_ended : (told : Type 0) (mapping : NamedMapping) (files : FilesState D) → IsReadyFor t.disk a old new mapping files → (items : List Item) → reads mapping items → (setting : Setting) → IsSettingOf mapping.config calls files.said (records_in_items items) setting
      → (e : MappingEnd) (reading : Option InputEnd) (bytes_left : Option (List ℕ)) → IsCauseOf t files setting h (records_in_items items) reading bytes_left (devices_of new) e → (trouble_of e ≡ Some trouble.Disk → told) → (TellsNoTrouble status → trouble_of e ≡ None)
      → (hand : List Entry) (first traced : Bool) (ending : Ending) (text : List ℕ) → ToldHeadline t first traced files setting h (trouble_of e) ending hand old.callers (devices_of new) text
      → HasRanOver t told status (a.is_named old.disks.registry) reads calls h old.disks.journal old.disks.spare old.callers (devices_of new)
  of_ended told mapping files ready items read setting is_setting e reading bytes_left cause tells quiet hand first traced ending text headline = record {
    mapping = mapping;
    named = ready.named;
    files = files;
    journal_is = ready.journal;
    spare_is = ready.spare;
    opened = ready.opened;
    items = items;
    read = read;
    setting = setting;
    is_setting = is_setting;
    trouble_is = trouble_of e;
    hand = hand;
    headline = headline_of t first traced files setting h (trouble_of e) ending hand old.callers (devices_of new) text headline;
    calls_made = one_more t setting h old.callers new.callers headline.calls_made;
    calls_ended = λ known. headline.calls_made;
    no_trouble = quiet;
    fault = λ is. (
      rose_at t.disk files old.disks.journal old.disks.spare new.disks.journal new.disks.spare ready.journal ready.spare (fault_of t files setting h (records_in_items items) reading bytes_left (devices_of new) e cause is),
      tells is,
    );
  }

  pub of_stopped : (told : Type 0) → told → status ≡ 70 → {I : Type 0} (left : I → Option (List ℕ)) (was now : I) (mapping : NamedMapping) (files : FilesState D) → IsReadyFor t.disk a old new mapping files
      → ((items : List Item) → HasRead left kinds.Stream mapping.config.factor mapping.start status was now items → reads mapping items)
      → HasStoppedRun t left mapping.config mapping.start calls files was now old.callers h (devices_of new)
      → HasRanOver t told status (a.is_named old.disks.registry) reads calls h old.disks.journal old.disks.spare old.callers (devices_of new)
  of_stopped told tells short left was now mapping files ready reads_so run = record {
    mapping = mapping;
    named = ready.named;
    files = files;
    journal_is = ready.journal;
    spare_is = ready.spare;
    opened = ready.opened;
    items = from_start mapping.start (items_read kinds.Stream mapping.config.factor run.whole run.bytes).items;
    read = reads_so (from_start mapping.start (items_read kinds.Stream mapping.config.factor run.whole run.bytes).items) (record {
      bytes = run.bytes;
      more = run.more;
      whole = run.whole;
      taken = run.taken;
      items_are = refl;
      no_more = λ known. absurd (known short);
      at_end = λ known whole. absurd (known short);
    });
    setting = run.setting;
    is_setting = run.is_setting;
    trouble_is = run.trouble;
    hand = run.hand;
    headline = run.headline;
    calls_made = run.calls_made;
    calls_ended = λ known. absurd (known short);
    no_trouble = λ quiet. absurd (quiet.hides.memory short);
    fault = λ is. (
      rose_at t.disk files old.disks.journal old.disks.spare new.disks.journal new.disks.spare ready.journal ready.spare (stopped_fault t files (devices_of new) run.trouble run.fault is),
      tells,
    );
  }

-- what is left of a life

-- the bytes open to it with one further run
pub record AddsRun {D F : Type 0} (t : Telling D F) (life : List Stage) (status : ℕ) (names : NamedMapping → Type 0) (reads : NamedMapping → List Item → Type 0) (calls : ℕ) (h : List Entry) (old new : List F) (one other : List ℕ) : Type 0 where
  pub run : Run
  pub is_run : IsRunOf t status names reads calls h old new run
  pub epoch : ℕ
  pub opens : OpensToLife (Ran run ∷ life) epoch one other

-- the disks do, and their journal recorded all of it
pub record AddsWholeRun {D F : Type 0} (t : Telling D F) (life : List Stage) (status : ℕ) (names : NamedMapping → Type 0) (reads : NamedMapping → List Item → Type 0) (calls : ℕ) (h : List Entry) (old : List F) (new : Devices D F) : Type 0 where
  pub run : Run
  pub is_run : IsRunOf t status names reads calls h old new.callers run
  pub whole : IsWholeRun status run
  pub epoch : ℕ
  pub opens : OpensToLife (Ran run ∷ life) epoch (t.disk.content new.journal) (t.disk.content new.spare)
  pub settled : AreSettled t.disk new.journal new.spare

module _ {D F : Type 0} (t : Telling D F) (laws : AreLaws F t.disk) (life : List Stage) (epoch : ℕ) (told : Type 0) (status : ℕ) (names : NamedMapping → Type 0) (reads : NamedMapping → List Item → Type 0) (calls : ℕ) (h : List Entry) (journal spare : D) (old : List F) (new : Devices D F) (has : HasLife t.disk life epoch journal spare)
    (ran : HasRanOver t told status names reads calls h journal spare old new) where
  over : HasRunOver t.disk t.callers t.line ran.mapping.config calls ran.files (records_in_items ran.items) ran.setting h ran.trouble_is ran.hand new
  over = record { opened = ran.opened; is_setting = ran.is_setting; headline = ran.headline }

  run_is : (recorded : List Entry) → AreGiven t.callers.gave recorded → IsRunOf t status names reads calls h old new.callers (stage_of ran.setting h recorded)
  run_is recorded moments = record {
    mapping = ran.mapping;
    named = ran.named;
    config_is = ap (λ (s : Setting). s.config) ran.is_setting.opened;
    calls_are = ap (λ (s : Setting). s.calls) ran.is_setting.opened;
    items = ran.items;
    read = ran.read;
    came = ran.is_setting.came;
    happened_is = refl;
    moments = moments;
    calls_made = ran.calls_made;
    calls_ended = ran.calls_ended;
  }

  pub adds_run : (one other : List ℕ) → AreLeft t.disk ran.files journal spare new.journal new.spare one other → AddsRun t life status names reads calls h old new.callers one other
  adds_run one other left =
      let by = of_run t.disk laws life epoch journal spare has ran.files ran.journal_is ran.spare_is t.callers t.line ran.mapping.config calls (records_in_items ran.items) ran.setting h ran.trouble_is ran.hand new over one other left in
      record { run = stage_of ran.setting h by.recorded; is_run = run_is by.recorded by.moments; epoch = ran.files.pair.epoch; opens = by.opens }

  pub adds_whole_run : ((OneRose t.disk journal spare new.journal new.spare × told) → ⊥) → AddsWholeRun t life status names reads calls h old new
  adds_whole_run none =
      let by = of_whole t.disk laws life epoch journal spare has ran.files ran.journal_is ran.spare_is t.callers t.line ran.mapping.config calls (records_in_items ran.items) ran.setting h ran.trouble_is ran.hand new over (λ is. none (ran.fault is)) in
      record { run = stage_of ran.setting h h; is_run = run_is h ran.headline.moments; whole = record { recorded = refl; paid = λ quiet. by.2 (ran.no_trouble quiet) }; epoch = ran.files.pair.epoch; opens = by.0; settled = by.1 }
