-- What `replay` leaves of a life: with the replay one further stage.
use Rattle.std.proofs.Common.{◌≡◌, ◌∙◌, ◌⊎◌, ℕ, List, [], ◌∷◌, ◌++◌, Option, Some, None, ap, append-nil, arith, inl, inr, refl, subst, sym}
use Rattle.std.specs.Prelude.{filter_map, reverse}
use Rattle.esm_folder.specs.Upkeep.{AreOnlyRead, AreSettled, OneRose, found}
use Rattle.esm_input.specs.declared.ending.InputEnd.{InputEnd}
use Rattle.esm_input.specs.Positions.{from_start}
use Rattle.esm_input.specs.Reading.{handed, items_read}
use Rattle.esm_io.specs.Meanings.{DiskMeaning}
use Rattle.esm_journal.specs.File.{Holding}
use Rattle.esm_journal.specs.Pair.{first_disk, second_disk}
use Rattle.esm_journal_record.specs.EntryPayload.{entry_payload}
use Rattle.esm_life.specs.Life.{Replay, Stage}
use Rattle.esm_life.specs.Streams.{OpensToLife, replay_of}
use Rattle.esm_mapping.specs.declared.named.NamedMapping.{NamedMapping}
use Rattle.esm_model.specs.declared.book.Trouble.{Trouble}
use Rattle.esm_model.specs.declared.book.Trouble.TheVariants as trouble
use Rattle.esm_model.specs.declared.entry.Entry.{Entry}
use Rattle.esm_model.specs.declared.item.Item.{Item}
use Rattle.esm_model.specs.declared.item.LineKind.TheVariants as kinds
use Rattle.esm_model.specs.Records.{Record}
use Rattle.esm_program_life.specs.Ran.{HasReplayed}
use Rattle.esm_program_life.specs.Reads.{HasRead}
use Rattle.esm_program_life.specs.Streams.{HasLife, IsReplayOf}
use Rattle.esm_program_life.proofs.ReadInputs.{all_read}
use Rattle.esm_program_life.proofs.Disks.{AreLaws, AreLeft, found_in, honest_files, may_be}
use Rattle.esm_replay_life.specs.ReplayLife.{IsReplayRunOver, ReplayRun}
use Rattle.esm_replay_model.specs.ReplaySetting.{ReplaySetting}
use Rattle.esm_replay_run.specs.Ended.{HasEnded, HasNotBegun, HasRun, HasStoppedRun, IsCauseOf, IsFaultOf, Telling, trouble_of}
use Rattle.esm_replay_run.specs.Headline.{Disks}
use Rattle.esm_replay_run.specs.declared.report.ReplayCounts.{ReplayCounts}
use Rattle.esm_replay_run.specs.declared.run.ReplayEnd.{ReplayEnd}
use Rattle.esm_replay_run.specs.declared.run.ReplayEnd.TheVariants as end
use Rattle.esm_run.specs.Answers.{IsReadyFor}
use Rattle.esm_run.specs.FirstCaller.{IsFirstUsed}
use Rattle.esm_run.specs.Replay.{replay_asks, replay_disks}
use Rattle.esm_run.specs.World.{Seen}
use Rattle.esm_runner.specs.Files.{FilesState}
use Rattle.esm_runner.specs.Headline.{IsInHand}
use Rattle.esm_workers.specs.Working.{Outside}

-- such a replay as `esm` tells of it

-- the fault of a disk as it was opened is one of the disk as it was handed in
rose_at : {D : Type 0} (m : DiskMeaning D) (f : FilesState D) (journal spare journal' spare' : D) → f.journal ≡ journal → f.spare ≡ spare → AreOnlyRead m f.journal f.spare (first_disk f.pair) (second_disk f.pair)
    → OneRose m (first_disk f.pair) (second_disk f.pair) journal' spare' → OneRose m journal spare journal' spare'
rose_at m f journal spare journal' spare' journal_is spare_is read rose =
    subst (λ j. OneRose m j spare journal' spare') journal_is (subst (λ s. OneRose m f.journal s journal' spare') spare_is (back rose))
  where
    back : OneRose m (first_disk f.pair) (second_disk f.pair) journal' spare' → OneRose m f.journal f.spare journal' spare'
    back (inl rose) = inl (λ low. omega (arith, read.0.never_falls, rose low))
    back (inr rose) = inr (λ low. omega (arith, read.1.never_falls, rose low))

fault_of : {D : Type 0} (m : DiskMeaning D) (f : FilesState D) (s : ReplaySetting) (came : List Record) (h : List Entry) (records : List Record) (reading : Option InputEnd) (new : Disks D) (e : ReplayEnd)
    → IsCauseOf m f s came h records reading new e → trouble_of e ≡ Some trouble.Disk → OneRose m (first_disk f.pair) (second_disk f.pair) new.journal new.spare
fault_of m f s came h records reading new end.DiskFault cause is = cause.2
fault_of m f s came h records reading new end.CallsSpent cause is = cc
fault_of m f s came h records reading new (end.Finished why) cause is = cc
fault_of m f s came h records reading new (end.Changed change) cause is = cc
fault_of m f s came h records reading new (end.BadLine index) cause is = cc

stopped_fault : {D : Type 0} (m : DiskMeaning D) (f : FilesState D) (new : Disks D) (trouble_is : Option Trouble) → IsFaultOf m f new trouble_is → trouble_is ≡ Some trouble.Disk → OneRose m (first_disk f.pair) (second_disk f.pair) new.journal new.spare
stopped_fault m f new (Some trouble.Disk) fault is = fault
stopped_fault m f new (Some trouble.Dest) fault is = cc
stopped_fault m f new (Some (trouble.Changed change)) fault is = cc
stopped_fault m f new None fault is = cc

read_at : {D : Type 0} (m : DiskMeaning D) (f : FilesState D) (journal spare journal' spare' : D) → f.journal ≡ journal → f.spare ≡ spare → AreOnlyRead m f.journal f.spare journal' spare' → AreOnlyRead m journal spare journal' spare'
read_at m f journal spare journal' spare' journal_is spare_is read =
    subst (λ j. AreOnlyRead m j spare journal' spare') journal_is (subst (λ s. AreOnlyRead m f.journal s journal' spare') spare_is read)

module _ {S D F : Type 0} (t : Telling D F) (faults : S → ℕ) (left : S → Option (List ℕ)) (told : Type 0) (status : ℕ) (config : List ℕ) (reads : NamedMapping → List Item → Type 0) (calls : ℕ) (h : List Entry) (old new : Seen S D F) (mapping : NamedMapping) (files : FilesState D) (ready : IsReadyFor t.disk (replay_asks config) old new mapping files)
    (caller caller_left : F) (first_used : IsFirstUsed old.callers new.callers caller caller_left) (reading : Option InputEnd) (counts : ReplayCounts)
    (reads_so : (items : List Item) → HasRead left kinds.Stream mapping.config.factor mapping.config.start status old.input new.input items → reads mapping items) where
  -- nothing was written, nothing came and nothing was called, or it ran
  abbrev pub HasReplayedOrNot : Type 0
  HasReplayedOrNot = (AreOnlyRead t.disk old.disks.journal old.disks.spare new.disks.journal new.disks.spare × (h ≡ []) × (new.callers ≡ old.callers)) ⊎ HasReplayed t told status config reads calls h old.disks.journal old.disks.spare old.callers new.callers (replay_disks new)

  unbegun : HasNotBegun t files old.input new.input reading caller caller_left h (replay_disks new) → HasReplayedOrNot
  unbegun none = inl (read_at t.disk files old.disks.journal old.disks.spare new.disks.journal new.disks.spare ready.journal ready.spare none.unwritten.0, none.no_trace, first_used.is ∙ (ap (λ (c : F). c ∷ first_used.rest) none.caller ∙ sym first_used.was))

  ran : (e : ReplayEnd) → HasRun t faults left mapping.config calls files old.input new.input reading caller caller_left h counts (replay_disks new) e → (trouble_of e ≡ Some trouble.Disk → told) → HasReplayedOrNot
  ran e run tells = inr (record {
    mapping = mapping;
    named = ready.named;
    files = files;
    journal_is = ready.journal;
    spare_is = ready.spare;
    opened = ready.opened;
    items = handed run.input;
    read = reads_so (handed run.input)
        (all_read faults left status kinds.Stream mapping.config.factor mapping.config.start old.input new.input run.input run.is_input.kind run.is_input.factor run.is_input.start run.is_input.found run.is_input.source run.is_input.read);
    came = run.came;
    some_came = run.some_came;
    unchanged = run.unchanged;
    setting = run.setting;
    is_setting = run.is_setting;
    trouble_is = trouble_of e;
    hand = run.hand;
    headline = run.headline;
    caller = caller;
    caller_left = caller_left;
    first_used = first_used;
    calls_made = inl run.calls_made;
    calls_ended = λ known. run.calls_made;
    fault = λ is. (
      rose_at t.disk files old.disks.journal old.disks.spare new.disks.journal new.disks.spare ready.journal ready.spare ready.opened.read
          (fault_of t.disk files run.setting run.came h _ reading (replay_disks new) e run.cause is),
      tells is,
    );
  })

  pub of_ended : (e : ReplayEnd) → HasEnded t faults left mapping.config calls files old.input new.input reading caller caller_left h counts (replay_disks new) e → (trouble_of e ≡ Some trouble.Disk → told) → HasReplayedOrNot
  of_ended (end.BadLine index) run tells = unbegun run.1
  of_ended end.DiskFault run tells = ran end.DiskFault run tells
  of_ended end.CallsSpent run tells = ran end.CallsSpent run tells
  of_ended (end.Finished why) run tells = ran (end.Finished why) run tells
  of_ended (end.Changed change) run tells = ran (end.Changed change) run tells

  pub of_stopped : told → status ≡ 70 → HasStoppedRun t faults left mapping.config calls files old.input new.input reading caller caller_left h counts (replay_disks new) → HasReplayedOrNot
  of_stopped tells short (inl none) = unbegun none
  of_stopped tells short (inr run) = inr (record {
    mapping = mapping;
    named = ready.named;
    files = files;
    journal_is = ready.journal;
    spare_is = ready.spare;
    opened = ready.opened;
    items = from_start mapping.config.start (items_read kinds.Stream mapping.config.factor run.whole run.bytes).items;
    read = reads_so (from_start mapping.config.start (items_read kinds.Stream mapping.config.factor run.whole run.bytes).items) (record {
      bytes = run.bytes;
      more = run.more;
      whole = run.whole;
      taken = run.taken;
      items_are = refl;
      no_more = λ known. absurd (known short);
      at_end = λ known whole. absurd (known short);
    });
    came = run.came;
    some_came = run.some_came;
    unchanged = run.unchanged;
    setting = run.setting;
    is_setting = run.is_setting;
    trouble_is = run.trouble;
    hand = run.hand;
    headline = run.headline;
    caller = caller;
    caller_left = caller_left;
    first_used = first_used;
    calls_made = run.calls_made;
    calls_ended = λ known. absurd (known short);
    fault = λ is. (
      rose_at t.disk files old.disks.journal old.disks.spare new.disks.journal new.disks.spare ready.journal ready.spare ready.opened.read (stopped_fault t.disk files (replay_disks new) run.trouble run.fault is),
      tells,
    );
  })

-- what is left of a life

-- the bytes open to it with one further replay
pub record AddsReplay {F : Type 0} (callers : Outside F) (life : List Stage) (status : ℕ) (config : List ℕ) (reads : NamedMapping → List Item → Type 0) (calls : ℕ) (h : List Entry) (old new : List F) (one other : List ℕ) : Type 0 where
  pub replay : ReplayRun
  pub is_replay : IsReplayOf callers status config reads calls h old new replay
  pub epoch : ℕ
  pub opens : OpensToLife (Replay replay ∷ life) epoch one other

-- the disks do, and their journal recorded all of it
pub record AddsWholeReplay {D F : Type 0} (m : DiskMeaning D) (callers : Outside F) (life : List Stage) (status : ℕ) (config : List ℕ) (reads : NamedMapping → List Item → Type 0) (calls : ℕ) (h : List Entry) (old new_callers : List F) (new : Disks D) : Type 0 where
  pub replay : ReplayRun
  pub is_replay : IsReplayOf callers status config reads calls h old new_callers replay
  pub whole : replay.left ≡ filter_map (entry_payload replay.setting.base) (reverse replay.happened)
  pub epoch : ℕ
  pub opens : OpensToLife (Replay replay ∷ life) epoch (m.content new.journal) (m.content new.spare)
  pub settled : AreSettled m new.journal new.spare

none_in_hand : (trouble_is : Option Trouble) (hand : List Entry) → (trouble_is ≡ Some trouble.Disk → ⊥) → IsInHand trouble_is hand → hand ≡ []
none_in_hand (Some trouble.Disk) hand up in_hand = absurd (up refl)
none_in_hand (Some trouble.Dest) hand up in_hand = in_hand
none_in_hand (Some (trouble.Changed change)) hand up in_hand = in_hand
none_in_hand None hand up in_hand = in_hand

module _ {D F : Type 0} (t : Telling D F) (laws : AreLaws F t.disk) (life : List Stage) (epoch : ℕ) (told : Type 0) (status : ℕ) (config : List ℕ) (reads : NamedMapping → List Item → Type 0) (calls : ℕ) (h : List Entry) (journal spare : D) (old new_callers : List F) (new : Disks D) (has : HasLife t.disk life epoch journal spare)
    (ran : HasReplayed t told status config reads calls h journal spare old new_callers new) where
  replay_is : (left : List (List ℕ)) → IsReplayOf t.callers status config reads calls h old new_callers (replay_of ran.setting h ran.hand left)
  replay_is left = record {
    mapping = ran.mapping;
    named = ran.named;
    config_is = ap (λ (s : ReplaySetting). s.base.config) ran.is_setting.is;
    calls_are = ap (λ (s : ReplaySetting). s.base.calls) ran.is_setting.is;
    items = ran.items;
    read = ran.read;
    records = ran.came;
    came = ran.some_came;
    records_are = ap (λ (s : ReplaySetting). s.base.streams) ran.is_setting.is;
    happened_is = refl;
    moments = ran.headline.hand_given;
    caller = ran.caller;
    caller_left = ran.caller_left;
    first_used = ran.first_used;
    calls_made = ran.calls_made;
    calls_ended = ran.calls_ended;
  }

  pub adds_replay : (one other : List ℕ) → AreLeft t.disk ran.files journal spare new.journal new.spare one other → AddsReplay t.callers life status config reads calls h old new_callers one other
  adds_replay one other left =
      let by = laws.replayed t.callers.gave ran.mapping.config calls ran.files ran.came ran.setting h ran.trouble_is ran.hand new one other life ran.opened ran.is_setting ran.unchanged ran.headline
      (may_be t.disk laws life epoch journal spare has ran.files ran.journal_is ran.spare_is new.journal new.spare one other left) (found_in t.disk laws life epoch journal spare has ran.files ran.journal_is ran.spare_is ran.opened) in
      record { replay = replay_of ran.setting h ran.hand by.left; is_replay = replay_is by.left; epoch = ran.files.pair.epoch; opens = by.opens }

  pub adds_whole_replay : ((OneRose t.disk journal spare new.journal new.spare × told) → ⊥) → AddsWholeReplay t.disk t.callers life status config reads calls h old new_callers new
  adds_whole_replay none =
      let s = ran.setting in
      let payload = entry_payload s.base in
      let left : List (List ℕ) = filter_map payload (reverse h) in
      let hand_is = none_in_hand ran.trouble_is ran.hand (λ is. none (ran.fault is)) ran.headline.in_hand in
      let kept : left ++ [] ≡ filter_map payload (reverse h ++ ran.hand) = append-nil left ∙ (ap (filter_map payload) (sym (append-nil (reverse h))) ∙ ap (λ (k : List Entry). filter_map payload (reverse h ++ k)) (sym hand_is)) in
      let stage = laws.replay t.callers.gave ran.mapping.config calls ran.files ran.came s h ran.trouble_is ran.hand new left [] ran.opened ran.is_setting ran.unchanged ran.headline kept in
      let was = found_in t.disk laws life epoch journal spare has ran.files ran.journal_is ran.spare_is ran.opened in
      let holds = ran.headline.journal_kept (λ is. none (ran.fault is)) (honest_files t.disk laws life epoch journal spare has ran.files ran.journal_is ran.spare_is) in
      record {
        replay = replay_of s h ran.hand left;
        is_replay = replay_is left;
        whole = refl;
        epoch = ran.files.pair.epoch;
        opens = record {
          is_life = (was.0, subst (IsReplayRunOver (replay_of s h ran.hand left)) was.1 stage);
          content_is = subst (λ (old : List (List ℕ)). found t.disk new.journal new.spare ≡ Holding ran.files.pair.epoch (old ++ left)) was.1 holds.opens;
        };
        settled = holds.settled;
      }
