-- What each command leaves of the life of a queue's mapping, from what `esm` says of it.
use Rattle.std.proofs.Common.{◌≡◌, ◌∙◌, ◌⊎◌, ◌+◌, ℕ, Bool, true, false, List, [], ◌∷◌, Option, Some, None, ap, arith, inl, inr, refl, subst, sym, true≢false}
use Rattle.std.specs.Prelude.{◌≢◌}
use Rattle.esm_cli.specs.declared.command.Command.{Command}
use Rattle.esm_cli.specs.declared.command.Command.TheVariants as command
use Rattle.esm_cli.specs.declared.command.RunWords.{RunWords}
use Rattle.esm_folder.specs.Upkeep.{AreSettled}
use Rattle.esm_folder.specs.declared.disks.Disks.{Disks}
use Rattle.esm_input.specs.declared.ending.InputEnd.{InputEnd}
use Rattle.esm_io.specs.Images.{Only}
use Rattle.esm_journal.specs.Reads.{IsOnlyRead}
use Rattle.esm_life.specs.Left.{AreLinesAtEnd, AreLinesRead, AreLinesSinceStart, IsSinceOpening, IsSinceStart}
use Rattle.esm_life.specs.Queues.{OpensToLife}
use Rattle.esm_mapping.specs.Named.{IsExpected, IsNamed}
use Rattle.esm_mapping.specs.declared.expected.Expected.TheVariants as expected
use Rattle.esm_mapping.specs.declared.named.NamedMapping.{NamedMapping}
use Rattle.esm_model.specs.declared.book.Change.{Change}
use Rattle.esm_model.specs.declared.book.Trouble.TheVariants as trouble
use Rattle.esm_model.specs.declared.names.FileName.TheVariants as file
use Rattle.esm_model.specs.Valid.{is_stream}
use Rattle.esm_program_life.specs.Queues.{AddsNothing, AddsStage, AddsWhole, CompactsLife, HasLife, IsAsFound, IsQueueOf, KeepsLife, KeepsUntouched, KeepsWhole, MayBeLines, MayBeLinesOver, MayRun, NamesAQueue, NoneFailed, RanOver, is_run, reads_messages}
use Rattle.esm_program_life.specs.QueueRan.{AnyRose, HasRanOver, HasRedriven, HidesNoFault, Shows, TellsNoTrouble}
use Rattle.esm_program_life.specs.Reads.{NothingHappened}
use Rattle.esm_program_life.specs.Streams.{IsSaid}
use Rattle.esm_program_life.specs.Written.{IsWrittenAtEnd}
use Rattle.esm_program_life.proofs.StreamCommands.{OneCommand, Tells, by_status, ended_so, tells_so}
use Rattle.esm_program_life.proofs.Disks.{OnlyNow, not_empty, not_empty_spare, version_of}
use Rattle.esm_program_life.proofs.QueueDisks.{AreLaws, HasOnly, adds_rewritten, not_empty_lines, of_compacted, of_end, of_same, of_written, only_of_read, only_of_unused, settled_of_read}
use Rattle.esm_program_life.proofs.QueueRuns.{adds_redrive, adds_run, adds_whole_redrive, adds_whole_run, of_ended, of_ended_redrive, of_stopped, of_stopped_redrive}
use Rattle.esm_program_life.proofs.Writes.{has_compacted, opens_now, told_so}
use Rattle.esm_queue_life.specs.Life.{Ran, Redriven, Rewritten, Stage, content, dead_lines}
use Rattle.esm_redrive_run.specs.Ended as redrive_ended
use Rattle.esm_redrive_run.specs.declared.run.RedriveEnd.{RedriveEnd}
use Rattle.esm_redrive_run.specs.declared.run.RedriveEnd.TheVariants as redrive_end
use Rattle.esm_report.specs.declared.ending.Ending.{Ending}
use Rattle.esm_report.specs.declared.ending.Ending.TheVariants as ending
use Rattle.esm_run.specs.Answers.{HasNotBegun, HasNotRun, IsReadyFor, IsUnwritten, RunCause, asked, visibility_of}
use Rattle.esm_run.specs.Asks.{Asks}
use Rattle.esm_run.specs.Built.{SpellsBuilt}
use Rattle.esm_run.specs.Commands.{HasEnded, IsCut, IsLeft, redrive_words}
use Rattle.esm_run.specs.Ddb.{DdbCause, IsDdbCut, ddb_asks}
use Rattle.esm_run.specs.Endings.{ending_of, ending_of_redrive, failed_status_of, status_of}
use Rattle.esm_run.specs.Redrive.{IsRedriveCut, RedriveCause, redrive_asks, redrive_disks, redrive_tells}
use Rattle.esm_run.specs.Replay.{IsReplayCut, ReplayCause, replay_asks}
use Rattle.esm_run.specs.World.{DevicesTell, devices_of, history, of_run, output, seen}
use Rattle.esm_run.specs.declared.asked.RedriveWords.{RedriveWords}
use Rattle.esm_run.specs.declared.world.World.{World}
use Rattle.esm_run.specs.FirstCaller.{IsFirstUsed}
use Rattle.esm_runner.specs.Ended.{trouble_of}
use Rattle.esm_runner.specs.Files.{AreUnwritten, FilesState}
use Rattle.esm_runner.specs.declared.run.MappingEnd.{MappingEnd}
use Rattle.esm_runner.specs.declared.run.MappingEnd.TheVariants as end

-- statuses

-- an ending by the fault of a disk
abbrev IsFault : Ending → Type 0
IsFault e = (e ≡ ending.DiskFault) ⊎ (e ≡ ending.DestFault)

-- is told by a status that hides none
fault_told : (status : ℕ) (e : Ending) → Tells status e → IsFault e → HidesNoFault status → ⊥
fault_told status e (inl short) is hides = hides.memory short
fault_told status e (inr (inl told)) (inl is) hides = hides.disk (told ∙ ap status_of is)
fault_told status e (inr (inl told)) (inr is) hides = hides.lines (told ∙ ap status_of is)
fault_told status e (inr (inr told)) (inl is) hides = hides.output (told ∙ ap failed_status_of is)
fault_told status e (inr (inr told)) (inr is) hides = hides.output (told ∙ ap failed_status_of is)

run_fault : (e : MappingEnd) → trouble_of e ≡ Some trouble.Disk → ending_of e ≡ ending.DiskFault
run_fault end.DiskFault is = refl
run_fault end.DestFault is = cc
run_fault end.CallsSpent is = cc
run_fault (end.Finished why) is = cc
run_fault (end.Changed change) is = cc

-- and so is each other trouble by one that tells of none
change_told : (status : ℕ) (e : Ending) (change : Change) → Tells status e → e ≡ ending.StreamChanged change → TellsNoTrouble status → ⊥
change_told status e change (inl short) is quiet = quiet.hides.memory short
change_told status e change (inr (inl told)) is quiet = quiet.changed (told ∙ ap status_of is)
change_told status e change (inr (inr told)) is quiet = quiet.hides.output (told ∙ ap failed_status_of is)

run_quiet : (status : ℕ) (e : MappingEnd) (told : Ending) → told ≡ ending_of e → Tells status told → TellsNoTrouble status → trouble_of e ≡ None
run_quiet status end.DiskFault told is tells quiet = absurd (fault_told status told tells (inl is) quiet.hides)
run_quiet status end.DestFault told is tells quiet = absurd (fault_told status told tells (inr is) quiet.hides)
run_quiet status end.CallsSpent told is tells quiet = refl
run_quiet status (end.Finished why) told is tells quiet = refl
run_quiet status (end.Changed change) told is tells quiet = absurd (change_told status told change tells is quiet)

redrive_fault : (e : RedriveEnd) → (redrive_ended.trouble_of e ≡ Some trouble.Disk) ⊎ (redrive_ended.trouble_of e ≡ Some trouble.Dest) → IsFault (ending_of_redrive e)
redrive_fault redrive_end.DiskFault is = inl refl
redrive_fault redrive_end.DestFault is = inr refl
redrive_fault redrive_end.CallsSpent (inl is) = cc
redrive_fault redrive_end.CallsSpent (inr is) = cc
redrive_fault (redrive_end.Finished why) (inl is) = cc
redrive_fault (redrive_end.Finished why) (inr is) = cc
redrive_fault (redrive_end.Changed change) (inl is) = cc
redrive_fault (redrive_end.Changed change) (inr is) = cc
redrive_fault (redrive_end.BadLine index) (inl is) = cc
redrive_fault (redrive_end.BadLine index) (inr is) = cc

-- what came of a command

module _ {S K D C F L N : Type 0} (t : DevicesTell S K D F L N) (fifo : Bool) (old new : World S K D C F L) (status : ℕ) where
  -- nothing came, nothing was called and nothing was written
  abbrev IsUnbegun : Type 0
  IsUnbegun = IsUnwritten t.disk (seen old) (seen new) × NothingHappened old new

  nothing_happened : history new ≡ [] → new.callers.items ≡ old.callers.items → NothingHappened old new
  nothing_happened none uncalled = record { no_trace = none; uncalled = uncalled }

  unbegun : (a : Asks D) → HasNotBegun t.disk a (history new) (seen old) (seen new) → IsUnbegun
  unbegun a none = (none.unwritten, nothing_happened none.untouched.no_trace none.untouched.uncalled)

  unrun : (a : Asks D) (text : List ℕ) (e : Ending) → HasNotRun t.disk a (history new) (seen old) (seen new) text e → IsUnbegun
  unrun a text e none = unbegun a none.unbegun

  no_stream : (mapping : NamedMapping) → is_stream mapping.config.kind ≡ true → is_stream mapping.config.kind ≡ false → ⊥
  no_stream mapping stream queue = true≢false (sym stream ∙ queue)

  -- `run`

  abbrev NamesIn : RunWords → NamedMapping → Type 0
  NamesIn r mapping = IsNamed t.disk r.which old.registry mapping

  abbrev CameOfRun : RunWords → Type 0
  CameOfRun r = IsUnbegun ⊎ HasRanOver (of_run t).run (Shows status) status (NamesIn r) (reads_messages t status old new) r.calls (visibility_of r) (history new) old.journal old.spare old.failures old.callers.items (devices_of (seen new))

  run_caused : (r : RunWords) → NamesAQueue t fifo (command.Run r) old.registry → (text : List ℕ) (e : Ending) → RunCause (of_run t) r (history new) (seen old) (seen new) text e → Tells status e → CameOfRun r
  run_caused r names text e (inl none) tells = inl (unrun (asked (of_run t) r) text e none)
  run_caused r names text e (inr (inl stream)) tells = absurd (no_stream stream.mapping stream.kind (names stream.mapping stream.ready.named).0)
  run_caused r names text e (inr (inr ran)) tells =
      inr (of_ended (of_run t).run (asked (of_run t) r) r.calls (visibility_of r) (history new) (seen old) (seen new) (Shows status) status (reads_messages t status old new) ran.mapping ran.files ran.ready t.input_faults t.left old.input new.input (λ items read. read) ran.reading ran.end ran.run
      (λ is. fault_told status e tells (inl (ran.tells ∙ run_fault ran.end is))) (run_quiet status ran.end e ran.tells tells))

  run_cut : (r : RunWords) → NamesAQueue t fifo (command.Run r) old.registry → status ≡ 70 → IsCut t (command.Run r) old new → CameOfRun r
  run_cut r names short (inl none) = inl (unbegun (asked (of_run t) r) none)
  run_cut r names short (inr (inl (inl stream))) = absurd (no_stream stream.mapping stream.kind (names stream.mapping stream.ready.named).0)
  run_cut r names short (inr (inl (inr ran))) = inr (of_stopped (of_run t).run (asked (of_run t) r) r.calls (visibility_of r) (history new) (seen old) (seen new) (Shows status) status (reads_messages t status old new) ran.mapping ran.files ran.ready t.left old.input new.input (λ items read. read) ran.run (λ hides. hides.memory short) short)
  run_cut r names short (inr (inr ended)) = run_caused r names ended.1.text ended.0 ended.1.cause_is (inl short)

  came_of_run : (r : RunWords) → NamesAQueue t fifo (command.Run r) old.registry → (status ≢ 70 → HasEnded t (command.Run r) old new status) → (status ≡ 70 → IsCut t (command.Run r) old new) → CameOfRun r
  came_of_run r names ended cut =
      by_status status (CameOfRun r) (λ short. run_cut r names short (cut short))
      (λ known.
      let told = ended known in
      let out = output t old new in
      run_caused r names told.ended.text told.ending told.ended.cause_is (tells_so out.faults_before out.faults_now out.before out.after told.ended.text told.ending status told.told))

  -- `redrive`

  abbrev CameOfRedrive : RedriveWords → Type 0
  CameOfRedrive w = IsUnbegun ⊎ HasRedriven (redrive_tells (of_run t)) (Shows status) status w (reads_messages t status old new) (history new) old.journal old.spare old.failures old.callers.items new.callers.items (redrive_disks (seen new))

  redrive_caused : (w : RedriveWords) (text : List ℕ) (e : Ending) → RedriveCause (of_run t) w (history new) (seen old) (seen new) text e → Tells status e → CameOfRedrive w
  redrive_caused w text e (inl none) tells = inl (unrun (redrive_asks w) text e none)
  redrive_caused w text e (inr (inl line)) tells = inl (unbegun (redrive_asks w) line.unbegun)
  redrive_caused w text e (inr (inr ran)) tells =
      inr (of_ended_redrive (redrive_tells (of_run t)) t.input_faults t.left (Shows status) status w (reads_messages t status old new) (history new) (seen old) (seen new) ran.mapping ran.files ran.ready ran.caller ran.caller_left ran.first_used ran.reading (λ items read. read) ran.end_is ran.run
      (λ is. fault_told status e tells (subst IsFault (sym ran.tells) (redrive_fault ran.end_is is))))

  -- it stopped before anything came
  unread : (w : RedriveWords) (mapping : NamedMapping) (reading : Option InputEnd) (caller caller_left : F) → IsFirstUsed old.callers.items new.callers.items caller caller_left → (files : FilesState D) → IsReadyFor t.disk (redrive_asks w) (seen old) (seen new) mapping files
      → redrive_ended.HasNotBegun (redrive_tells (of_run t)) files old.input new.input reading caller caller_left (history new) (redrive_disks (seen new)) → IsUnbegun
  unread w mapping reading caller caller_left first_used files ready none = (
    subst (λ j. AreUnwritten t.disk j old.spare old.failures new.journal new.spare new.failures) ready.journal
        (subst (λ s. AreUnwritten t.disk files.journal s old.failures new.journal new.spare new.failures) ready.spare
        (subst (λ d. AreUnwritten t.disk files.journal files.spare d new.journal new.spare new.failures) ready.failures none.unwritten)),
    nothing_happened none.no_trace (first_used.is ∙ (ap (λ (c : F). c ∷ first_used.rest) none.caller ∙ sym first_used.was)),
  )

  redrive_cut : (w : RedriveWords) → status ≡ 70 → IsRedriveCut (of_run t) w (history new) (seen old) (seen new) → CameOfRedrive w
  redrive_cut w short (inl none) = inl (unbegun (redrive_asks w) none)
  redrive_cut w short (inr (inl ran)) =
      elim ran.run [
        | inl none ↦ inl (unread w ran.mapping ran.reading ran.caller ran.caller_left ran.first_used ran.files ran.ready none)
        | inr stopped ↦ inr (of_stopped_redrive (redrive_tells (of_run t)) t.input_faults t.left (Shows status) status w (reads_messages t status old new) (history new) (seen old) (seen new) ran.mapping ran.files ran.ready ran.caller ran.caller_left ran.first_used ran.reading (λ items read. read) stopped (λ hides. hides.memory short) short)
      ]
  redrive_cut w short (inr (inr ended)) = redrive_caused w ended.1.text ended.0 ended.1.cause_is (inl short)

  came_of_redrive : (config : List ℕ) (receives calls visibility timeout : ℕ) (traced : Bool) → (status ≢ 70 → HasEnded t (command.Redrive config receives calls visibility timeout traced) old new status) → (status ≡ 70 → IsCut t (command.Redrive config receives calls visibility timeout traced) old new)
      → CameOfRedrive (redrive_words config receives calls visibility timeout traced)
  came_of_redrive config receives calls visibility timeout traced ended cut =
      let w = redrive_words config receives calls visibility timeout traced in
      by_status status (CameOfRedrive w) (λ short. redrive_cut w short (cut short))
      (λ known.
      let told = ended known in
      let out = output t old new in
      redrive_caused w told.ended.text told.ending told.ended.cause_is (tells_so out.faults_before out.faults_now out.before out.after told.ended.text told.ending status told.told))

  -- `ddb` and `replay`, of streams that the words do not name

  ddb_caused : (config : List ℕ) (calls : ℕ) (traced : Bool) → ((mapping : NamedMapping) → IsExpected expected.DynamoDb config mapping → IsQueueOf fifo mapping.config.kind) → (text : List ℕ) (e : Ending) → DdbCause (of_run t) config calls traced (history new) (seen old) (seen new) text e → IsUnbegun
  ddb_caused config calls traced names text e (inl none) = unrun (ddb_asks config) text e none
  ddb_caused config calls traced names text e (inr ran) = absurd (no_stream ran.mapping ran.ready.named.0.kind (names ran.mapping ran.ready.named).0)

  ddb_cut : (config : List ℕ) (calls : ℕ) (traced : Bool) → ((mapping : NamedMapping) → IsExpected expected.DynamoDb config mapping → IsQueueOf fifo mapping.config.kind) → IsDdbCut (of_run t) config calls traced (history new) (seen old) (seen new) → IsUnbegun
  ddb_cut config calls traced names (inl none) = unbegun (ddb_asks config) none
  ddb_cut config calls traced names (inr (inl turning)) = (turning.unwritten, nothing_happened turning.no_trace turning.uncalled)
  ddb_cut config calls traced names (inr (inr (inl ran))) = absurd (no_stream ran.mapping ran.ready.named.0.kind (names ran.mapping ran.ready.named).0)
  ddb_cut config calls traced names (inr (inr (inr ended))) = ddb_caused config calls traced names ended.1.text ended.0 ended.1.cause_is

  replay_caused : (config : List ℕ) (calls : ℕ) (traced : Bool) → ((mapping : NamedMapping) → IsExpected expected.Stream config mapping → IsQueueOf fifo mapping.config.kind) → (text : List ℕ) (e : Ending) → ReplayCause (of_run t) config calls traced (history new) (seen old) (seen new) text e → IsUnbegun
  replay_caused config calls traced names text e (inl none) = unrun (replay_asks config) text e none
  replay_caused config calls traced names text e (inr ran) = absurd (no_stream ran.mapping ran.ready.named.0.kind (names ran.mapping ran.ready.named).0)

  replay_cut : (config : List ℕ) (calls : ℕ) (traced : Bool) → ((mapping : NamedMapping) → IsExpected expected.Stream config mapping → IsQueueOf fifo mapping.config.kind) → IsReplayCut (of_run t) config calls traced (history new) (seen old) (seen new) → IsUnbegun
  replay_cut config calls traced names (inl none) = unbegun (replay_asks config) none
  replay_cut config calls traced names (inr (inl ran)) = absurd (no_stream ran.mapping ran.ready.named.0.kind (names ran.mapping ran.ready.named).0)
  replay_cut config calls traced names (inr (inr ended)) = replay_caused config calls traced names ended.1.text ended.0 ended.1.cause_is

  -- over which files a mapping ran

  may_run : (c : Command) → (status ≢ 70 → HasEnded t c old new status) → (status ≡ 70 → IsCut t c old new) → MayRun t fifo c old new status
  may_run (command.Run r) ended cut names is = elim (came_of_run r names ended cut) [
    | inl none ↦ inl none
    | inr ran ↦ inr (ran.files, (ran, refl))
  ]
  may_run (command.Redrive config receives calls visibility timeout traced) ended cut names is = elim (came_of_redrive config receives calls visibility timeout traced ended cut) [
    | inl none ↦ inl none
    | inr ran ↦ inr (ran.files, (ran, refl))
  ]
  may_run (command.Ddb config calls timeout traced) ended cut names is = absurd (true≢false (sym is))
  may_run (command.Replay config calls timeout traced) ended cut names is = absurd (true≢false (sym is))
  may_run (command.Gen records) ended cut names is = absurd (true≢false (sym is))
  may_run (command.Serve requests) ended cut names is = absurd (true≢false (sym is))
  may_run command.Init ended cut names is = absurd (true≢false (sym is))
  may_run command.Show ended cut names is = absurd (true≢false (sym is))
  may_run command.Failures ended cut names is = absurd (true≢false (sym is))
  may_run command.Migrate ended cut names is = absurd (true≢false (sym is))
  may_run command.Compact ended cut names is = absurd (true≢false (sym is))

  -- what is left of a life

  module _ (laws : AreLaws F t.disk) (life : List Stage) (epoch : ℕ) (has : HasLife t.disk fifo life epoch old.journal old.spare old.failures) where
    abbrev Left : Command → (one other bytes : List ℕ) → Type 0
    Left c one other bytes = IsAsFound fifo c old new life epoch one other bytes ⊎ AddsStage t fifo c old new status life one other bytes

    as_found : (c : Command) (one other bytes : List ℕ) → (is_run c ≡ true → NothingHappened old new) → OpensToLife fifo life epoch one other bytes → Left c one other bytes
    as_found c one other bytes idle opens = inl (record { opens = opens; none_ran = idle })

    -- of disks that had one image when the command began

    module _ (settled : AreSettled t.disk old.journal old.spare) (settled_lines : Only (t.disk.content old.failures) (t.disk.image old.failures)) where
      abbrev OnlyOld : Type 0
      OnlyOld = HasOnly t.disk old.journal new.journal × HasOnly t.disk old.spare new.spare × HasOnly t.disk old.failures new.failures

      same : OnlyOld → (c : Command) → (is_run c ≡ true → NothingHappened old new) → (one other bytes : List ℕ) → t.disk.since new.journal (t.disk.moment old.journal) one → t.disk.since new.spare (t.disk.moment old.spare) other → t.disk.since new.failures (t.disk.moment old.failures) bytes → Left c one other bytes
      same only c idle one other bytes since since_spare since_lines =
          as_found c one other bytes idle (of_same t.disk laws fifo life epoch old.journal old.spare old.failures has one other bytes (only.0 one since) (only.1 other since_spare) (only.2 bytes since_lines))

      read_journal : IsOnlyRead t.disk old.journal new.journal → HasOnly t.disk old.journal new.journal
      read_journal read = only_of_read t.disk old.journal new.journal has.honest.0 settled.0 read

      read_spare : IsOnlyRead t.disk old.spare new.spare → HasOnly t.disk old.spare new.spare
      read_spare read = only_of_read t.disk old.spare new.spare has.honest.1 settled.1 read

      read_lines : IsOnlyRead t.disk old.failures new.failures → HasOnly t.disk old.failures new.failures
      read_lines read = only_of_read t.disk old.failures new.failures has.honest_lines settled_lines read

      unused_lines : new.failures ≡ old.failures → HasOnly t.disk old.failures new.failures
      unused_lines is = only_of_unused t.disk laws.only_now old.failures new.failures has.honest_lines settled_lines is

      unused : new.journal ≡ old.journal → new.spare ≡ old.spare → new.failures ≡ old.failures → OnlyOld
      unused journal_is spare_is failures_is = (
        only_of_unused t.disk laws.only_now old.journal new.journal has.honest.0 settled.0 journal_is,
        only_of_unused t.disk laws.only_now old.spare new.spare has.honest.1 settled.1 spare_is,
        unused_lines failures_is,
      )

      unwritten : IsUnwritten t.disk (seen old) (seen new) → OnlyOld
      unwritten read = (read_journal read.0.0, read_spare read.0.1, read_lines read.1)

      -- the dead-letter file as it is now
      lines_now : IsUnwritten t.disk (seen old) (seen new) → (bytes : List ℕ) → t.disk.image new.failures bytes → bytes ≡ t.disk.content old.failures
      lines_now read bytes now = settled_lines bytes (read.1.images has.honest_lines bytes now)

      init_read : IsLeft t command.Init old new → OnlyOld
      init_read kept =
          let one = t.disk.content old.journal in
          let other = t.disk.content old.spare in
          let opens = has.opens.content_is in (
            read_journal ((kept.files_left file.Journal).kept has.honest.0 (not_empty one other epoch (content life) opens)),
            read_spare ((kept.files_left file.Spare).kept has.honest.1 (not_empty_spare one other epoch (content life) opens)),
            read_lines ((kept.files_left file.Failures).kept has.honest_lines (not_empty_lines (t.disk.content old.failures) (dead_lines life) has.opens.lines_are)),
          )

      unrun_since : (c : Command) → is_run c ≡ false → OnlyOld → (one other bytes : List ℕ) → IsSinceStart t.disk old.journal old.spare new.journal new.spare one other → AreLinesSinceStart t.disk old.failures new.failures bytes → Left c one other bytes
      unrun_since c none only one other bytes start lines =
          same only c (λ is. absurd (true≢false (sym is ∙ none))) one other bytes start.journal_since start.spare_since lines.since

    of_run_came : (r : RunWords) → NamesAQueue t fifo (command.Run r) old.registry → (one other bytes : List ℕ) → IsSinceStart t.disk old.journal old.spare new.journal new.spare one other → AreLinesSinceStart t.disk old.failures new.failures bytes → CameOfRun r → Left (command.Run r) one other bytes
    of_run_came r names one other bytes start lines (inl none) =
        same start.settled lines.settled (unwritten start.settled lines.settled none.0) (command.Run r) (λ is. none.1) one other bytes start.journal_since start.spare_since lines.since
    of_run_came r names one other bytes start lines (inr ran) =
        let by = adds_run (of_run t).run laws fifo life epoch (Shows status) status (NamesIn r) (reads_messages t status old new) r.calls (visibility_of r) (history new) old.journal old.spare old.failures old.callers.items (devices_of (seen new)) has ran (names ran.mapping ran.named) one other bytes (inl start) (inl lines) in
        inr (record { stage = Ran by.run; may_add = by.is_run; epoch = by.epoch; opens = by.opens })

    of_redrive_came : (config : List ℕ) (receives calls visibility timeout : ℕ) (traced : Bool) → NamesAQueue t fifo (command.Redrive config receives calls visibility timeout traced) old.registry → (one other bytes : List ℕ) → IsSinceStart t.disk old.journal old.spare new.journal new.spare one other → AreLinesAtEnd t.disk old.failures new.failures bytes
        → CameOfRedrive (redrive_words config receives calls visibility timeout traced) → Left (command.Redrive config receives calls visibility timeout traced) one other bytes
    of_redrive_came config receives calls visibility timeout traced names one other bytes start lines (inl none) =
        let only = unwritten start.settled lines.settled none.0 in
        as_found (command.Redrive config receives calls visibility timeout traced) one other bytes (λ is. none.1)
        (of_same t.disk laws fifo life epoch old.journal old.spare old.failures has one other bytes (only.0 one start.journal_since) (only.1 other start.spare_since) (lines_now start.settled lines.settled none.0 bytes lines.now))
    of_redrive_came config receives calls visibility timeout traced names one other bytes start lines (inr ran) =
        let by = adds_redrive (redrive_tells (of_run t)) laws fifo life epoch (Shows status) status (redrive_words config receives calls visibility timeout traced) (reads_messages t status old new) (history new) old.journal old.spare old.failures old.callers.items new.callers.items (redrive_disks (seen new)) has ran (names ran.mapping ran.named) one other bytes (inl start) lines.now in
        inr (record { stage = Redriven by.redrive; may_add = by.is_redrive; epoch = by.epoch; opens = by.opens })

    keeps : (c : Command) → NamesAQueue t fifo c old.registry → (status ≢ 70 → HasEnded t c old new status) → (status ≡ 70 → IsCut t c old new) → IsLeft t c old new → (one other bytes : List ℕ) → IsSinceStart t.disk old.journal old.spare new.journal new.spare one other → MayBeLines t c old new bytes → Left c one other bytes
    keeps (command.Run r) names ended cut kept one other bytes start lines = of_run_came r names one other bytes start lines (came_of_run r names ended cut)
    keeps (command.Redrive config receives calls visibility timeout traced) names ended cut kept one other bytes start lines =
        of_redrive_came config receives calls visibility timeout traced names one other bytes start lines (came_of_redrive config receives calls visibility timeout traced ended cut)
    keeps (command.Ddb config calls timeout traced) names ended cut kept one other bytes start lines =
        unrun_since start.settled lines.settled (command.Ddb config calls timeout traced) refl
        (unwritten start.settled lines.settled (by_status status IsUnbegun (λ short. ddb_cut config calls traced names (cut short)) (λ known. let told = ended known in ddb_caused config calls traced names told.ended.text told.ending told.ended.cause_is)).0) one other bytes start lines
    keeps (command.Replay config calls timeout traced) names ended cut kept one other bytes start lines =
        unrun_since start.settled lines.settled (command.Replay config calls timeout traced) refl
        (unwritten start.settled lines.settled (by_status status IsUnbegun (λ short. replay_cut config calls traced names (cut short)) (λ known. let told = ended known in replay_caused config calls traced names told.ended.text told.ending told.ended.cause_is)).0) one other bytes start lines
    keeps (command.Gen records) names ended cut kept one other bytes start lines =
        unrun_since start.settled lines.settled (command.Gen records) refl (unused start.settled lines.settled (ap (λ w. w.journal) kept) (ap (λ w. w.spare) kept) (ap (λ w. w.failures) kept)) one other bytes start lines
    keeps (command.Serve requests) names ended cut kept one other bytes start lines =
        unrun_since start.settled lines.settled (command.Serve requests) refl (unused start.settled lines.settled (ap (λ w. w.journal) kept) (ap (λ w. w.spare) kept) (ap (λ w. w.failures) kept)) one other bytes start lines
    keeps command.Init names ended cut kept one other bytes start lines = unrun_since start.settled lines.settled command.Init refl (init_read start.settled lines.settled kept) one other bytes start lines
    keeps command.Show names ended cut kept one other bytes start lines =
        let read = kept.files_left.used in
        unrun_since start.settled lines.settled command.Show refl
        (read_journal start.settled lines.settled read.0, read_spare start.settled lines.settled read.1, unused_lines start.settled lines.settled (ap (λ (d : Disks D). d.failures) kept.files_left.unused)) one other bytes start lines
    keeps command.Failures names ended cut kept one other bytes start lines =
        let unused_is = kept.files_left.unused in
        unrun_since start.settled lines.settled command.Failures refl (
          only_of_unused t.disk laws.only_now old.journal new.journal has.honest.0 start.settled.0 (ap (λ (d : Disks D). d.journal) unused_is),
          only_of_unused t.disk laws.only_now old.spare new.spare has.honest.1 start.settled.1 (ap (λ (d : Disks D). d.spare) unused_is),
          read_lines start.settled lines.settled kept.files_left.used,
        ) one other bytes start lines
    keeps command.Migrate names ended cut kept one other bytes start lines =
        let read = kept.files_left.used.0.version_2 has.honest (version_of (t.disk.content old.journal) (t.disk.content old.spare) epoch (content life) has.opens.content_is) in
        unrun_since start.settled lines.settled command.Migrate refl
        (read_journal start.settled lines.settled read.0, read_spare start.settled lines.settled read.1, unused_lines start.settled lines.settled (ap (λ (d : Disks D). d.failures) kept.files_left.unused)) one other bytes start lines
    keeps command.Compact names ended cut kept one other bytes start lines =
        let lines_are : bytes ≡ t.disk.content old.failures = unused_lines start.settled lines.settled (ap (λ (d : Disks D). d.failures) kept.files_left.unused) bytes lines.since in
        elim (laws.compacted fifo life epoch old.journal old.spare new.journal new.spare one other bytes kept.files_left.used.0 has.honest start.settled
        (subst (λ (z : List ℕ). OpensToLife fifo life epoch (t.disk.content old.journal) (t.disk.content old.spare) z) (sym lines_are) has.opens) start.journal_since start.spare_since) [
          | inl opens ↦ as_found command.Compact one other bytes (λ is. absurd (true≢false (sym is))) opens
          | inr wrote ↦ inr (record { stage = Rewritten wrote.0; may_add = tt; epoch = epoch + 1; opens = wrote.1 })
        ]

    -- and since it opened its files

    keeps_opened : (c : Command) → NamesAQueue t fifo c old.registry → (one other bytes : List ℕ) (files : FilesState D) → RanOver t c old new status files → IsSinceOpening t.disk files new.journal new.spare one other → MayBeLinesOver t c files new bytes → Left c one other bytes
    keeps_opened (command.Run r) names one other bytes files over opening lines =
        let ran = over.0 in
        let by = adds_run (of_run t).run laws fifo life epoch (Shows status) status (NamesIn r) (reads_messages t status old new) r.calls (visibility_of r) (history new) old.journal old.spare old.failures old.callers.items (devices_of (seen new)) has ran (names ran.mapping ran.named) one other bytes
        (inr (subst (λ (f : FilesState D). IsSinceOpening t.disk f new.journal new.spare one other) (sym over.1) opening))
        (inr (subst (λ (f : FilesState D). t.disk.since new.failures (t.disk.moment f.dest.disk) bytes) (sym over.1) lines)) in
        inr (record { stage = Ran by.run; may_add = by.is_run; epoch = by.epoch; opens = by.opens })
    keeps_opened (command.Redrive config receives calls visibility timeout traced) names one other bytes files over opening lines =
        let ran = over.0 in
        let by = adds_redrive (redrive_tells (of_run t)) laws fifo life epoch (Shows status) status (redrive_words config receives calls visibility timeout traced) (reads_messages t status old new) (history new) old.journal old.spare old.failures old.callers.items new.callers.items (redrive_disks (seen new)) has ran (names ran.mapping ran.named) one other bytes
        (inr (subst (λ (f : FilesState D). IsSinceOpening t.disk f new.journal new.spare one other) (sym over.1) opening)) lines in
        inr (record { stage = Redriven by.redrive; may_add = by.is_redrive; epoch = by.epoch; opens = by.opens })
    keeps_opened (command.Ddb config calls timeout traced) names one other bytes files over opening lines = absurd over
    keeps_opened (command.Replay config calls timeout traced) names one other bytes files over opening lines = absurd over
    keeps_opened (command.Gen records) names one other bytes files over opening lines = absurd over
    keeps_opened (command.Serve requests) names one other bytes files over opening lines = absurd over
    keeps_opened command.Init names one other bytes files over opening lines = absurd over
    keeps_opened command.Show names one other bytes files over opening lines = absurd over
    keeps_opened command.Failures names one other bytes files over opening lines = absurd over
    keeps_opened command.Migrate names one other bytes files over opening lines = absurd over
    keeps_opened command.Compact names one other bytes files over opening lines = absurd over

    -- and where it wrote the pair and came to its end

    keeps_written : (c : Command) (one other bytes : List ℕ) → IsWrittenAtEnd t.disk c old.journal old.spare new.journal new.spare one other → AreLinesRead t.disk old.failures new.failures bytes → Left c one other bytes
    keeps_written command.Compact one other bytes wrote lines =
        let by = of_compacted t.disk fifo life epoch old.journal old.spare old.failures has new.journal new.spare wrote.written.0 wrote.written.1 wrote.written.2 in
        let opens = opens_now t.disk by.epoch by.list new.journal new.spare one other by.holds wrote.journal_now wrote.spare_now in
        let same_lines : bytes ≡ t.disk.content old.failures = lines.lines_are ∙ lines.read.same has.honest_lines in
        inr (record { stage = Rewritten by.list; may_add = tt; epoch = by.epoch; opens = of_written t.disk fifo life epoch old.journal old.spare old.failures has new.journal new.spare by one other bytes opens same_lines })
    keeps_written command.Migrate one other bytes wrote lines =
        absurd (true≢false (sym (version_of (t.disk.content old.journal) (t.disk.content old.spare) epoch (content life) has.opens.content_is) ∙ (wrote.written.1 has.honest).version))
    keeps_written (command.Run r) one other bytes wrote lines = absurd wrote.written
    keeps_written (command.Redrive config receives calls visibility timeout traced) one other bytes wrote lines = absurd wrote.written
    keeps_written (command.Ddb config calls timeout traced) one other bytes wrote lines = absurd wrote.written
    keeps_written (command.Replay config calls timeout traced) one other bytes wrote lines = absurd wrote.written
    keeps_written (command.Gen records) one other bytes wrote lines = absurd wrote.written
    keeps_written (command.Serve requests) one other bytes wrote lines = absurd wrote.written
    keeps_written command.Init one other bytes wrote lines = absurd wrote.written
    keeps_written command.Show one other bytes wrote lines = absurd wrote.written
    keeps_written command.Failures one other bytes wrote lines = absurd wrote.written

    -- and of one that ran

    abbrev LeftWhole : Command → Type 0
    LeftWhole c = AddsNothing t fifo old new life epoch ⊎ AddsWhole t fifo c old new status life

    nothing : IsUnbegun → (c : Command) → LeftWhole c
    nothing none c =
        let read = none.0 in
        inl (record {
          nothing = none.1;
          opens = of_same t.disk laws fifo life epoch old.journal old.spare old.failures has (t.disk.content new.journal) (t.disk.content new.spare) (t.disk.content new.failures) (read.0.0.same has.honest.0) (read.0.1.same has.honest.1) (read.1.same has.honest_lines);
          settled = λ was. (settled_of_read t.disk old.journal new.journal has.honest.0 was.0 read.0.0, settled_of_read t.disk old.spare new.spare has.honest.1 was.1 read.0.1);
          settled_lines = λ was. settled_of_read t.disk old.failures new.failures has.honest_lines was read.1;
        })

    unfailed : NoneFailed t.disk status old.journal old.spare old.failures new.journal new.spare new.failures → (AnyRose t.disk old.journal old.spare old.failures new.journal new.spare new.failures × (Shows status)) → ⊥
    unfailed (inl up) fault = up fault.0
    unfailed (inr hides) fault = fault.1 hides

    run_whole : (r : RunWords) → NamesAQueue t fifo (command.Run r) old.registry → NoneFailed t.disk status old.journal old.spare old.failures new.journal new.spare new.failures → CameOfRun r → LeftWhole (command.Run r)
    run_whole r names none (inl unbegun) = nothing unbegun (command.Run r)
    run_whole r names none (inr ran) =
        let by = adds_whole_run (of_run t).run laws fifo life epoch (Shows status) status (NamesIn r) (reads_messages t status old new) r.calls (visibility_of r) (history new) old.journal old.spare old.failures old.callers.items (devices_of (seen new)) has ran (names ran.mapping ran.named) (unfailed none) in
        inr (record { stage = Ran by.run; may_add = by.is_run; whole = by.whole; epoch = by.epoch; opens = by.opens; settled = by.settled; settled_lines = by.settled_lines })

    redrive_whole : (config : List ℕ) (receives calls visibility timeout : ℕ) (traced : Bool) → NamesAQueue t fifo (command.Redrive config receives calls visibility timeout traced) old.registry → NoneFailed t.disk status old.journal old.spare old.failures new.journal new.spare new.failures
        → CameOfRedrive (redrive_words config receives calls visibility timeout traced) → LeftWhole (command.Redrive config receives calls visibility timeout traced)
    redrive_whole config receives calls visibility timeout traced names none (inl unbegun) = nothing unbegun (command.Redrive config receives calls visibility timeout traced)
    redrive_whole config receives calls visibility timeout traced names none (inr ran) =
        let by = adds_whole_redrive (redrive_tells (of_run t)) laws fifo life epoch (Shows status) status (redrive_words config receives calls visibility timeout traced) (reads_messages t status old new) (history new) old.journal old.spare old.failures old.callers.items new.callers.items (redrive_disks (seen new)) has ran (names ran.mapping ran.named) (unfailed none) in
        inr (record { stage = Redriven by.redrive; may_add = by.is_redrive; whole = by.whole; epoch = by.epoch; opens = by.opens; settled = by.settled; settled_lines = by.settled_lines })

    keeps_ran : (c : Command) → is_run c ≡ true → NamesAQueue t fifo c old.registry → NoneFailed t.disk status old.journal old.spare old.failures new.journal new.spare new.failures → (status ≢ 70 → HasEnded t c old new status) → (status ≡ 70 → IsCut t c old new) → LeftWhole c
    keeps_ran (command.Run r) is names none ended cut = run_whole r names none (came_of_run r names ended cut)
    keeps_ran (command.Redrive config receives calls visibility timeout traced) is names none ended cut = redrive_whole config receives calls visibility timeout traced names none (came_of_redrive config receives calls visibility timeout traced ended cut)
    keeps_ran (command.Ddb config calls timeout traced) is names none ended cut = absurd (true≢false (sym is))
    keeps_ran (command.Replay config calls timeout traced) is names none ended cut = absurd (true≢false (sym is))
    keeps_ran (command.Gen records) is names none ended cut = absurd (true≢false (sym is))
    keeps_ran (command.Serve requests) is names none ended cut = absurd (true≢false (sym is))
    keeps_ran command.Init is names none ended cut = absurd (true≢false (sym is))
    keeps_ran command.Show is names none ended cut = absurd (true≢false (sym is))
    keeps_ran command.Failures is names none ended cut = absurd (true≢false (sym is))
    keeps_ran command.Migrate is names none ended cut = absurd (true≢false (sym is))
    keeps_ran command.Compact is names none ended cut = absurd (true≢false (sym is))

-- by the words

module _ {S K D C F L N : Type 0} (t : DevicesTell S K D F L N) (laws : AreLaws F t.disk) (fifo : Bool) (words : List (List ℕ)) (old new : World S K D C F L) (status : ℕ) (said : IsSaid t words old new status) (one_command : OneCommand) (c : Command) (life : List Stage) (epoch : ℕ) (spelled : SpellsBuilt words c) where
  pub command_keeps : KeepsLife t fifo c old new status life epoch
  command_keeps has names one other bytes (inl start) =
      keeps t fifo old new status laws life epoch has c names (ended_so t words old new status said one_command c spelled) (λ short. (said.want_of_memory short).each c spelled) (said.left c spelled) one other bytes start.0 start.1
  command_keeps has names one other bytes (inr (inl end)) = inl (record { opens = of_end t.disk fifo life epoch old.journal old.spare old.failures has new.journal new.spare new.failures one other bytes end.0 end.1; none_ran = end.2 })
  command_keeps has names one other bytes (inr (inr (inl wrote))) = keeps_written t fifo old new status laws life epoch has c one other bytes wrote.0 wrote.1
  command_keeps has names one other bytes (inr (inr (inr opened))) = keeps_opened t fifo old new status laws life epoch has c names one other bytes opened.0 opened.1 opened.2 opened.3

  pub command_whole : KeepsWhole t fifo c old new status life epoch
  command_whole has names is none = keeps_ran t fifo old new status laws life epoch has c is names none (ended_so t words old new status said one_command c spelled) (λ short. (said.want_of_memory short).each c spelled)

-- what came of a command that runs a mapping
pub command_ran : {S K D C F L N : Type 0} (t : DevicesTell S K D F L N) (fifo : Bool) (words : List (List ℕ)) (old new : World S K D C F L) (status : ℕ) → IsSaid t words old new status → OneCommand → (c : Command) → SpellsBuilt words c → MayRun t fifo c old new status
command_ran t fifo words old new status said one_command c spelled = may_run t fifo old new status c (ended_so t words old new status said one_command c spelled) (λ short. (said.want_of_memory short).each c spelled)

-- `compact` that ended with 0
pub compact_writes : {S K D C F L N : Type 0} (t : DevicesTell S K D F L N) (fifo : Bool) (words : List (List ℕ)) (old new : World S K D C F L) (status : ℕ) (life : List Stage) (epoch : ℕ) → IsSaid t words old new status → OneCommand → SpellsBuilt words command.Compact → CompactsLife t fifo old new status life epoch
compact_writes {D = D} t fifo words old new status life epoch said one spelled none has =
    let told = ended_so t words old new status said one command.Compact spelled (λ (is : status ≡ 70). absurd (omega (arith, none, is))) in
    adds_rewritten t.disk fifo life epoch old.journal old.spare old.failures has new.journal new.spare new.failures (has_compacted t.disk old.journal old.spare new.journal new.spare told.end told.cause (told_so told.end status (elim told.told [ inl is ↦ inl is.0 | inr is ↦ inr is.0 ]) none))
    (ap (λ (d : Disks D). d.failures) (said.left command.Compact spelled).files_left.unused)

-- where the words spell none
pub refusal_keeps : {S K D C F L N : Type 0} (t : DevicesTell S K D F L N) → OnlyNow t.disk → (fifo : Bool) (words : List (List ℕ)) (old new : World S K D C F L) (status : ℕ) (life : List Stage) (epoch : ℕ) → IsSaid t words old new status → ((c : Command) → ¬ SpellsBuilt words c)
    → KeepsUntouched t fifo old new life epoch
refusal_keeps t only_now fifo words old new status life epoch said none has one other bytes (inl left) =
    let same = said.untouched none in
    let start = left.0 in
    let lines = left.1 in
    let first : one ≡ t.disk.content old.journal = only_of_unused t.disk only_now old.journal new.journal has.honest.0 start.settled.0 (ap (λ w. w.journal) same) one start.journal_since in
    let second : other ≡ t.disk.content old.spare = only_of_unused t.disk only_now old.spare new.spare has.honest.1 start.settled.1 (ap (λ w. w.spare) same) other start.spare_since in
    let third : bytes ≡ t.disk.content old.failures = only_of_unused t.disk only_now old.failures new.failures has.honest_lines lines.settled (ap (λ w. w.failures) same) bytes lines.since in
    subst (λ (x : List ℕ). OpensToLife fifo life epoch x other bytes) (sym first)
    (subst (λ (y : List ℕ). OpensToLife fifo life epoch (t.disk.content old.journal) y bytes) (sym second)
    (subst (λ (z : List ℕ). OpensToLife fifo life epoch (t.disk.content old.journal) (t.disk.content old.spare) z) (sym third) has.opens))
refusal_keeps t only_now fifo words old new status life epoch said none has one other bytes (inr end) = of_end t.disk fifo life epoch old.journal old.spare old.failures has new.journal new.spare new.failures one other bytes end.0 end.1
