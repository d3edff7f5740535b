-- What each command leaves of a life, from what `esm` says of it.
use Rattle.std.proofs.Common.{◌≡◌, ◌∙◌, ◌⊎◌, ◌+◌, ℕ, Bool, true, false, List, [], Option, Some, None, ap, arith, inl, inr, refl, subst, sym, true≢false}
use Rattle.std.specs.Prelude.{◌==◌, ◌≢◌, not}
use Rattle.std.proofs.lemmas.Bool.{eqb-false, eqb-true}
use Rattle.esm_cli.specs.Words.{spells}
use Rattle.esm_cli.specs.declared.command.Command.{Command}
use Rattle.esm_cli.specs.declared.command.Command.TheVariants as command
use Rattle.esm_cli.specs.declared.command.RunWords.{RunWords}
use Rattle.esm_ddb.specs.declared.input.InputTurned.{InputTurned}
use Rattle.esm_folder.specs.Upkeep.{AreOnlyRead, OneRose}
use Rattle.esm_folder.specs.declared.disks.Disks.{Disks}
use Rattle.esm_input.specs.Reading.{handed}
use Rattle.esm_life.specs.Left.{IsSinceOpening, IsSinceStart}
use Rattle.esm_life.specs.Life.{Ran, Replay, Rewritten, Stage, content}
use Rattle.esm_life.specs.Streams.{OpensToLife}
use Rattle.esm_mapping.specs.Named.{IsExpected, IsNamed}
use Rattle.esm_mapping.specs.declared.expected.Expected.TheVariants as expected
use Rattle.esm_mapping.specs.declared.named.NamedMapping.{NamedMapping}
use Rattle.esm_model.specs.declared.book.Change.{Change}
use Rattle.esm_model.specs.declared.book.Trouble.TheVariants as trouble
use Rattle.esm_model.specs.declared.item.LineKind.TheVariants as kinds
use Rattle.esm_model.specs.declared.names.FileName.TheVariants as file
use Rattle.esm_model.specs.Valid.{is_stream}
use Rattle.esm_program_life.specs.Streams.{AddsNothing, AddsStage, AddsWhole, CompactsLife, HasLife, IsAsFound, IsSaid, KeepsLife, KeepsUntouched, KeepsWhole, MayRun, NamesAStream, NoneFailed, RanOver, is_run, reads_again, reads_records, reads_turned}
use Rattle.esm_program_life.specs.Ran.{HasRanOver, HasReplayed, HidesNoFault, Shows, TellsNoTrouble}
use Rattle.esm_program_life.specs.Reads.{NothingHappened}
use Rattle.esm_program_life.specs.Written.{IsWrittenAtEnd}
use Rattle.esm_program_life.proofs.ReadInputs.{all_read}
use Rattle.esm_program_life.proofs.Disks.{AreLaws, OnlyNow, adds_rewritten, not_empty, not_empty_spare, of_compacted, of_end, of_read, of_read_now, of_unused, of_written, settled_of_read, version_of}
use Rattle.esm_program_life.proofs.Replays.{adds_replay, adds_whole_replay}
use Rattle.esm_program_life.proofs.Replays as replays
use Rattle.esm_program_life.proofs.Writes.{has_compacted, opens_now, told_so}
use Rattle.esm_program_life.proofs.Runs.{adds_run, adds_whole_run, of_ended, of_stopped}
use Rattle.esm_replay_run.specs.Ended as replay_ended
use Rattle.esm_replay_run.specs.declared.run.ReplayEnd.{ReplayEnd}
use Rattle.esm_replay_run.specs.declared.run.ReplayEnd.TheVariants as replay_end
use Rattle.esm_report.specs.declared.ending.Ending.{Ending}
use Rattle.esm_report.specs.declared.ending.Ending.TheVariants as ending
use Rattle.esm_run.specs.Answers.{HasNotBegun, HasNotRun, RunCause, asked}
use Rattle.esm_run.specs.Asks.{Asks}
use Rattle.esm_run.specs.Built.{SpellsBuilt}
use Rattle.esm_run.specs.Commands.{HasEnded, IsCut, IsLeft, Outcome, redrive_words}
use Rattle.esm_run.specs.Ddb.{DdbCause, IsDdbCut, all_left, ddb_asks, never_fails}
use Rattle.esm_run.specs.Endings.{IsTold, ending_of, ending_of_ddb, ending_of_replay, failed_status_of, status_of}
use Rattle.esm_run.specs.Redrive.{IsRedriveCut, RedriveCause, redrive_asks}
use Rattle.esm_run.specs.Replay.{IsReplayCut, ReplayCause, replay_asks, replay_disks, replay_tells}
use Rattle.esm_run.specs.World.{DevicesTell, ddb_tells, devices_of, history, of_run, output, seen}
use Rattle.esm_run.specs.declared.asked.RedriveWords.{RedriveWords}
use Rattle.esm_run.specs.declared.world.World.{World}
use Rattle.esm_runner.specs.Ended.{trouble_of}
use Rattle.esm_runner.specs.Files.{FilesState}
use Rattle.esm_runner.specs.declared.run.MappingEnd.{MappingEnd}
use Rattle.esm_runner.specs.declared.run.MappingEnd.TheVariants as end

-- statuses

pub by_status : (status : ℕ) (P : Type 0) → (status ≡ 70 → P) → (status ≢ 70 → P) → P
by_status status P short ended = by (status == 70) refl
  where
    by : (b : Bool) → (status == 70) ≡ b → P
    by true is = short (eqb-true status 70 is)
    by false is = ended (eqb-false status 70 is)

-- so the status may tell of this ending: want of memory hid it, it was told, or the output failed
abbrev pub Tells : (status : ℕ) → Ending → Type 0
Tells status e = (status ≡ 70) ⊎ ((status ≡ status_of e) ⊎ (status ≡ failed_status_of e))

pub tells_so : (faults_before faults_now : ℕ) (before after : Option (List ℕ)) (text : List ℕ) (e : Ending) (status : ℕ) → IsTold faults_before faults_now before after text e status → Tells status e
tells_so faults_before faults_now before after text e status (inl told) = inr (inl told.0)
tells_so faults_before faults_now before after text e status (inr told) = inr (inr told.0)

-- an ending by the fault of a disk is told by a status that hides none
fault_told : (status : ℕ) (e : Ending) → Tells status e → e ≡ ending.DiskFault → HidesNoFault status → ⊥
fault_told status e (inl short) is hides = hides.memory short
fault_told status e (inr (inl told)) is hides = hides.disk (told ∙ ap status_of is)
fault_told status e (inr (inr told)) is hides = hides.output (told ∙ ap failed_status_of is)

-- and so is each other trouble by one that tells of none

lines_told : (status : ℕ) (e : Ending) → Tells status e → e ≡ ending.DestFault → TellsNoTrouble status → ⊥
lines_told status e (inl short) is quiet = quiet.hides.memory short
lines_told status e (inr (inl told)) is quiet = quiet.lines (told ∙ ap status_of is)
lines_told status e (inr (inr told)) is quiet = quiet.hides.output (told ∙ ap failed_status_of is)

change_told : (status : ℕ) (e : Ending) (change : Change) → Tells status e → e ≡ ending.StreamChanged change → TellsNoTrouble status → ⊥
change_told status e change (inl short) is quiet = quiet.hides.memory short
change_told status e change (inr (inl told)) is quiet = quiet.changed (told ∙ ap status_of is)
change_told status e change (inr (inr told)) is quiet = quiet.hides.output (told ∙ ap failed_status_of is)

run_quiet : (status : ℕ) (e : MappingEnd) (told : Ending) → told ≡ ending_of e → Tells status told → TellsNoTrouble status → trouble_of e ≡ None
run_quiet status end.DiskFault told is tells quiet = absurd (fault_told status told tells is quiet.hides)
run_quiet status end.DestFault told is tells quiet = absurd (lines_told status told tells is quiet)
run_quiet status end.CallsSpent told is tells quiet = refl
run_quiet status (end.Finished why) told is tells quiet = refl
run_quiet status (end.Changed change) told is tells quiet = absurd (change_told status told change tells is quiet)

ddb_quiet : (status : ℕ) (turned : InputTurned) (e : MappingEnd) (told : Ending) → told ≡ ending_of_ddb turned e → Tells status told → TellsNoTrouble status → trouble_of e ≡ None
ddb_quiet status turned end.DiskFault told is tells quiet = absurd (fault_told status told tells is quiet.hides)
ddb_quiet status turned end.DestFault told is tells quiet = absurd (lines_told status told tells is quiet)
ddb_quiet status turned end.CallsSpent told is tells quiet = refl
ddb_quiet status turned (end.Finished why) told is tells quiet = refl
ddb_quiet status turned (end.Changed change) told is tells quiet = absurd (change_told status told change tells is quiet)

run_fault : (e : MappingEnd) → trouble_of e ≡ Some trouble.Disk → ending_of e ≡ ending.DiskFault
run_fault end.DiskFault is = refl
run_fault end.DestFault is = cc
run_fault end.CallsSpent is = cc
run_fault (end.Finished why) is = cc
run_fault (end.Changed change) is = cc

ddb_fault : (turned : InputTurned) (e : MappingEnd) → trouble_of e ≡ Some trouble.Disk → ending_of_ddb turned e ≡ ending.DiskFault
ddb_fault turned end.DiskFault is = refl
ddb_fault turned end.DestFault is = cc
ddb_fault turned end.CallsSpent is = cc
ddb_fault turned (end.Finished why) is = cc
ddb_fault turned (end.Changed change) is = cc

replay_fault : (e : ReplayEnd) → replay_ended.trouble_of e ≡ Some trouble.Disk → ending_of_replay e ≡ ending.DiskFault
replay_fault replay_end.DiskFault is = refl
replay_fault replay_end.CallsSpent is = cc
replay_fault (replay_end.Finished why) is = cc
replay_fault (replay_end.Changed change) is = cc
replay_fault (replay_end.BadLine index) is = cc

-- what came of a command

module _ {S K D C F L N : Type 0} (t : DevicesTell S K D F L N) (old new : World S K D C F L) (status : ℕ) where
  -- nothing came, nothing was called and nothing was written
  abbrev IsUnbegun : Type 0
  IsUnbegun = AreOnlyRead t.disk old.journal old.spare new.journal new.spare × NothingHappened old new

  nothing_happened : history new ≡ [] → new.callers.items ≡ old.callers.items → NothingHappened old new
  nothing_happened none uncalled = record { no_trace = none; uncalled = uncalled }

  unbegun : (a : Asks D) → HasNotBegun t.disk a (history new) (seen old) (seen new) → IsUnbegun
  unbegun a none = (none.unwritten.0, nothing_happened none.untouched.no_trace none.untouched.uncalled)

  unrun : (a : Asks D) (text : List ℕ) (e : Ending) → HasNotRun t.disk a (history new) (seen old) (seen new) text e → IsUnbegun
  unrun a text e none = unbegun a none.unbegun

  -- `run`

  abbrev CameOfRun : RunWords → Type 0
  CameOfRun r = IsUnbegun ⊎ HasRanOver (of_run t).run (Shows status) status (λ (mapping : NamedMapping). IsNamed t.disk r.which old.registry mapping) (reads_records t status old new) r.calls (history new) old.journal old.spare old.callers.items (devices_of (seen new))

  no_queue : (mapping : NamedMapping) → is_stream mapping.config.kind ≡ true → is_stream mapping.config.kind ≡ false → ⊥
  no_queue mapping stream queue = true≢false (sym stream ∙ queue)

  run_caused : (r : RunWords) → NamesAStream t (command.Run r) old.registry → (text : List ℕ) (e : Ending) → RunCause (of_run t) r (history new) (seen old) (seen new) text e → Tells status e → CameOfRun r
  run_caused r names text e (inl none) tells = inl (unrun (asked (of_run t) r) text e none)
  run_caused r names text e (inr (inl ran)) tells =
      inr (of_ended (of_run t).run (asked (of_run t) r) status (reads_records t status old new) r.calls (history new) (seen old) (seen new) (Shows status) ran.mapping ran.files ran.ready (handed ran.input)
      (all_read t.input_faults t.left status kinds.Stream ran.mapping.config.factor ran.mapping.start old.input new.input ran.input ran.is_input.kind ran.is_input.factor ran.is_input.start_is ran.is_input.found ran.is_input.source ran.is_input.read)
      ran.setting ran.is_setting ran.end ran.input.end (t.left new.input) ran.cause
      (λ is. fault_told status e tells (ran.tells ∙ run_fault ran.end is)) (run_quiet status ran.end e ran.tells tells) ran.hand r.read_first r.trace e text ran.headline)
  run_caused r names text e (inr (inr queue)) tells = absurd (no_queue queue.mapping (names queue.mapping queue.ready.named) queue.kind)

  run_cut : (r : RunWords) → NamesAStream t (command.Run r) old.registry → status ≡ 70 → IsCut t (command.Run r) old new → CameOfRun r
  run_cut r names short (inl none) = inl (unbegun (asked (of_run t) r) none)
  run_cut r names short (inr (inl (inl ran))) =
      inr (of_stopped (of_run t).run (asked (of_run t) r) status (reads_records t status old new) r.calls (history new) (seen old) (seen new) (Shows status) (λ hides. hides.memory short) short t.left old.input new.input ran.mapping ran.files ran.ready (λ items read. read) ran.run)
  run_cut r names short (inr (inl (inr queue))) = absurd (no_queue queue.mapping (names queue.mapping queue.ready.named) queue.kind)
  run_cut r names short (inr (inr ended)) = run_caused r names ended.1.text ended.0 ended.1.cause_is (inl short)

  came_of_run : (r : RunWords) → NamesAStream t (command.Run r) old.registry → (status ≢ 70 → HasEnded t (command.Run r) old new status) → (status ≡ 70 → IsCut t (command.Run r) old new) → CameOfRun r
  came_of_run r names ended cut =
      by_status status (CameOfRun r) (λ short. run_cut r names short (cut short))
      (λ known.
      let told = ended known in
      let out = output t old new in
      run_caused r names told.ended.text told.ending told.ended.cause_is (tells_so out.faults_before out.faults_now out.before out.after told.ended.text told.ending status told.told))

  -- `ddb`

  abbrev CameOfDdb : (config : List ℕ) (calls : ℕ) → Type 0
  CameOfDdb config calls = IsUnbegun ⊎ HasRanOver (ddb_tells (of_run t)) (Shows status) status (λ (mapping : NamedMapping). IsExpected expected.DynamoDb config mapping) (reads_turned t status old new) calls (history new) old.journal old.spare old.callers.items (devices_of (seen new))

  ddb_caused : (config : List ℕ) (calls : ℕ) (traced : Bool) (text : List ℕ) (e : Ending) → DdbCause (of_run t) config calls traced (history new) (seen old) (seen new) text e → Tells status e → CameOfDdb config calls
  ddb_caused config calls traced text e (inl none) tells = inl (unrun (ddb_asks config) text e none)
  ddb_caused config calls traced text e (inr ran) tells =
      inr (of_ended (ddb_tells (of_run t)) (ddb_asks config) status (reads_turned t status old new) calls (history new) (seen old) (seen new) (Shows status) ran.mapping ran.files ran.ready (handed ran.input)
      (record {
        lines = ran.lines;
        reading = ran.reading;
        is_turned = ran.is_turned;
        rest = ran.rest;
        read = all_read never_fails all_left status kinds.Stream ran.mapping.config.factor ran.mapping.start ran.lines ran.rest ran.input ran.is_input.kind ran.is_input.factor ran.is_input.start_is ran.is_input.found ran.is_input.source ran.is_input.read;
      }) ran.setting ran.is_setting ran.end ran.input.end (Some ran.rest) ran.cause
      (λ is. fault_told status e tells (ran.tells ∙ ddb_fault ran.reading ran.end is)) (ddb_quiet status ran.reading ran.end e ran.tells tells) ran.hand true traced e text ran.headline)

  ddb_cut : (config : List ℕ) (calls : ℕ) (traced : Bool) → status ≡ 70 → IsDdbCut (of_run t) config calls traced (history new) (seen old) (seen new) → CameOfDdb config calls
  ddb_cut config calls traced short (inl none) = inl (unbegun (ddb_asks config) none)
  ddb_cut config calls traced short (inr (inl turning)) = inl (turning.unwritten.0, nothing_happened turning.no_trace turning.uncalled)
  ddb_cut config calls traced short (inr (inr (inl ran))) =
      inr (of_stopped (ddb_tells (of_run t)) (ddb_asks config) status (reads_turned t status old new) calls (history new) (seen old) (seen new) (Shows status) (λ hides. hides.memory short) short all_left ran.lines ran.rest ran.mapping ran.files ran.ready
      (λ items read. record { lines = ran.lines; reading = ran.reading; is_turned = ran.is_turned; rest = ran.rest; read = read }) ran.run)
  ddb_cut config calls traced short (inr (inr (inr ended))) = ddb_caused config calls traced ended.1.text ended.0 ended.1.cause_is (inl short)

  came_of_ddb : (config : List ℕ) (calls timeout : ℕ) (traced : Bool) → (status ≢ 70 → HasEnded t (command.Ddb config calls timeout traced) old new status) → (status ≡ 70 → IsCut t (command.Ddb config calls timeout traced) old new) → CameOfDdb config calls
  came_of_ddb config calls timeout traced ended cut =
      by_status status (CameOfDdb config calls) (λ short. ddb_cut config calls traced short (cut short))
      (λ known.
      let told = ended known in
      let out = output t old new in
      ddb_caused config calls traced told.ended.text told.ending told.ended.cause_is (tells_so out.faults_before out.faults_now out.before out.after told.ended.text told.ending status told.told))

  -- `replay`

  abbrev CameOfReplay : (config : List ℕ) (calls : ℕ) → Type 0
  CameOfReplay config calls = IsUnbegun ⊎ HasReplayed (replay_tells (of_run t)) (Shows status) status config (reads_again t status old new) calls (history new) old.journal old.spare old.callers.items new.callers.items (replay_disks (seen new))

  begun : {P : Type 0} → (AreOnlyRead t.disk old.journal old.spare new.journal new.spare × (history new ≡ []) × (new.callers.items ≡ old.callers.items)) ⊎ P → IsUnbegun ⊎ P
  begun (inl none) = inl (none.0, nothing_happened none.1 none.2)
  begun (inr ran) = inr ran

  replay_caused : (config : List ℕ) (calls : ℕ) (traced : Bool) (text : List ℕ) (e : Ending) → ReplayCause (of_run t) config calls traced (history new) (seen old) (seen new) text e → Tells status e → CameOfReplay config calls
  replay_caused config calls traced text e (inl none) tells = inl (unrun (replay_asks config) text e none)
  replay_caused config calls traced text e (inr ran) tells =
      begun (replays.of_ended (replay_tells (of_run t)) t.input_faults t.left (Shows status) status config (reads_again t status old new) calls (history new) (seen old) (seen new) ran.mapping ran.files ran.ready ran.caller ran.caller_left ran.first_used ran.reading ran.counts (λ items read. read) ran.end ran.run
      (λ is. fault_told status e tells (ran.tells ∙ replay_fault ran.end is)))

  replay_cut : (config : List ℕ) (calls : ℕ) (traced : Bool) → status ≡ 70 → IsReplayCut (of_run t) config calls traced (history new) (seen old) (seen new) → CameOfReplay config calls
  replay_cut config calls traced short (inl none) = inl (unbegun (replay_asks config) none)
  replay_cut config calls traced short (inr (inl ran)) =
      begun (replays.of_stopped (replay_tells (of_run t)) t.input_faults t.left (Shows status) status config (reads_again t status old new) calls (history new) (seen old) (seen new) ran.mapping ran.files ran.ready ran.caller ran.caller_left ran.first_used ran.reading ran.counts (λ items read. read) (λ hides. hides.memory short) short ran.run)
  replay_cut config calls traced short (inr (inr ended)) = replay_caused config calls traced ended.1.text ended.0 ended.1.cause_is (inl short)

  came_of_replay : (config : List ℕ) (calls timeout : ℕ) (traced : Bool) → (status ≢ 70 → HasEnded t (command.Replay config calls timeout traced) old new status) → (status ≡ 70 → IsCut t (command.Replay config calls timeout traced) old new) → CameOfReplay config calls
  came_of_replay config calls timeout traced ended cut =
      by_status status (CameOfReplay config calls) (λ short. replay_cut config calls traced short (cut short))
      (λ known.
      let told = ended known in
      let out = output t old new in
      replay_caused config calls traced told.ended.text told.ending told.ended.cause_is (tells_so out.faults_before out.faults_now out.before out.after told.ended.text told.ending status told.told))

  -- `redrive` of a queue that the words do not name

  no_redrive : (config : List ℕ) (mapping : NamedMapping) → ((mapping : NamedMapping) → IsExpected expected.Queue config mapping → is_stream mapping.config.kind ≡ true) → IsExpected expected.Queue config mapping → ⊥
  no_redrive config mapping names named = true≢false (sym named.0.kind ∙ ap not (names mapping named))

  redrive_caused : (w : RedriveWords) → ((mapping : NamedMapping) → IsExpected expected.Queue w.config mapping → is_stream mapping.config.kind ≡ true) → (text : List ℕ) (e : Ending) → RedriveCause (of_run t) w (history new) (seen old) (seen new) text e → IsUnbegun
  redrive_caused w names text e (inl none) = unrun (redrive_asks w) text e none
  redrive_caused w names text e (inr (inl line)) = unbegun (redrive_asks w) line.unbegun
  redrive_caused w names text e (inr (inr ran)) = absurd (no_redrive w.config ran.mapping names ran.ready.named)

  redrive_cut : (w : RedriveWords) → ((mapping : NamedMapping) → IsExpected expected.Queue w.config mapping → is_stream mapping.config.kind ≡ true) → IsRedriveCut (of_run t) w (history new) (seen old) (seen new) → IsUnbegun
  redrive_cut w names (inl none) = unbegun (redrive_asks w) none
  redrive_cut w names (inr (inl ran)) = absurd (no_redrive w.config ran.mapping names ran.ready.named)
  redrive_cut w names (inr (inr ended)) = redrive_caused w names ended.1.text ended.0 ended.1.cause_is

  -- `init` over files that are there

  init_read : (life : List Stage) (epoch : ℕ) → HasLife t.disk life epoch old.journal old.spare → IsLeft t command.Init old new → AreOnlyRead t.disk old.journal old.spare new.journal new.spare
  init_read life epoch has kept =
      let one = t.disk.content old.journal in
      let other = t.disk.content old.spare in
      let opens = has.opens.content_is in
      ((kept.files_left file.Journal).kept has.honest.0 (not_empty one other epoch (content life) opens), (kept.files_left file.Spare).kept has.honest.1 (not_empty_spare one other epoch (content life) opens))

  -- over which files a mapping ran

  may_run : (c : Command) → (status ≢ 70 → HasEnded t c old new status) → (status ≡ 70 → IsCut t c old new) → MayRun t c old new status
  may_run (command.Run r) ended cut names is = elim (came_of_run r names ended cut) [
    | inl none ↦ inl none
    | inr ran ↦ inr (ran.files, (ran, refl))
  ]
  may_run (command.Ddb config calls timeout traced) ended cut names is = elim (came_of_ddb config calls timeout traced ended cut) [
    | inl none ↦ inl none
    | inr ran ↦ inr (ran.files, (ran, refl))
  ]
  may_run (command.Replay config calls timeout traced) ended cut names is = elim (came_of_replay config calls timeout traced ended cut) [
    | inl none ↦ inl none
    | inr ran ↦ inr (ran.files, (ran, refl))
  ]
  may_run (command.Redrive config receives calls visibility timeout traced) ended cut names is = absurd (true≢false (sym is))
  may_run (command.Gen records) ended cut names is = absurd (true≢false (sym is))
  may_run (command.Serve requests) ended cut names is = absurd (true≢false (sym is))
  may_run command.Init ended cut names is = absurd (true≢false (sym is))
  may_run command.Show ended cut names is = absurd (true≢false (sym is))
  may_run command.Failures ended cut names is = absurd (true≢false (sym is))
  may_run command.Migrate ended cut names is = absurd (true≢false (sym is))
  may_run command.Compact ended cut names is = absurd (true≢false (sym is))

  -- what is left of a life

  module _ (laws : AreLaws F t.disk) (life : List Stage) (epoch : ℕ) (has : HasLife t.disk life epoch old.journal old.spare) where
    abbrev Left : Command → (one other : List ℕ) → Type 0
    Left c one other = IsAsFound c old new life epoch one other ⊎ AddsStage t c old new status life one other

    as_found : (c : Command) (one other : List ℕ) → (is_run c ≡ true → NothingHappened old new) → OpensToLife life epoch one other → Left c one other
    as_found c one other idle opens = inl (record { opens = opens; none_ran = idle })

    unused : (same : new.journal ≡ old.journal) → new.spare ≡ old.spare → (c : Command) → (is_run c ≡ true → NothingHappened old new) → (one other : List ℕ) → IsSinceStart t.disk old.journal old.spare new.journal new.spare one other → Left c one other
    unused same same_spare c idle one other left = as_found c one other idle (of_unused t.disk laws.only_now life epoch old.journal old.spare has new.journal new.spare one other same same_spare left)

    read : AreOnlyRead t.disk old.journal old.spare new.journal new.spare → (c : Command) → (is_run c ≡ true → NothingHappened old new) → (one other : List ℕ) → IsSinceStart t.disk old.journal old.spare new.journal new.spare one other → Left c one other
    read only c idle one other left = as_found c one other idle (of_read t.disk laws life epoch old.journal old.spare has new.journal new.spare one other only left)

    of_run_came : (r : RunWords) (one other : List ℕ) → IsSinceStart t.disk old.journal old.spare new.journal new.spare one other → CameOfRun r → Left (command.Run r) one other
    of_run_came r one other left (inl none) = read none.0 (command.Run r) (λ is. none.1) one other left
    of_run_came r one other left (inr ran) =
        let by = adds_run (of_run t).run laws life epoch (Shows status) status (λ (mapping : NamedMapping). IsNamed t.disk r.which old.registry mapping) (reads_records t status old new) r.calls (history new) old.journal old.spare old.callers.items (devices_of (seen new)) has ran one other (inl left) in
        inr (record { stage = Ran by.run; may_add = by.is_run; epoch = by.epoch; opens = by.opens })

    of_ddb_came : (config : List ℕ) (calls timeout : ℕ) (traced : Bool) (one other : List ℕ) → IsSinceStart t.disk old.journal old.spare new.journal new.spare one other → CameOfDdb config calls → Left (command.Ddb config calls timeout traced) one other
    of_ddb_came config calls timeout traced one other left (inl none) = read none.0 (command.Ddb config calls timeout traced) (λ is. none.1) one other left
    of_ddb_came config calls timeout traced one other left (inr ran) =
        let by = adds_run (ddb_tells (of_run t)) laws life epoch (Shows status) status (λ (mapping : NamedMapping). IsExpected expected.DynamoDb config mapping) (reads_turned t status old new) calls (history new) old.journal old.spare old.callers.items (devices_of (seen new)) has ran one other (inl left) in
        inr (record { stage = Ran by.run; may_add = by.is_run; epoch = by.epoch; opens = by.opens })

    of_replay_came : (config : List ℕ) (calls timeout : ℕ) (traced : Bool) (one other : List ℕ) → IsSinceStart t.disk old.journal old.spare new.journal new.spare one other → CameOfReplay config calls → Left (command.Replay config calls timeout traced) one other
    of_replay_came config calls timeout traced one other left (inl none) = read none.0 (command.Replay config calls timeout traced) (λ is. none.1) one other left
    of_replay_came config calls timeout traced one other left (inr ran) =
        let by = adds_replay (replay_tells (of_run t)) laws life epoch (Shows status) status config (reads_again t status old new) calls (history new) old.journal old.spare old.callers.items new.callers.items (replay_disks (seen new)) has ran one other (inl left) in
        inr (record { stage = Replay by.replay; may_add = by.is_replay; epoch = by.epoch; opens = by.opens })

    keeps : (c : Command) → NamesAStream t c old.registry → (status ≢ 70 → HasEnded t c old new status) → (status ≡ 70 → IsCut t c old new) → IsLeft t c old new → (one other : List ℕ) → IsSinceStart t.disk old.journal old.spare new.journal new.spare one other → Left c one other
    keeps (command.Run r) names ended cut kept one other left = of_run_came r one other left (came_of_run r names ended cut)
    keeps (command.Ddb config calls timeout traced) names ended cut kept one other left = of_ddb_came config calls timeout traced one other left (came_of_ddb config calls timeout traced ended cut)
    keeps (command.Replay config calls timeout traced) names ended cut kept one other left = of_replay_came config calls timeout traced one other left (came_of_replay config calls timeout traced ended cut)
    keeps (command.Redrive config receives calls visibility timeout traced) names ended cut kept one other left =
        let w = redrive_words config receives calls visibility timeout traced in
        read (by_status status IsUnbegun (λ short. redrive_cut w names (cut short)) (λ known. let told = ended known in redrive_caused w names told.ended.text told.ending told.ended.cause_is)).0 (command.Redrive config receives calls visibility timeout traced) (λ is. absurd (true≢false (sym is))) one other left
    keeps (command.Gen records) names ended cut kept one other left = unused (ap (λ w. w.journal) kept) (ap (λ w. w.spare) kept) (command.Gen records) (λ is. absurd (true≢false (sym is))) one other left
    keeps (command.Serve requests) names ended cut kept one other left = unused (ap (λ w. w.journal) kept) (ap (λ w. w.spare) kept) (command.Serve requests) (λ is. absurd (true≢false (sym is))) one other left
    keeps command.Init names ended cut kept one other left = read (init_read life epoch has kept) command.Init (λ is. absurd (true≢false (sym is))) one other left
    keeps command.Show names ended cut kept one other left = read kept.files_left.used command.Show (λ is. absurd (true≢false (sym is))) one other left
    keeps command.Failures names ended cut kept one other left =
        unused (ap (λ (d : Disks D). d.journal) kept.files_left.unused) (ap (λ (d : Disks D). d.spare) kept.files_left.unused) command.Failures (λ is. absurd (true≢false (sym is))) one other left
    keeps command.Migrate names ended cut kept one other left =
        read (kept.files_left.used.0.version_2 has.honest (version_of (t.disk.content old.journal) (t.disk.content old.spare) epoch (content life) has.opens.content_is)) command.Migrate (λ is. absurd (true≢false (sym is))) one other left
    keeps command.Compact names ended cut kept one other left =
        elim (laws.compacted life epoch old.journal old.spare new.journal new.spare one other kept.files_left.used.0 has.honest left.settled has.opens left.journal_since left.spare_since) [
          | inl opens ↦ as_found command.Compact one other (λ is. absurd (true≢false (sym is))) opens
          | inr wrote ↦ inr (record { stage = Rewritten wrote.0; may_add = tt; epoch = epoch + 1; opens = wrote.1 })
        ]

    -- and since it opened its files

    opened_run : (r : RunWords) (one other : List ℕ) (files : FilesState D) → RanOver t (command.Run r) old new status files → IsSinceOpening t.disk files new.journal new.spare one other → Left (command.Run r) one other
    opened_run r one other files over opening =
        let ran = over.0 in
        let by = adds_run (of_run t).run laws life epoch (Shows status) status (λ (mapping : NamedMapping). IsNamed t.disk r.which old.registry mapping) (reads_records t status old new) r.calls (history new) old.journal old.spare old.callers.items (devices_of (seen new)) has ran one other
        (inr (subst (λ (f : FilesState D). IsSinceOpening t.disk f new.journal new.spare one other) (sym over.1) opening)) in
        inr (record { stage = Ran by.run; may_add = by.is_run; epoch = by.epoch; opens = by.opens })

    opened_ddb : (config : List ℕ) (calls timeout : ℕ) (traced : Bool) (one other : List ℕ) (files : FilesState D) → RanOver t (command.Ddb config calls timeout traced) old new status files → IsSinceOpening t.disk files new.journal new.spare one other
        → Left (command.Ddb config calls timeout traced) one other
    opened_ddb config calls timeout traced one other files over opening =
        let ran = over.0 in
        let by = adds_run (ddb_tells (of_run t)) laws life epoch (Shows status) status (λ (mapping : NamedMapping). IsExpected expected.DynamoDb config mapping) (reads_turned t status old new) calls (history new) old.journal old.spare old.callers.items (devices_of (seen new)) has ran one other
        (inr (subst (λ (f : FilesState D). IsSinceOpening t.disk f new.journal new.spare one other) (sym over.1) opening)) in
        inr (record { stage = Ran by.run; may_add = by.is_run; epoch = by.epoch; opens = by.opens })

    opened_replay : (config : List ℕ) (calls timeout : ℕ) (traced : Bool) (one other : List ℕ) (files : FilesState D) → RanOver t (command.Replay config calls timeout traced) old new status files → IsSinceOpening t.disk files new.journal new.spare one other
        → Left (command.Replay config calls timeout traced) one other
    opened_replay config calls timeout traced one other files over opening =
        let ran = over.0 in
        let by = adds_replay (replay_tells (of_run t)) laws life epoch (Shows status) status config (reads_again t status old new) calls (history new) old.journal old.spare old.callers.items new.callers.items (replay_disks (seen new)) has ran one other
        (inr (subst (λ (f : FilesState D). IsSinceOpening t.disk f new.journal new.spare one other) (sym over.1) opening)) in
        inr (record { stage = Replay by.replay; may_add = by.is_replay; epoch = by.epoch; opens = by.opens })

    keeps_opened : (c : Command) (one other : List ℕ) (files : FilesState D) → RanOver t c old new status files → IsSinceOpening t.disk files new.journal new.spare one other → Left c one other
    keeps_opened (command.Run r) one other files over opening = opened_run r one other files over opening
    keeps_opened (command.Ddb config calls timeout traced) one other files over opening = opened_ddb config calls timeout traced one other files over opening
    keeps_opened (command.Replay config calls timeout traced) one other files over opening = opened_replay config calls timeout traced one other files over opening
    keeps_opened (command.Redrive config receives calls visibility timeout traced) one other files over opening = absurd over
    keeps_opened (command.Gen records) one other files over opening = absurd over
    keeps_opened (command.Serve requests) one other files over opening = absurd over
    keeps_opened command.Init one other files over opening = absurd over
    keeps_opened command.Show one other files over opening = absurd over
    keeps_opened command.Failures one other files over opening = absurd over
    keeps_opened command.Migrate one other files over opening = absurd over
    keeps_opened command.Compact one other files over opening = absurd over

    -- and where it wrote the pair and came to its end

    keeps_written : (c : Command) (one other : List ℕ) → IsWrittenAtEnd t.disk c old.journal old.spare new.journal new.spare one other → Left c one other
    keeps_written command.Compact one other wrote =
        let by = of_compacted t.disk laws.only_now life epoch old.journal old.spare has new.journal new.spare wrote.written.0 wrote.written.1 wrote.written.2 in
        let opens = opens_now t.disk by.epoch by.list new.journal new.spare one other by.holds wrote.journal_now wrote.spare_now in
        inr (record { stage = Rewritten by.list; may_add = tt; epoch = by.epoch; opens = of_written t.disk laws.only_now life epoch old.journal old.spare has new.journal new.spare by one other opens })
    keeps_written command.Migrate one other wrote =
        absurd (true≢false (sym (version_of (t.disk.content old.journal) (t.disk.content old.spare) epoch (content life) has.opens.content_is) ∙ (wrote.written.1 has.honest).version))
    keeps_written (command.Run r) one other wrote = absurd wrote.written
    keeps_written (command.Ddb config calls timeout traced) one other wrote = absurd wrote.written
    keeps_written (command.Replay config calls timeout traced) one other wrote = absurd wrote.written
    keeps_written (command.Redrive config receives calls visibility timeout traced) one other wrote = absurd wrote.written
    keeps_written (command.Gen records) one other wrote = absurd wrote.written
    keeps_written (command.Serve requests) one other wrote = absurd wrote.written
    keeps_written command.Init one other wrote = absurd wrote.written
    keeps_written command.Show one other wrote = absurd wrote.written
    keeps_written command.Failures one other wrote = absurd wrote.written

    -- and of one that ran

    abbrev LeftWhole : Command → Type 0
    LeftWhole c = AddsNothing t old new life epoch ⊎ AddsWhole t c old new status life

    nothing : IsUnbegun → (c : Command) → LeftWhole c
    nothing none c = inl (record {
      nothing = none.1;
      opens = of_read_now t.disk laws life epoch old.journal old.spare has new.journal new.spare none.0;
      settled = λ was. settled_of_read t.disk laws life epoch old.journal old.spare has new.journal new.spare none.0 was;
    })

    unfailed : NoneFailed t.disk status old.journal old.spare new.journal new.spare → (OneRose t.disk old.journal old.spare new.journal new.spare × (Shows status)) → ⊥
    unfailed (inl up) fault = up fault.0
    unfailed (inr hides) fault = fault.1 hides

    run_whole : (r : RunWords) → NoneFailed t.disk status old.journal old.spare new.journal new.spare → CameOfRun r → LeftWhole (command.Run r)
    run_whole r none (inl unbegun) = nothing unbegun (command.Run r)
    run_whole r none (inr ran) =
        let by = adds_whole_run (of_run t).run laws life epoch (Shows status) status (λ (mapping : NamedMapping). IsNamed t.disk r.which old.registry mapping) (reads_records t status old new) r.calls (history new) old.journal old.spare old.callers.items (devices_of (seen new)) has ran (unfailed none) in
        inr (record { stage = Ran by.run; may_add = by.is_run; whole = by.whole; epoch = by.epoch; opens = by.opens; settled = by.settled })

    ddb_whole : (config : List ℕ) (calls timeout : ℕ) (traced : Bool) → NoneFailed t.disk status old.journal old.spare new.journal new.spare → CameOfDdb config calls → LeftWhole (command.Ddb config calls timeout traced)
    ddb_whole config calls timeout traced none (inl unbegun) = nothing unbegun (command.Ddb config calls timeout traced)
    ddb_whole config calls timeout traced none (inr ran) =
        let by = adds_whole_run (ddb_tells (of_run t)) laws life epoch (Shows status) status (λ (mapping : NamedMapping). IsExpected expected.DynamoDb config mapping) (reads_turned t status old new) calls (history new) old.journal old.spare old.callers.items (devices_of (seen new)) has ran (unfailed none) in
        inr (record { stage = Ran by.run; may_add = by.is_run; whole = by.whole; epoch = by.epoch; opens = by.opens; settled = by.settled })

    replay_whole : (config : List ℕ) (calls timeout : ℕ) (traced : Bool) → NoneFailed t.disk status old.journal old.spare new.journal new.spare → CameOfReplay config calls → LeftWhole (command.Replay config calls timeout traced)
    replay_whole config calls timeout traced none (inl unbegun) = nothing unbegun (command.Replay config calls timeout traced)
    replay_whole config calls timeout traced none (inr ran) =
        let by = adds_whole_replay (replay_tells (of_run t)) laws life epoch (Shows status) status config (reads_again t status old new) calls (history new) old.journal old.spare old.callers.items new.callers.items (replay_disks (seen new)) has ran (unfailed none) in
        inr (record { stage = Replay by.replay; may_add = by.is_replay; whole = by.whole; epoch = by.epoch; opens = by.opens; settled = by.settled })

    keeps_ran : (c : Command) → is_run c ≡ true → NamesAStream t c old.registry → NoneFailed t.disk status old.journal old.spare new.journal new.spare → (status ≢ 70 → HasEnded t c old new status) → (status ≡ 70 → IsCut t c old new) → LeftWhole c
    keeps_ran (command.Run r) is names none ended cut = run_whole r none (came_of_run r names ended cut)
    keeps_ran (command.Ddb config calls timeout traced) is names none ended cut = ddb_whole config calls timeout traced none (came_of_ddb config calls timeout traced ended cut)
    keeps_ran (command.Replay config calls timeout traced) is names none ended cut = replay_whole config calls timeout traced none (came_of_replay config calls timeout traced ended cut)
    keeps_ran (command.Redrive config receives calls visibility timeout traced) is names none ended cut = absurd (true≢false (sym is))
    keeps_ran (command.Gen records) is names none ended cut = absurd (true≢false (sym is))
    keeps_ran (command.Serve requests) is names none ended cut = absurd (true≢false (sym is))
    keeps_ran command.Init is names none ended cut = absurd (true≢false (sym is))
    keeps_ran command.Show is names none ended cut = absurd (true≢false (sym is))
    keeps_ran command.Failures is names none ended cut = absurd (true≢false (sym is))
    keeps_ran command.Migrate is names none ended cut = absurd (true≢false (sym is))
    keeps_ran command.Compact is names none ended cut = absurd (true≢false (sym is))

-- by the words

-- words spell one command at most
abbrev pub OneCommand : Type 0
OneCommand = (words : List (List ℕ)) (c d : Command) → spells words c → spells words d → c ≡ d

module _ {S K D C F L N : Type 0} (t : DevicesTell S K D F L N) (words : List (List ℕ)) (old new : World S K D C F L) (status : ℕ) (said : IsSaid t words old new status) where
  pub ended_so : OneCommand → (c : Command) → SpellsBuilt words c → status ≢ 70 → HasEnded t c old new status
  ended_so one c spelled known = by (said.outcome known)
    where
      by : Outcome t words old new status → HasEnded t c old new status
      by (inl ended) = subst (λ (d : Command). HasEnded t d old new status) (one words ended.0 c ended.1.0 spelled.0) ended.2
      by (inr bad) = absurd (bad.none_spelled c spelled)

-- what came of a command that runs a mapping
pub command_ran : {S K D C F L N : Type 0} (t : DevicesTell S K D F L N) (words : List (List ℕ)) (old new : World S K D C F L) (status : ℕ) → IsSaid t words old new status → OneCommand → (c : Command) → SpellsBuilt words c → MayRun t c old new status
command_ran t words old new status said one c spelled = may_run t old new status c (ended_so t words old new status said one c spelled) (λ short. (said.want_of_memory short).each c spelled)

module _ {S K D C F L N : Type 0} (t : DevicesTell S K D F L N) (laws : AreLaws F t.disk) (words : List (List ℕ)) (old new : World S K D C F L) (status : ℕ) (said : IsSaid t words old new status) where
  pub command_keeps : OneCommand → (c : Command) (life : List Stage) (epoch : ℕ) → SpellsBuilt words c → KeepsLife t c old new status life epoch
  command_keeps one c life epoch spelled has names first second (inl start) =
      keeps t old new status laws life epoch has c names (ended_so t words old new status said one c spelled) (λ short. (said.want_of_memory short).each c spelled) (said.left c spelled) first second start
  command_keeps one c life epoch spelled has names first second (inr (inl end)) = inl (record { opens = of_end t.disk laws.only_now life epoch old.journal old.spare has new.journal new.spare first second end.0; none_ran = end.1 })
  command_keeps one c life epoch spelled has names first second (inr (inr (inl wrote))) = keeps_written t old new status laws life epoch has c first second wrote
  command_keeps one c life epoch spelled has names first second (inr (inr (inr opened))) = keeps_opened t old new status laws life epoch has c first second opened.0 opened.1 opened.2

  pub command_whole : OneCommand → (c : Command) (life : List Stage) (epoch : ℕ) → SpellsBuilt words c → KeepsWhole t c old new status life epoch
  command_whole one c life epoch spelled has names is none = keeps_ran t old new status laws life epoch has c is names none (ended_so t words old new status said one c spelled) (λ short. (said.want_of_memory short).each c spelled)

-- `compact` that ended with 0
pub compact_writes : {S K D C F L N : Type 0} (t : DevicesTell S K D F L N) (only_now : OnlyNow t.disk) (words : List (List ℕ)) (old new : World S K D C F L) (status : ℕ) (life : List Stage) (epoch : ℕ) → IsSaid t words old new status → OneCommand → SpellsBuilt words command.Compact → CompactsLife t old new status life epoch
compact_writes {D = D} t only_now words old new status life epoch said one spelled none has =
    let told = ended_so t words old new status said one command.Compact spelled (λ (is : status ≡ 70). absurd (omega (arith, none, is))) in
    adds_rewritten t.disk only_now life epoch old.journal old.spare has new.journal new.spare (has_compacted t.disk old.journal old.spare new.journal new.spare told.end told.cause (told_so told.end status (elim told.told [ inl is ↦ inl is.0 | inr is ↦ inr is.0 ]) none))

-- where the words spell none
pub refusal_keeps : {S K D C F L N : Type 0} (t : DevicesTell S K D F L N) → OnlyNow t.disk → (words : List (List ℕ)) (old new : World S K D C F L) (status : ℕ) (life : List Stage) (epoch : ℕ) → IsSaid t words old new status → ((c : Command) → ¬ SpellsBuilt words c)
    → KeepsUntouched t old new life epoch
refusal_keeps t only_now words old new status life epoch said none has first second (inl start) =
    let same = said.untouched none in
    of_unused t.disk only_now life epoch old.journal old.spare has new.journal new.spare first second (ap (λ w. w.journal) same) (ap (λ w. w.spare) same) start
refusal_keeps t only_now words old new status life epoch said none has first second (inr end) = of_end t.disk only_now life epoch old.journal old.spare has new.journal new.spare first second end
