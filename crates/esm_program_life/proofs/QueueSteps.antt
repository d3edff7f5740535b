-- What commands leave of a queue's life one after the other, by induction over them; how a life begins; and that of a pair of version 1.
use Rattle.std.proofs.Common.{◌≡◌, ◌∙◌, ◌⊎◌, ◌+◌, ℕ, Bool, true, List, [], ◌∷◌, ◌++◌, Option, Some, None, ap, arith, inl, inr, refl, subst, sym, true≢false}
use Rattle.esm_cli.specs.declared.command.Command.{Command}
use Rattle.esm_cli.specs.declared.command.Command.TheVariants as command
use Rattle.esm_folder.specs.Init.{IsInitEnd}
use Rattle.esm_folder.specs.Upkeep.{AreHonest}
use Rattle.esm_folder.specs.declared.disks.Disks.{Disks}
use Rattle.esm_folder.specs.declared.files.InitEnd.{InitEnd}
use Rattle.esm_journal.specs.File.{header_of}
use Rattle.esm_journal.specs.State.{OpensTo}
use Rattle.esm_life.specs.Left.{AreLinesRead, AreLinesSinceStart, IsReadAtEnd, IsSinceStart}
use Rattle.esm_life.specs.Queues.{IsLifeBegun, IsMigratingLife, OpensToLife, OpensToLifeOfVersion1}
use Rattle.esm_program_life.specs.Commands.{Spell, Step, left_by, may_migrate}
use Rattle.esm_program_life.specs.QueueCommands.{AddStages, FileBytes, IsAdded, IsFit, IsStep, MayBeLeftBy, RanNone, StepsKeepLife, StepsMigrateLife}
use Rattle.esm_program_life.specs.Queues.{BeginsLife, HasLife, MigratesLife}
use Rattle.esm_program_life.specs.Streams.{IsSaid}
use Rattle.esm_program_life.proofs.Disks.{OnlyNow}
use Rattle.esm_program_life.proofs.QueueCommands.{command_keeps, refusal_keeps}
use Rattle.esm_program_life.proofs.QueueDisks.{AreLaws, HasOnly, only_of_read, only_of_unused}
use Rattle.esm_program_life.proofs.Steps.{made}
use Rattle.esm_program_life.proofs.StreamCommands.{OneCommand, ended_so}
use Rattle.esm_program_life.proofs.Writes.{migrated_now}
use Rattle.esm_queue_life.specs.Life.{Stage, content, dead_lines}
use Rattle.esm_run.specs.Built.{SpellsBuilt}
use Rattle.esm_run.specs.World.{DevicesTell, disks_in}
use Rattle.esm_run.specs.declared.world.World.{World}

module _ {S K D C F L N : Type 0} (t : DevicesTell S K D F L N) (laws : AreLaws F t.disk) (one_command : OneCommand) (fifo : Bool) (found : FileBytes) (life : List Stage) (epoch : ℕ) where
  -- what one more command adds

  -- to the life that the commands before it left
  now : (step : Step S K D C F L FileBytes) (before : FileBytes) (stages : List Stage) (epoch : ℕ) → IsStep t fifo before step → OpensToLife fifo stages epoch before.journal before.spare before.lines → HasLife t.disk fifo stages epoch step.old.journal step.old.spare step.old.failures
  now step before stages epoch is opens = record {
    honest = is.honest;
    honest_lines = is.honest_lines;
    opens = subst (λ (x : List ℕ). OpensToLife fifo stages epoch x (t.disk.content step.old.spare) (t.disk.content step.old.failures)) (sym is.journal_found)
        (subst (λ (y : List ℕ). OpensToLife fifo stages epoch before.journal y (t.disk.content step.old.failures)) (sym is.spare_found) (subst (λ (z : List ℕ). OpensToLife fifo stages epoch before.journal before.spare z) (sym is.lines_found) opens));
  }

  abbrev Added : (step : Step S K D C F L FileBytes) → List Stage → (epoch : ℕ) → Type 0
  Added step stages epoch =
      (OpensToLife fifo stages epoch step.left.journal step.left.spare step.left.lines × RanNone step.command step.old step.new)
      ⊎ ((stage : Stage) × (next : ℕ) × IsAdded t step.command step.old step.new step.status stage × OpensToLife fifo (stage ∷ stages) next step.left.journal step.left.spare step.left.lines)

  added : (step : Step S K D C F L FileBytes) (stages : List Stage) (epoch : ℕ) → HasLife t.disk fifo stages epoch step.old.journal step.old.spare step.old.failures → (command : Option Command) → command ≡ step.command → Spell step.words command → IsFit t fifo command step.old
      → IsSaid t step.words step.old step.new step.status → MayBeLeftBy t command step.old step.new step.status step.left.journal step.left.spare step.left.lines → Added step stages epoch
  added step stages epoch has (Some c) same spelled fit said left =
      elim (command_keeps t laws fifo step.words step.old step.new step.status said one_command c stages epoch spelled has fit step.left.journal step.left.spare step.left.lines left) [
        | inl found ↦ inl (found.opens, subst (λ (command : Option Command). RanNone command step.old step.new) same found.none_ran)
        | inr adds ↦ inr (adds.stage, adds.epoch, subst (λ (command : Option Command). IsAdded t command step.old step.new step.status adds.stage) same adds.may_add, adds.opens)
      ]
  added step stages epoch has None same spelled fit said left =
      inl (
        refusal_keeps t laws.only_now fifo step.words step.old step.new step.status stages epoch said spelled has step.left.journal step.left.spare step.left.lines left,
        subst (λ (command : Option Command). RanNone command step.old step.new) same tt,
      )

  more : (step : Step S K D C F L FileBytes) (steps : List (Step S K D C F L FileBytes)) → IsStep t fifo (left_by found steps) step → AddStages t fifo found steps life → AddStages t fifo found (step ∷ steps) life
  more step steps is before =
      by (added step (before.stages ++ life) before.epoch (now step (left_by found steps) (before.stages ++ life) before.epoch is before.opens) step.command refl is.spelled is.fit is.said is.left_so)
    where
      by : Added step (before.stages ++ life) before.epoch → AddStages t fifo found (step ∷ steps) life
      by (inl as_found) = record { stages = before.stages; added = inl (before.added, as_found.1); epoch = before.epoch; opens = as_found.0 }
      by (inr adds) = record {
        stages = adds.0 ∷ before.stages;
        added = inr (record { stage = adds.0; stages_before = before.stages; stages_are = refl; added = adds.2; are_before = before.added });
        epoch = adds.1;
        opens = adds.3;
      }

  pub steps_keep : (steps : List (Step S K D C F L FileBytes)) → StepsKeepLife t fifo found steps life epoch
  steps_keep [] are opens = record { stages = []; added = refl; epoch = epoch; opens = opens }
  steps_keep (step ∷ steps) are opens = more step steps are.1 (steps_keep steps are.0 opens)

module _ {S K D C F L N : Type 0} (t : DevicesTell S K D F L N) (words : List (List ℕ)) (old new : World S K D C F L) (status : ℕ) (said : IsSaid t words old new status) (fifo : Bool) where
  pub begins : OneCommand → ((old new : Disks D) (fifo : Bool) → IsLifeBegun t.disk old new fifo) → SpellsBuilt words command.Init → BeginsLife t fifo old new status
  begins one new_life spelled none honest =
      let told = ended_so t words old new status said one command.Init spelled (λ (is : status ≡ 70). absurd (omega (arith, none, is))) in
      let end = made t words old new status said told.end (elim told.told [ inl is ↦ inl is.0 | inr is ↦ inr is.0 ]) none in
      new_life (disks_in old) (disks_in new) fifo (subst (λ (e : InitEnd). IsInitEnd t.disk (disks_in old) (disks_in new) e) end told.cause) honest

  pub migrates : (life : List Stage) (epoch : ℕ) → OnlyNow t.disk → ((fifo : Bool) (life : List Stage) (epoch : ℕ) (journal spare journal' spare' : D) (one other bytes : List ℕ) → IsMigratingLife t.disk fifo life epoch journal spare journal' spare' one other bytes) → SpellsBuilt words command.Migrate
      → MigratesLife t fifo old new life epoch
  migrates life epoch only_now migrating spelled honest settled honest_lines settled_lines opens one other bytes since since_spare since_lines =
      let left = (said.left command.Migrate spelled).files_left in
      let same : bytes ≡ t.disk.content old.failures = only_of_unused t.disk only_now old.failures new.failures honest_lines settled_lines (ap (λ (d : Disks D). d.failures) left.unused) bytes since_lines in
      migrating fifo life epoch old.journal old.spare new.journal new.spare one other bytes left.used.0 honest settled (subst (λ (z : List ℕ). OpensToLifeOfVersion1 fifo life epoch (t.disk.content old.journal) (t.disk.content old.spare) z) (sym same) opens) since since_spare

-- of commands that migrate it

none_added : {S K D C F L N : Type 0} (t : DevicesTell S K D F L N) (old new : World S K D C F L) (status : ℕ) (stage : Stage) (o : Option Command) → may_migrate o ≡ true → IsAdded t o old new status stage → ⊥
none_added t old new status stage (Some command.Migrate) may is = is
none_added t old new status stage (Some command.Show) may is = is
none_added t old new status stage (Some command.Failures) may is = is
none_added t old new status stage (Some (command.Gen records)) may is = is
none_added t old new status stage (Some (command.Serve requests)) may is = is
none_added t old new status stage None may is = is
none_added t old new status stage (Some command.Init) may is = true≢false (sym may)
none_added t old new status stage (Some command.Compact) may is = true≢false (sym may)
none_added t old new status stage (Some (command.Run r)) may is = true≢false (sym may)
none_added t old new status stage (Some (command.Ddb config calls timeout traced)) may is = true≢false (sym may)
none_added t old new status stage (Some (command.Redrive config receives calls visibility timeout traced)) may is = true≢false (sym may)
none_added t old new status stage (Some (command.Replay config calls timeout traced)) may is = true≢false (sym may)

abbrev Migrated : Bool → List Stage → (epoch : ℕ) → FileBytes → Type 0
Migrated fifo life epoch left = OpensToLifeOfVersion1 fifo life epoch left.journal left.spare left.lines ⊎ OpensToLife fifo life (epoch + 1) left.journal left.spare left.lines

module _ {S K D C F L N : Type 0} (t : DevicesTell S K D F L N) (laws : AreLaws F t.disk) (migrating : (fifo : Bool) (life : List Stage) (epoch : ℕ) (journal spare journal' spare' : D) (one other bytes : List ℕ) → IsMigratingLife t.disk fifo life epoch journal spare journal' spare' one other bytes) (one_command : OneCommand)
    (fifo : Bool) (found : FileBytes) (life : List Stage) (epoch : ℕ) where
  -- of version 1

  abbrev Old : (step : Step S K D C F L FileBytes) → Type 0
  Old step = OpensToLifeOfVersion1 fifo life epoch (t.disk.content step.old.journal) (t.disk.content step.old.spare) (t.disk.content step.old.failures)

  abbrev Since : (step : Step S K D C F L FileBytes) → Type 0
  Since step = IsSinceStart t.disk step.old.journal step.old.spare step.new.journal step.new.spare step.left.journal step.left.spare × AreLinesSinceStart t.disk step.old.failures step.new.failures step.left.lines

  abbrev AreOnlyOld : (step : Step S K D C F L FileBytes) → Type 0
  AreOnlyOld step = HasOnly t.disk step.old.journal step.new.journal × HasOnly t.disk step.old.spare step.new.spare × HasOnly t.disk step.old.failures step.new.failures

  of_same : (step : Step S K D C F L FileBytes) → Old step → step.left.journal ≡ t.disk.content step.old.journal → step.left.spare ≡ t.disk.content step.old.spare → step.left.lines ≡ t.disk.content step.old.failures → Migrated fifo life epoch step.left
  of_same step opens first second third =
      inl (subst (λ (x : List ℕ). OpensToLifeOfVersion1 fifo life epoch x step.left.spare step.left.lines) (sym first)
      (subst (λ (y : List ℕ). OpensToLifeOfVersion1 fifo life epoch (t.disk.content step.old.journal) y step.left.lines) (sym second)
      (subst (λ (z : List ℕ). OpensToLifeOfVersion1 fifo life epoch (t.disk.content step.old.journal) (t.disk.content step.old.spare) z) (sym third) opens)))

  of_only : (step : Step S K D C F L FileBytes) → Old step → AreOnlyOld step → Since step → Migrated fifo life epoch step.left
  of_only step opens only since = of_same step opens (only.0 step.left.journal since.0.journal_since) (only.1 step.left.spare since.0.spare_since) (only.2 step.left.lines since.1.since)

  of_unused : (step : Step S K D C F L FileBytes) → AreHonest t.disk step.old.journal step.old.spare → t.disk.honest step.old.failures ≡ true → Old step
      → step.new.journal ≡ step.old.journal → step.new.spare ≡ step.old.spare → step.new.failures ≡ step.old.failures → Since step → Migrated fifo life epoch step.left
  of_unused step honest honest_lines opens same same_spare same_lines since =
      of_only step opens (
        only_of_unused t.disk laws.only_now step.old.journal step.new.journal honest.0 since.0.settled.0 same,
        only_of_unused t.disk laws.only_now step.old.spare step.new.spare honest.1 since.0.settled.1 same_spare,
        only_of_unused t.disk laws.only_now step.old.failures step.new.failures honest_lines since.1.settled same_lines,
      ) since

  of_end : (step : Step S K D C F L FileBytes) → AreHonest t.disk step.old.journal step.old.spare → t.disk.honest step.old.failures ≡ true → Old step
      → IsReadAtEnd t.disk step.old.journal step.old.spare step.new.journal step.new.spare step.left.journal step.left.spare → AreLinesRead t.disk step.old.failures step.new.failures step.left.lines → Migrated fifo life epoch step.left
  of_end step honest honest_lines opens end lines = of_same step opens (end.journal_is ∙ end.read.0.same honest.0) (end.spare_is ∙ end.read.1.same honest.1) (lines.lines_are ∙ lines.read.same honest_lines)

  -- it was written, it was only read, or no call was made on it
  of_version_1 : (step : Step S K D C F L FileBytes) → IsSaid t step.words step.old step.new step.status → AreHonest t.disk step.old.journal step.old.spare → t.disk.honest step.old.failures ≡ true → Old step
      → (o : Option Command) → may_migrate o ≡ true → Spell step.words o → MayBeLeftBy t o step.old step.new step.status step.left.journal step.left.spare step.left.lines → Migrated fifo life epoch step.left
  of_version_1 step said honest honest_lines opens (Some command.Migrate) may spelled (inl start) =
      migrates t step.words step.old step.new step.status said fifo life epoch laws.only_now migrating spelled honest start.0.settled honest_lines start.1.settled opens
      step.left.journal step.left.spare step.left.lines start.0.journal_since start.0.spare_since start.1.since
  of_version_1 step said honest honest_lines opens (Some command.Migrate) may spelled (inr (inl end)) = of_end step honest honest_lines opens end.0 end.1
  of_version_1 step said honest honest_lines opens (Some command.Migrate) may spelled (inr (inr (inl wrote))) =
      let lines : step.left.lines ≡ t.disk.content step.old.failures = wrote.1.lines_are ∙ wrote.1.read.same honest_lines in
      inr (record {
        is_life = opens.is_life;
        content_is = migrated_now t.disk step.old.journal step.old.spare step.new.journal step.new.spare wrote.0.written.0 epoch (content life) step.left.journal step.left.spare (wrote.0.written.1 honest) opens.content_is wrote.0.journal_now wrote.0.spare_now;
        lines_are = subst (λ (z : List ℕ). OpensTo (header_of 1) (dead_lines life) z) (sym lines) opens.lines_are;
      })
  of_version_1 step said honest honest_lines opens (Some command.Migrate) may spelled (inr (inr (inr opened))) = absurd opened.1
  of_version_1 step said honest honest_lines opens (Some command.Show) may spelled (inl start) =
      let left = (said.left command.Show spelled).files_left in
      of_only step opens (
        only_of_read t.disk step.old.journal step.new.journal honest.0 start.0.settled.0 left.used.0,
        only_of_read t.disk step.old.spare step.new.spare honest.1 start.0.settled.1 left.used.1,
        only_of_unused t.disk laws.only_now step.old.failures step.new.failures honest_lines start.1.settled (ap (λ (d : Disks D). d.failures) left.unused),
      ) start
  of_version_1 step said honest honest_lines opens (Some command.Show) may spelled (inr (inl end)) = of_end step honest honest_lines opens end.0 end.1
  of_version_1 step said honest honest_lines opens (Some command.Show) may spelled (inr (inr (inl wrote))) = absurd wrote.0.written
  of_version_1 step said honest honest_lines opens (Some command.Show) may spelled (inr (inr (inr opened))) = absurd opened.1
  of_version_1 step said honest honest_lines opens (Some command.Failures) may spelled (inl start) =
      let left = (said.left command.Failures spelled).files_left in
      of_only step opens (
        only_of_unused t.disk laws.only_now step.old.journal step.new.journal honest.0 start.0.settled.0 (ap (λ (d : Disks D). d.journal) left.unused),
        only_of_unused t.disk laws.only_now step.old.spare step.new.spare honest.1 start.0.settled.1 (ap (λ (d : Disks D). d.spare) left.unused),
        only_of_read t.disk step.old.failures step.new.failures honest_lines start.1.settled left.used,
      ) start
  of_version_1 step said honest honest_lines opens (Some command.Failures) may spelled (inr (inl end)) = of_end step honest honest_lines opens end.0 end.1
  of_version_1 step said honest honest_lines opens (Some command.Failures) may spelled (inr (inr (inl wrote))) = absurd wrote.0.written
  of_version_1 step said honest honest_lines opens (Some command.Failures) may spelled (inr (inr (inr opened))) = absurd opened.1
  of_version_1 step said honest honest_lines opens (Some (command.Gen records)) may spelled (inl start) =
      let same = said.left (command.Gen records) spelled in
      of_unused step honest honest_lines opens (ap (λ w. w.journal) same) (ap (λ w. w.spare) same) (ap (λ w. w.failures) same) start
  of_version_1 step said honest honest_lines opens (Some (command.Gen records)) may spelled (inr (inl end)) = of_end step honest honest_lines opens end.0 end.1
  of_version_1 step said honest honest_lines opens (Some (command.Gen records)) may spelled (inr (inr (inl wrote))) = absurd wrote.0.written
  of_version_1 step said honest honest_lines opens (Some (command.Gen records)) may spelled (inr (inr (inr opened))) = absurd opened.1
  of_version_1 step said honest honest_lines opens (Some (command.Serve requests)) may spelled (inl start) =
      let same = said.left (command.Serve requests) spelled in
      of_unused step honest honest_lines opens (ap (λ w. w.journal) same) (ap (λ w. w.spare) same) (ap (λ w. w.failures) same) start
  of_version_1 step said honest honest_lines opens (Some (command.Serve requests)) may spelled (inr (inl end)) = of_end step honest honest_lines opens end.0 end.1
  of_version_1 step said honest honest_lines opens (Some (command.Serve requests)) may spelled (inr (inr (inl wrote))) = absurd wrote.0.written
  of_version_1 step said honest honest_lines opens (Some (command.Serve requests)) may spelled (inr (inr (inr opened))) = absurd opened.1
  of_version_1 step said honest honest_lines opens None may spelled (inl start) =
      let same = said.untouched spelled in
      of_unused step honest honest_lines opens (ap (λ w. w.journal) same) (ap (λ w. w.spare) same) (ap (λ w. w.failures) same) start
  of_version_1 step said honest honest_lines opens None may spelled (inr end) = of_end step honest honest_lines opens end.0 end.1
  of_version_1 step said honest honest_lines opens (Some command.Init) may spelled left = absurd (true≢false (sym may))
  of_version_1 step said honest honest_lines opens (Some command.Compact) may spelled left = absurd (true≢false (sym may))
  of_version_1 step said honest honest_lines opens (Some (command.Run r)) may spelled left = absurd (true≢false (sym may))
  of_version_1 step said honest honest_lines opens (Some (command.Ddb config calls timeout traced)) may spelled left = absurd (true≢false (sym may))
  of_version_1 step said honest honest_lines opens (Some (command.Redrive config receives calls visibility timeout traced)) may spelled left = absurd (true≢false (sym may))
  of_version_1 step said honest honest_lines opens (Some (command.Replay config calls timeout traced)) may spelled left = absurd (true≢false (sym may))

  migrated : (step : Step S K D C F L FileBytes) (before : FileBytes) → IsStep t fifo before step → may_migrate step.command ≡ true → Migrated fifo life epoch before → Migrated fifo life epoch step.left
  migrated step before is may (inl first) =
      of_version_1 step is.said is.honest is.honest_lines
      (subst (λ (x : List ℕ). OpensToLifeOfVersion1 fifo life epoch x (t.disk.content step.old.spare) (t.disk.content step.old.failures)) (sym is.journal_found)
      (subst (λ (y : List ℕ). OpensToLifeOfVersion1 fifo life epoch before.journal y (t.disk.content step.old.failures)) (sym is.spare_found)
      (subst (λ (z : List ℕ). OpensToLifeOfVersion1 fifo life epoch before.journal before.spare z) (sym is.lines_found) first)))
      step.command may is.spelled is.left_so
  migrated step before is may (inr second) =
      inr (stays (added t laws one_command fifo found life epoch step life (epoch + 1) (now t laws one_command fifo found life epoch step before life (epoch + 1) is second) step.command refl is.spelled is.fit is.said is.left_so))
    where
      stays : Added t laws one_command fifo found life epoch step life (epoch + 1) → OpensToLife fifo life (epoch + 1) step.left.journal step.left.spare step.left.lines
      stays (inl as_found) = as_found.0
      stays (inr adds) = absurd (none_added t step.old step.new step.status adds.0 step.command may adds.2)

  pub steps_migrate : (steps : List (Step S K D C F L FileBytes)) → StepsMigrateLife t fifo found steps life epoch
  steps_migrate [] are migrations first = inl first
  steps_migrate (step ∷ steps) are migrations first = migrated step (left_by found steps) are.1 migrations.1 (steps_migrate steps are.0 migrations.0 first)
