-- What commands leave of a life one after the other, by induction over them; how a life begins; and that of a pair of version 1.
use Rattle.std.proofs.Common.{◌≡◌, ◌∙◌, ◌⊎◌, ◌+◌, ℕ, true, List, [], ◌∷◌, ◌++◌, Option, Some, None, ap, arith, inl, inr, refl, subst, sym, true≢false}
use Rattle.esm_cli.specs.declared.command.Command.{Command}
use Rattle.esm_cli.specs.declared.command.Command.TheVariants as command
use Rattle.esm_folder.specs.Init.{IsInitEnd}
use Rattle.esm_folder.specs.Upkeep.{AreHonest, AreOnlyRead}
use Rattle.esm_folder.specs.declared.disks.Disks.{Disks}
use Rattle.esm_folder.specs.declared.files.InitEnd.{InitEnd}
use Rattle.esm_folder.specs.declared.files.InitEnd.TheVariants as init_end
use Rattle.esm_life.specs.Left.{IsReadAtEnd, IsSinceStart}
use Rattle.esm_life.specs.Life.{Stage, content}
use Rattle.esm_life.specs.Streams.{IsMigratingLife, IsNewLife, OpensToLife, OpensToLifeOfVersion1}
use Rattle.esm_program_life.specs.Commands.{AddStages, IsAdded, IsFit, IsStep, MayBeLeftBy, PairBytes, RanNone, Spell, Step, StepsKeepLife, StepsMigrateLife, left_by, may_migrate}
use Rattle.esm_program_life.specs.Streams.{BeginsLife, HasLife, IsSaid, MigratesLife}
use Rattle.esm_program_life.proofs.StreamCommands.{OneCommand, command_keeps, ended_so, refusal_keeps}
use Rattle.esm_program_life.proofs.Disks.{AreLaws}
use Rattle.esm_program_life.proofs.Writes.{migrated_now}
use Rattle.esm_run.specs.Built.{SpellsBuilt}
use Rattle.esm_run.specs.Initialized.{init_status}
use Rattle.esm_run.specs.World.{DevicesTell, disks_in}
use Rattle.esm_run.specs.declared.world.World.{World}

module _ {S K D C F L N : Type 0} (t : DevicesTell S K D F L N) (laws : AreLaws F t.disk) (one_command : OneCommand) (found : PairBytes) (life : List Stage) (epoch : ℕ) where
  -- what one more command adds

  -- to the life that the commands before it left
  now : (step : Step S K D C F L PairBytes) (before : PairBytes) (stages : List Stage) (epoch : ℕ) → IsStep t before step → OpensToLife stages epoch before.journal before.spare → HasLife t.disk stages epoch step.old.journal step.old.spare
  now step before stages epoch is opens = record {
    honest = is.honest;
    opens = subst (λ (x : List ℕ). OpensToLife stages epoch x (t.disk.content step.old.spare)) (sym is.journal_found) (subst (λ (y : List ℕ). OpensToLife stages epoch before.journal y) (sym is.spare_found) opens);
  }

  abbrev Added : (step : Step S K D C F L PairBytes) → List Stage → (epoch : ℕ) → Type 0
  Added step stages epoch =
      (OpensToLife stages epoch step.left.journal step.left.spare × RanNone step.command step.old step.new)
      ⊎ ((stage : Stage) × (next : ℕ) × IsAdded t step.command step.old step.new step.status stage × OpensToLife (stage ∷ stages) next step.left.journal step.left.spare)

  added : (step : Step S K D C F L PairBytes) (stages : List Stage) (epoch : ℕ) → HasLife t.disk stages epoch step.old.journal step.old.spare → (command : Option Command) → command ≡ step.command → Spell step.words command → IsFit t command step.old → IsSaid t step.words step.old step.new step.status
      → MayBeLeftBy t command step.old step.new step.status step.left.journal step.left.spare → Added step stages epoch
  added step stages epoch has (Some c) same spelled fit said left =
      elim (command_keeps t laws step.words step.old step.new step.status said one_command c stages epoch spelled has fit step.left.journal step.left.spare left) [
        | inl found ↦ inl (found.opens, subst (λ (command : Option Command). RanNone command step.old step.new) same found.none_ran)
        | inr adds ↦ inr (adds.stage, adds.epoch, subst (λ (command : Option Command). IsAdded t command step.old step.new step.status adds.stage) same adds.may_add, adds.opens)
      ]
  added step stages epoch has None same spelled fit said left =
      inl (
        refusal_keeps t laws.only_now step.words step.old step.new step.status stages epoch said spelled has step.left.journal step.left.spare left,
        subst (λ (command : Option Command). RanNone command step.old step.new) same tt,
      )

  more : (step : Step S K D C F L PairBytes) (steps : List (Step S K D C F L PairBytes)) → IsStep t (left_by found steps) step → AddStages t found steps life → AddStages t found (step ∷ steps) life
  more step steps is before =
      by (added step (before.stages ++ life) before.epoch (now step (left_by found steps) (before.stages ++ life) before.epoch is before.opens) step.command refl is.spelled is.fit is.said is.left_so)
    where
      by : Added step (before.stages ++ life) before.epoch → AddStages t found (step ∷ steps) life
      by (inl as_found) = record { stages = before.stages; added = inl (before.added, as_found.1); epoch = before.epoch; opens = as_found.0 }
      by (inr adds) = record {
        stages = adds.0 ∷ before.stages;
        added = inr (record { stage = adds.0; stages_before = before.stages; stages_are = refl; added = adds.2; are_before = before.added });
        epoch = adds.1;
        opens = adds.3;
      }

  pub steps_keep : (steps : List (Step S K D C F L PairBytes)) → StepsKeepLife t found steps life epoch
  steps_keep [] are opens = record { stages = []; added = refl; epoch = epoch; opens = opens }
  steps_keep (step ∷ steps) are opens = more step steps are.1 (steps_keep steps are.0 opens)

module _ {S K D C F L N : Type 0} (t : DevicesTell S K D F L N) (words : List (List ℕ)) (old new : World S K D C F L) (status : ℕ) (said : IsSaid t words old new status) where
  pub made : (e : InitEnd) → (status ≡ init_status e) ⊎ (status ≡ 5) → status ≡ 0 → e ≡ init_end.Done
  made init_end.Done told none = refl
  made (init_end.NotEmpty f size) (inl is) none = let told : status ≡ 8 = is in absurd (omega (arith, none, told))
  made (init_end.NotEmpty f size) (inr is) none = absurd (omega (arith, none, is))
  made init_end.DiskFault (inl is) none = let told : status ≡ 6 = is in absurd (omega (arith, none, told))
  made init_end.DiskFault (inr is) none = absurd (omega (arith, none, is))

  pub begins : OneCommand → ((old new : Disks D) → IsNewLife t.disk old new) → SpellsBuilt words command.Init → BeginsLife t old new status
  begins one new_life spelled none honest =
      let told = ended_so t words old new status said one command.Init spelled (λ (is : status ≡ 70). absurd (omega (arith, none, is))) in
      let end = made told.end (elim told.told [ inl is ↦ inl is.0 | inr is ↦ inr is.0 ]) none in
      new_life (disks_in old) (disks_in new) (subst (λ (e : InitEnd). IsInitEnd t.disk (disks_in old) (disks_in new) e) end told.cause) honest

  pub migrates : (life : List Stage) (epoch : ℕ) → ((life : List Stage) (epoch : ℕ) (journal spare journal' spare' : D) (one other : List ℕ) → IsMigratingLife t.disk life epoch journal spare journal' spare' one other) → SpellsBuilt words command.Migrate → MigratesLife t old new life epoch
  migrates life epoch migrating spelled honest settled opens one other since since_spare =
      migrating life epoch old.journal old.spare new.journal new.spare one other (said.left command.Migrate spelled).files_left.used.0 honest settled opens since since_spare

-- of commands that migrate it

none_added : {S K D C F L N : Type 0} (t : DevicesTell S K D F L N) (old new : World S K D C F L) (status : ℕ) (stage : Stage) (o : Option Command) → may_migrate o ≡ true → IsAdded t o old new status stage → ⊥
none_added t old new status stage (Some command.Migrate) may is = is
none_added t old new status stage (Some command.Show) may is = is
none_added t old new status stage (Some command.Failures) may is = is
none_added t old new status stage (Some (command.Gen records)) may is = is
none_added t old new status stage (Some (command.Serve requests)) may is = is
none_added t old new status stage None may is = is
none_added t old new status stage (Some command.Init) may is = true≢false (sym may)
none_added t old new status stage (Some command.Compact) may is = true≢false (sym may)
none_added t old new status stage (Some (command.Run r)) may is = true≢false (sym may)
none_added t old new status stage (Some (command.Ddb config calls timeout traced)) may is = true≢false (sym may)
none_added t old new status stage (Some (command.Redrive config receives calls visibility timeout traced)) may is = true≢false (sym may)
none_added t old new status stage (Some (command.Replay config calls timeout traced)) may is = true≢false (sym may)

abbrev Migrated : List Stage → (epoch : ℕ) → PairBytes → Type 0
Migrated life epoch left = OpensToLifeOfVersion1 life epoch left.journal left.spare ⊎ OpensToLife life (epoch + 1) left.journal left.spare

module _ {S K D C F L N : Type 0} (t : DevicesTell S K D F L N) (laws : AreLaws F t.disk) (migrating : (life : List Stage) (epoch : ℕ) (journal spare journal' spare' : D) (one other : List ℕ) → IsMigratingLife t.disk life epoch journal spare journal' spare' one other) (one_command : OneCommand) (found : PairBytes) (life : List Stage)
    (epoch : ℕ) where
  -- of version 1

  abbrev Old : (step : Step S K D C F L PairBytes) → Type 0
  Old step = OpensToLifeOfVersion1 life epoch (t.disk.content step.old.journal) (t.disk.content step.old.spare)

  of_same : (step : Step S K D C F L PairBytes) → Old step → step.left.journal ≡ t.disk.content step.old.journal → step.left.spare ≡ t.disk.content step.old.spare → Migrated life epoch step.left
  of_same step opens first second =
      inl (subst (λ (x : List ℕ). OpensToLifeOfVersion1 life epoch x step.left.spare) (sym first) (subst (λ (y : List ℕ). OpensToLifeOfVersion1 life epoch (t.disk.content step.old.journal) y) (sym second) opens))

  of_read : (step : Step S K D C F L PairBytes) → AreHonest t.disk step.old.journal step.old.spare → Old step → AreOnlyRead t.disk step.old.journal step.old.spare step.new.journal step.new.spare
      → IsSinceStart t.disk step.old.journal step.old.spare step.new.journal step.new.spare step.left.journal step.left.spare → Migrated life epoch step.left
  of_read step honest opens read start =
      of_same step opens (start.settled.0 step.left.journal ((read.0.any_moment honest.0).each step.left.journal start.journal_since)) (start.settled.1 step.left.spare ((read.1.any_moment honest.1).each step.left.spare start.spare_since))

  of_unused : (step : Step S K D C F L PairBytes) → AreHonest t.disk step.old.journal step.old.spare → Old step → step.new.journal ≡ step.old.journal → step.new.spare ≡ step.old.spare
      → IsSinceStart t.disk step.old.journal step.old.spare step.new.journal step.new.spare step.left.journal step.left.spare → Migrated life epoch step.left
  of_unused step honest opens same same_spare start =
      of_same step opens
      (start.settled.0 step.left.journal (laws.only_now step.old.journal step.left.journal honest.0 (subst (λ (d : D). t.disk.since d (t.disk.moment step.old.journal) step.left.journal) same start.journal_since)))
      (start.settled.1 step.left.spare (laws.only_now step.old.spare step.left.spare honest.1 (subst (λ (d : D). t.disk.since d (t.disk.moment step.old.spare) step.left.spare) same_spare start.spare_since)))

  of_end : (step : Step S K D C F L PairBytes) → AreHonest t.disk step.old.journal step.old.spare → Old step → IsReadAtEnd t.disk step.old.journal step.old.spare step.new.journal step.new.spare step.left.journal step.left.spare → Migrated life epoch step.left
  of_end step honest opens end = of_same step opens (end.journal_is ∙ end.read.0.same honest.0) (end.spare_is ∙ end.read.1.same honest.1)

  -- it was written, it was only read, or no call was made on it
  of_version_1 : (step : Step S K D C F L PairBytes) → IsSaid t step.words step.old step.new step.status → AreHonest t.disk step.old.journal step.old.spare → Old step
      → (o : Option Command) → may_migrate o ≡ true → Spell step.words o → MayBeLeftBy t o step.old step.new step.status step.left.journal step.left.spare → Migrated life epoch step.left
  of_version_1 step said honest opens (Some command.Migrate) may spelled (inl start) =
      migrates t step.words step.old step.new step.status said life epoch migrating spelled honest start.settled opens step.left.journal step.left.spare start.journal_since start.spare_since
  of_version_1 step said honest opens (Some command.Migrate) may spelled (inr (inr (inl wrote))) =
      inr (record { is_life = opens.is_life; content_is = migrated_now t.disk step.old.journal step.old.spare step.new.journal step.new.spare wrote.written.0 epoch (content life) step.left.journal step.left.spare (wrote.written.1 honest) opens.content_is wrote.journal_now wrote.spare_now })
  of_version_1 step said honest opens (Some command.Migrate) may spelled (inr (inr (inr opened))) = absurd opened.1
  of_version_1 step said honest opens (Some command.Migrate) may spelled (inr (inl end)) = of_end step honest opens end.0
  of_version_1 step said honest opens (Some command.Show) may spelled (inl start) = of_read step honest opens (said.left command.Show spelled).files_left.used start
  of_version_1 step said honest opens (Some command.Show) may spelled (inr (inl end)) = of_end step honest opens end.0
  of_version_1 step said honest opens (Some command.Show) may spelled (inr (inr (inl wrote))) = absurd wrote.written
  of_version_1 step said honest opens (Some command.Show) may spelled (inr (inr (inr opened))) = absurd opened.1
  of_version_1 step said honest opens (Some command.Failures) may spelled (inl start) =
      let unused = (said.left command.Failures spelled).files_left.unused in
      of_unused step honest opens (ap (λ (d : Disks D). d.journal) unused) (ap (λ (d : Disks D). d.spare) unused) start
  of_version_1 step said honest opens (Some command.Failures) may spelled (inr (inl end)) = of_end step honest opens end.0
  of_version_1 step said honest opens (Some command.Failures) may spelled (inr (inr (inl wrote))) = absurd wrote.written
  of_version_1 step said honest opens (Some command.Failures) may spelled (inr (inr (inr opened))) = absurd opened.1
  of_version_1 step said honest opens (Some (command.Gen records)) may spelled (inl start) =
      let same = said.left (command.Gen records) spelled in
      of_unused step honest opens (ap (λ w. w.journal) same) (ap (λ w. w.spare) same) start
  of_version_1 step said honest opens (Some (command.Gen records)) may spelled (inr (inl end)) = of_end step honest opens end.0
  of_version_1 step said honest opens (Some (command.Gen records)) may spelled (inr (inr (inl wrote))) = absurd wrote.written
  of_version_1 step said honest opens (Some (command.Gen records)) may spelled (inr (inr (inr opened))) = absurd opened.1
  of_version_1 step said honest opens (Some (command.Serve requests)) may spelled (inl start) =
      let same = said.left (command.Serve requests) spelled in
      of_unused step honest opens (ap (λ w. w.journal) same) (ap (λ w. w.spare) same) start
  of_version_1 step said honest opens (Some (command.Serve requests)) may spelled (inr (inl end)) = of_end step honest opens end.0
  of_version_1 step said honest opens (Some (command.Serve requests)) may spelled (inr (inr (inl wrote))) = absurd wrote.written
  of_version_1 step said honest opens (Some (command.Serve requests)) may spelled (inr (inr (inr opened))) = absurd opened.1
  of_version_1 step said honest opens None may spelled (inl start) =
      let same = said.untouched spelled in
      of_unused step honest opens (ap (λ w. w.journal) same) (ap (λ w. w.spare) same) start
  of_version_1 step said honest opens None may spelled (inr end) = of_end step honest opens end
  of_version_1 step said honest opens (Some command.Init) may spelled left = absurd (true≢false (sym may))
  of_version_1 step said honest opens (Some command.Compact) may spelled left = absurd (true≢false (sym may))
  of_version_1 step said honest opens (Some (command.Run r)) may spelled left = absurd (true≢false (sym may))
  of_version_1 step said honest opens (Some (command.Ddb config calls timeout traced)) may spelled left = absurd (true≢false (sym may))
  of_version_1 step said honest opens (Some (command.Redrive config receives calls visibility timeout traced)) may spelled left = absurd (true≢false (sym may))
  of_version_1 step said honest opens (Some (command.Replay config calls timeout traced)) may spelled left = absurd (true≢false (sym may))

  migrated : (step : Step S K D C F L PairBytes) (before : PairBytes) → IsStep t before step → may_migrate step.command ≡ true → Migrated life epoch before → Migrated life epoch step.left
  migrated step before is may (inl first) =
      of_version_1 step is.said is.honest
      (subst (λ (x : List ℕ). OpensToLifeOfVersion1 life epoch x (t.disk.content step.old.spare)) (sym is.journal_found) (subst (λ (y : List ℕ). OpensToLifeOfVersion1 life epoch before.journal y) (sym is.spare_found) first))
      step.command may is.spelled is.left_so
  migrated step before is may (inr second) =
      inr (stays (added t laws one_command found life epoch step life (epoch + 1) (now t laws one_command found life epoch step before life (epoch + 1) is second) step.command refl is.spelled is.fit is.said is.left_so))
    where
      stays : Added t laws one_command found life epoch step life (epoch + 1) → OpensToLife life (epoch + 1) step.left.journal step.left.spare
      stays (inl as_found) = as_found.0
      stays (inr adds) = absurd (none_added t step.old step.new step.status adds.0 step.command may adds.2)

  pub steps_migrate : (steps : List (Step S K D C F L PairBytes)) → StepsMigrateLife t found steps life epoch
  steps_migrate [] are migrations first = inl first
  steps_migrate (step ∷ steps) are migrations first = migrated step (left_by found steps) are.1 migrations.1 (steps_migrate steps are.0 migrations.0 first)
