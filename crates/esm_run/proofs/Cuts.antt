-- What a world on which nothing was done is left with, whatever command the words spell, and what stopped the command that they do.
use Rattle.std.proofs.Common.{◌≡◌, ◌∙◌, List, ℕ, [], ap, inl, inr, refl, subst, sym}
use Rattle.esm_cli.specs.declared.command.Command.{Command}
use Rattle.esm_cli.specs.declared.command.Command.TheVariants.{Init, Run, Show, Failures, Gen, Compact, Serve, Migrate, Ddb, Redrive, Replay}
use Rattle.esm_folder.specs.declared.disks.Disks.{Disks}
use Rattle.esm_io.specs.Meanings.{DiskMeaning}
use Rattle.esm_mapping.specs.declared.expected.Expected.TheVariants.{DynamoDb, Queue, Stream}
use Rattle.esm_model.specs.declared.entry.Entry.{Entry}
use Rattle.esm_folder.specs.Upkeep.{AreOnlyRead}
use Rattle.esm_run.specs.Answers.{HasNotBegun, IsUntouched}
use Rattle.esm_run.specs.Asks.{Asks, IsRegistryLeft, by_text, by_words}
use Rattle.esm_run.specs.Built.{SpellsBuilt}
use Rattle.esm_run.specs.Commands.{AreFilesLeft, IsCut, IsLeft, IsStopped}
use Rattle.esm_run.specs.World.{DevicesTell, Seen, disks_in, door, history, seen}
use Rattle.esm_run.specs.declared.tending.FilesCommand.{FilesCommand}
use Rattle.esm_run.specs.declared.tending.FilesCommand.TheVariants as files
use Rattle.esm_run.specs.declared.tending.Upkeep.TheVariants as upkeep
use Rattle.esm_run.specs.declared.world.World.{World}
use Rattle.esm_run.proofs.Lefts.{OnlyNow, left_of_same, pair_same}
use Rattle.esm_run.proofs.OneCommand.{OneCommand, by_command}
use Rattle.esm_run.proofs.RunEndings.{registry_unopened}
use Rattle.esm_run.proofs.Serves.{only_read_same, unserved_same}

-- where nothing was done, no run has begun
not_begun : {S D F : Type 0} (m : DiskMeaning D) (a : Asks D) (h : List Entry) (old new : Seen S D F) → OnlyNow m → a.leaves old.disks.registry old.disks.registry → h ≡ [] → new ≡ old
    → HasNotBegun m a h old new
not_begun m a h old new only_now unopened none same =
    subst (HasNotBegun m a h old) (sym same) (record {
      untouched = record { no_trace = none; unread = refl; uncalled = refl };
      unwritten = (pair_same m only_now old.disks.journal old.disks.spare, only_read_same m old.disks.failures (only_now old.disks.failures));
      registry = unopened;
    })

module _ {S K D C F L N : Type 0} (t : DevicesTell S K D F L N) (old new : World S K D C F L) where
  -- want of memory stopped the command that the words spell
  pub stopped_at : (words : List (List ℕ)) (c : Command) → OneCommand → SpellsBuilt words c → new.out ≡ old.out → IsCut t c old new → IsStopped t words old new
  stopped_at words c one spelled untold cut = record {
    untold = untold;
    stopped = inr (c, spelled, cut);
    each = by_command (λ d. IsCut t d old new) words c one spelled cut;
  }

  module _ (only_now : OnlyNow t.disk) (same : new ≡ record old { out = new.out }) where
    files_same : (f : FilesCommand) → AreFilesLeft t f old new
    files_same f = record {
      kept = same
          ∙ ap (λ (d : Disks D). record old { out = new.out; journal = d.journal; spare = d.spare; failures = d.failures; registry = d.registry }) (sym (ap disks_in same));
      files_left = left_of_same t.disk only_now (disks_in old) (disks_in new) (ap disks_in same) f;
    }

    -- only the output was written
    pub left_alone : (c : Command) → IsLeft t c old new
    left_alone (Run r) = subst (λ (d : D). IsRegistryLeft t.disk r.which old.registry d) (sym (ap (λ w. w.registry) same))
        (registry_unopened t.disk r.which old.registry (only_read_same t.disk old.registry (only_now old.registry)))
    left_alone (Gen records) = same ∙ ap (λ h. record old { out = new.out; trace = h }) (sym (ap (λ w. w.trace) same))
    left_alone (Serve requests) = same
        ∙ ap (λ r. record old { out = new.out; registry = r }) (sym (ap (λ w. w.registry) same))
        ∙ ap (λ d. record old { out = new.out; registry = new.registry; door = d }) (sym (ap (λ w. w.door) same))
    left_alone Init = files_same files.Init
    left_alone Show = files_same (files.Upkeep upkeep.Show)
    left_alone Failures = files_same (files.Upkeep upkeep.Failures)
    left_alone Compact = files_same (files.Upkeep upkeep.Compact)
    left_alone Migrate = files_same (files.Upkeep upkeep.Migrate)
    left_alone (Ddb config calls timeout traced) = ap (λ w. w.registry) same
    left_alone (Redrive config receives calls visibility timeout traced) = ap (λ w. w.registry) same
    left_alone (Replay config calls timeout traced) = ap (λ w. w.registry) same

    module _ (none : history new ≡ []) where
      cut_alone : (c : Command) → IsCut t c old new
      cut_alone (Run r) = inl (not_begun t.disk (by_words t.disk r.which) (history new) (seen old) (seen new) only_now
          (registry_unopened t.disk r.which old.registry (only_read_same t.disk old.registry (only_now old.registry))) none (ap seen same))
      cut_alone (Gen records) = inl none
      cut_alone (Serve requests) = inl (unserved_same t.disk old.registry new.registry (door t old new) (only_now old.registry)
          (ap (λ w. w.registry) same) (ap (λ w. t.closed w.door) same) (ap (λ w. t.door_faults w.door) same))
      cut_alone Compact = inl (subst (λ (d : Disks D). AreOnlyRead t.disk old.journal old.spare d.journal d.spare) (sym (ap disks_in same))
          (pair_same t.disk only_now old.journal old.spare))
      cut_alone Init = tt
      cut_alone Show = tt
      cut_alone Failures = tt
      cut_alone Migrate = tt
      cut_alone (Ddb config calls timeout traced) = inl (not_begun t.disk (by_text DynamoDb config) (history new) (seen old) (seen new) only_now refl none (ap seen same))
      cut_alone (Redrive config receives calls visibility timeout traced) = inl (not_begun t.disk (by_text Queue config) (history new) (seen old) (seen new) only_now refl none (ap seen same))
      cut_alone (Replay config calls timeout traced) = inl (not_begun t.disk (by_text Stream config) (history new) (seen old) (seen new) only_now refl none (ap seen same))

      pub untouched_alone : IsUntouched (history new) (seen old) (seen new)
      untouched_alone = record { no_trace = none; unread = ap (λ w. w.input) same; uncalled = ap (λ w. w.callers.items) same }

      -- want of memory stopped it before the words were read, or when what they spell was to be told
      pub stopped_alone : (words : List (List ℕ)) → new.out ≡ old.out → IsStopped t words old new
      stopped_alone words untold = record { untold = untold; stopped = inl untouched_alone; each = λ c spelled. cut_alone c }
