-- Two outcomes of the same words over the same worlds have one status, where no device failed.
use Rattle.std.proofs.Common.{◌≡◌, ◌∙◌, ℕ, List, inl, inr, subst, sym}
use Rattle.esm_cli.specs.declared.command.Command.{Command}
use Rattle.esm_cli.specs.declared.command.Command.TheVariants.{Init, Run, Show, Failures, Gen, Compact, Serve, Migrate, Ddb, Redrive, Replay}
use Rattle.esm_io.specs.Faults.{Rose}
use Rattle.esm_run.specs.Commands.{HasEnded, IsSound, NoneFailed, Outcome, redrive_words}
use Rattle.esm_run.specs.World.{DevicesTell, disks_in, door, history, of_run, of_serve, output, seen}
use Rattle.esm_run.specs.declared.tending.FilesCommand.TheVariants as files
use Rattle.esm_run.specs.declared.tending.Upkeep.TheVariants as upkeep
use Rattle.esm_run.specs.declared.world.World.{World}
use Rattle.esm_run.proofs.Inits.{told_with}
use Rattle.esm_run.proofs.OneCause.{AreLaws, bad_words_status, same_options}
use Rattle.esm_run.proofs.OneCommand.{OneStatus}
use Rattle.esm_run.proofs.OneDdb.{same_ddb}
use Rattle.esm_run.proofs.OneFiles.{one_files}
use Rattle.esm_run.proofs.OneRedrive.{same_redrive}
use Rattle.esm_run.proofs.OneReplay.{same_replay}
use Rattle.esm_run.proofs.OneServe.{one_serve}

-- of one command
one_of : {S K D C F L N : Type 0} (t : DevicesTell S K D F L N) (c : Command) (old new : World S K D C F L)
    → AreLaws t.disk → ¬ Rose (t.output_faults old.out) (t.output_faults new.out) → IsSound t c old new → OneStatus (HasEnded t c old new)
one_of t (Run r) old new laws told sound a b one other = same_options (of_run t) r (output t old new) (history new) (seen old) (seen new) a b laws sound told one other
one_of t (Serve requests) old new laws told sound a b one other = one_serve (of_serve t) old.registry new.registry (door t old new) (output t old new) requests told sound a b one other
one_of t (Gen records) old new laws told sound a b one other =
    told_with (t.output_faults old.out) (t.output_faults new.out) (t.written old.out) (t.written new.out) _ _ _ a told one.told
    ∙ sym (told_with (t.output_faults old.out) (t.output_faults new.out) (t.written old.out) (t.written new.out) _ _ _ b told other.told)
one_of t Init old new laws told sound a b one other = one_files t.disk (disks_in old) (disks_in new) (output t old new) files.Init told sound a b one other
one_of t Show old new laws told sound a b one other = one_files t.disk (disks_in old) (disks_in new) (output t old new) (files.Upkeep upkeep.Show) told sound a b one other
one_of t Failures old new laws told sound a b one other = one_files t.disk (disks_in old) (disks_in new) (output t old new) (files.Upkeep upkeep.Failures) told sound a b one other
one_of t Compact old new laws told sound a b one other = one_files t.disk (disks_in old) (disks_in new) (output t old new) (files.Upkeep upkeep.Compact) told sound a b one other
one_of t Migrate old new laws told sound a b one other = one_files t.disk (disks_in old) (disks_in new) (output t old new) (files.Upkeep upkeep.Migrate) told sound a b one other
one_of t (Ddb config calls timeout traced) old new laws told sound a b one other = same_ddb (of_run t) config calls traced (output t old new) (history new) (seen old) (seen new) a b laws sound told one other
one_of t (Redrive config receives calls visibility timeout traced) old new laws told sound a b one other =
    same_redrive (of_run t) (redrive_words config receives calls visibility timeout traced) (output t old new) (history new) (seen old) (seen new) a b laws sound told one other
one_of t (Replay config calls timeout traced) old new laws told sound a b one other = same_replay (of_run t) config calls traced (output t old new) (history new) (seen old) (seen new) a b laws sound told one other

pub one_outcome : {S K D C F L N : Type 0} (t : DevicesTell S K D F L N) (words : List (List ℕ)) (old new : World S K D C F L) (a b : ℕ)
    → AreLaws t.disk → NoneFailed t words old new → Outcome t words old new a → Outcome t words old new b → a ≡ b
one_outcome t words old new a b laws sound (inl (c, spelled, one)) (inl (d, also, other)) =
    one_of t c old new laws sound.output_told (sound.command c spelled) a b one
    (subst (λ x. HasEnded t x old new b) (laws.one_command words d c also.0 spelled.0) other)
one_outcome t words old new a b laws sound (inl (c, spelled, one)) (inr other) = absurd (other.none_spelled c spelled)
one_outcome t words old new a b laws sound (inr one) (inl (d, also, other)) = absurd (one.none_spelled d also)
one_outcome t words old new a b laws sound (inr one) (inr other) =
    bad_words_status (t.output_faults old.out) (t.output_faults new.out) (t.written old.out) (t.written new.out) _ a one.told
    ∙ sym (bad_words_status (t.output_faults old.out) (t.output_faults new.out) (t.written old.out) (t.written new.out) _ b other.told)
