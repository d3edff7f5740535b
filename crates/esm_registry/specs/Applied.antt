-- What a call that applies a command to a registry promises.
use Rattle.std.specs.Prelude.{◌≡◌, ◌≤◌, ◌++◌, true, false, Result, IfOk, OnOk, OnErr, IsErrOf}
use Rattle.std.specs.Option.{option_to_list}
use Rattle.esm_io.specs.Faults.{Rose}
use Rattle.esm_io.specs.Images.{LeavesOnly}
use Rattle.esm_io.specs.Meanings.{DiskMeaning}
use Rattle.esm_journal.specs.State.{KeepsWhileUp, KeepsWhileDown}
use Rattle.esm_registry.specs.declared.command.Applied.{Applied}
use Rattle.esm_registry.specs.declared.command.RegistryError.{RegistryError}
use Rattle.esm_registry.specs.declared.command.RegistryError.TheVariants.{DiskFault, OutOfMemory, Down}
use Rattle.esm_registry.specs.Machine.{Stepped}
use Rattle.esm_registry.specs.State.{RegistryState, IsRegistry, OpensToStep}

-- The step of the command was made, or the call was refused. Each clause says what an answer means for the registry
-- before and after the call.
pub record HasApplied {D : Type 0} (m : DiskMeaning D) (stepped : Stepped) (old new : RegistryState D) (result : Result Applied RegistryError) : Type 0 where
  -- `Ok` has the step's answer
  pub answer : IfOk result (λ answer. answer ≡ stepped.answer)
  -- and the mappings are those after the step
  pub mappings : OnOk result (new.mappings ≡ stepped.after)
  -- the step's payload, if it has one, follows those that were there
  pub payloads : OnOk result (new.journal.payloads ≡ old.journal.payloads ++ option_to_list stepped.payload)
  -- and the next command can be applied
  pub up : OnOk result (new.journal.down ≡ false)
  -- after an error the mappings are unchanged
  pub same_mappings : OnErr result (new.mappings ≡ old.mappings)
  -- and so are the payloads
  pub same_payloads : OnErr result (new.journal.payloads ≡ old.journal.payloads)
  -- after `OutOfMemory` nothing has changed at all
  pub no_memory : IsErrOf result OutOfMemory → new ≡ old
  -- after `DiskFault` the journal is down
  pub fault : IsErrOf result DiskFault → new.journal.down ≡ true
  -- and the disk's count of faults has risen
  pub cause : IsErrOf result DiskFault → Rose (m.faults old.journal.disk) (m.faults new.journal.disk)
  -- after `Down` nothing has changed, and the journal was down before
  pub down : IsErrOf result Down → (new ≡ old) × (old.journal.down ≡ true)
  -- and whenever it was, `Down` is returned
  pub is_down : old.journal.down ≡ true → IsErrOf result Down
  -- a crash during the call leaves the payloads from before, with the step's or without it
  pub any_moment : m.honest old.journal.disk ≡ true → old.journal.down ≡ false →
      LeavesOnly m.moment m.since old.journal.disk new.journal.disk (OpensToStep old.journal.payloads stepped.payload)
  -- a crash after the call leaves the payloads that are there
  pub kept : KeepsWhileUp m new.journal
  -- or, where the journal is down, these, or these and the one that was being written
  pub stopped : KeepsWhileDown m new.journal
  -- the payloads say the mappings
  pub registry : IsRegistry new
  -- the disk is as honest as it was
  pub honesty : m.honest new.journal.disk ≡ m.honest old.journal.disk
  -- and its count of faults does not fall
  pub never_falls : m.faults old.journal.disk ≤ m.faults new.journal.disk
