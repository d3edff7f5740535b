-- How `serve` ends if the registry's file is refused. Only this crate's proofs cite this.
use Rattle.std.specs.Prelude.{Result, Ok, Err}
use Rattle.esm_journal.specs.declared.error.OpenError.{OpenError}
use Rattle.esm_journal.specs.declared.error.OpenError.TheVariants as file
use Rattle.esm_model.specs.declared.memory.OutOfMemory.{OutOfMemory}
use Rattle.esm_registry.specs.declared.command.RegistryOpen.{RegistryOpen}
use Rattle.esm_registry.specs.declared.command.RegistryOpen.TheVariants as payloads
use Rattle.esm_run.specs.declared.registry_file.ServeEnd.{ServeEnd}
use Rattle.esm_run.specs.declared.registry_file.ServeEnd.TheVariants as end

-- the journal was not opened
abbrev pub end_of_file : OpenError → Result ServeEnd OutOfMemory
end_of_file (file.NotAJournal first) = Ok end.NotAJournal
end_of_file (file.Damaged place) = Ok (end.Damaged place)
end_of_file file.DiskFault = Ok end.OpenFault
end_of_file file.OutOfMemory = Err (record {})

-- its payloads are not those of a registry
abbrev pub end_of_payloads : RegistryOpen → Result ServeEnd OutOfMemory
end_of_payloads (payloads.BadPayload index) = Ok (end.BadPayload index)
end_of_payloads payloads.OutOfMemory = Err (record {})
