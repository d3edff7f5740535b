-- Which error is returned for a refusal of the registry's file, and for what was found under an id. Only this crate's proofs
-- cite this.
use Rattle.std.specs.Prelude.{◌≡◌, false, Option, Some, None}
use Rattle.esm_journal.specs.declared.error.OpenError.{OpenError}
use Rattle.esm_journal.specs.declared.error.OpenError.TheVariants as file
use Rattle.esm_registry.specs.declared.command.RegistryOpen.{RegistryOpen}
use Rattle.esm_registry.specs.declared.command.RegistryOpen.TheVariants as payloads
use Rattle.esm_registry.specs.declared.mapping.Mapping.{Mapping}
use Rattle.esm_mapping.specs.Named.{IsOfMapping, MayRun}
use Rattle.esm_mapping.specs.declared.named.MappingError.{MappingError}
use Rattle.esm_mapping.specs.declared.named.MappingError.TheVariants as error
use Rattle.esm_mapping.specs.declared.named.NamedMapping.{NamedMapping}

-- for a file that was not opened
abbrev pub error_of_file : OpenError → MappingError
error_of_file (file.NotAJournal first) = error.NotAJournal
error_of_file (file.Damaged place) = error.Damaged place
error_of_file file.DiskFault = error.DiskFault
error_of_file file.OutOfMemory = error.OutOfMemory

-- for payloads that are not a registry's
abbrev pub error_of_payloads : RegistryOpen → MappingError
error_of_payloads (payloads.BadPayload index) = error.BadPayload index
error_of_payloads payloads.OutOfMemory = error.OutOfMemory

-- the mapping that may run, from what was found
abbrev pub IsNamedOf : Option Mapping → NamedMapping → Type 0
IsNamedOf None named = ⊥
IsNamedOf (Some mapping) named = IsOfMapping mapping named × MayRun named

-- why what was found is no mapping that may run
abbrev pub WhyNotOf : Option Mapping → MappingError → Type 0
WhyNotOf None error.Unknown = Unit {0}
WhyNotOf (Some mapping) error.Disabled = mapping.config.enabled ≡ false
WhyNotOf _ error.OutOfMemory = Unit {0}
WhyNotOf _ _ = ⊥
