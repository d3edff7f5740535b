-- What an id names in the registry, from how its file was opened and what was found.
use Rattle.std.proofs.Common.{◌≡◌, ◌∙◌, ℕ, List, true, arith, refl, sym, ap, inl, subst, Option, Some, None}
use Rattle.esm_config.specs.Given.{IsGiven}
use Rattle.esm_io.specs.Faults.{Rose}
use Rattle.esm_io.specs.Meanings.{DiskMeaning}
use Rattle.esm_journal.specs.File.{header_of, opened, eight_at, Foreign, Damaged}
use Rattle.esm_journal.specs.Reads.{IsOnlyRead, RefusedFor}
use Rattle.esm_journal.specs.State.{JournalState, OpensTo}
use Rattle.esm_journal.specs.declared.error.OpenError.{OpenError}
use Rattle.esm_journal.specs.declared.error.OpenError.TheVariants as file
use Rattle.esm_model.specs.declared.config.Config.{Config}
use Rattle.esm_registry.specs.Lists.{mapping_at}
use Rattle.esm_registry.specs.State.{IsFirstBad, IsRegistry, RegistryState}
use Rattle.esm_registry.specs.declared.command.RegistryOpen.{RegistryOpen}
use Rattle.esm_registry.specs.declared.command.RegistryOpen.TheVariants as payloads
use Rattle.esm_registry.specs.declared.mapping.Mapping.{Mapping}
use Rattle.esm_mapping.specs.Named.{Finds, HasMappings, IsNamedById, WhyNotById}
use Rattle.esm_mapping.specs.Refusals.{IsNamedOf, WhyNotOf, error_of_file, error_of_payloads}
use Rattle.esm_mapping.specs.Starts.{is_latest, start_after}
use Rattle.esm_mapping.specs.declared.named.MappingError.{MappingError}
use Rattle.esm_mapping.specs.declared.named.MappingError.TheVariants as error
use Rattle.esm_mapping.specs.declared.named.NamedMapping.{NamedMapping}
use Rattle.esm_mapping.proofs.Running.{may_run, never_latest}

-- nothing was done to the disk

pub only_read_same : {D : Type 0} (m : DiskMeaning D) (disk : D) → ((bytes : List ℕ) → m.honest disk ≡ true → m.since disk (m.moment disk) bytes → m.image disk bytes) → IsOnlyRead m disk disk
only_read_same m disk only_now = record {
  honesty = refl;
  same = λ honest. refl;
  images = λ honest bytes is. is;
  any_moment = λ honest. record { later = omega arith; each = λ bytes now. only_now bytes honest now; before = λ t bytes early now. inl now };
  never_falls = omega arith;
  greatest = λ within. within;
}

-- the file was refused

pub refused_file : {D : Type 0} (m : DiskMeaning D) (id : List ℕ) (old new : D) (why : OpenError)
    → RefusedFor (λ first. m.honest old ≡ true → (opened (header_of 1) (m.content old) ≡ Foreign) × (first ≡ eight_at (m.content old) 0))
    (λ place. m.honest old ≡ true → opened (header_of 1) (m.content old) ≡ Damaged place) (Rose (m.faults old) (m.faults new)) why
    → WhyNotById m id old new (error_of_file why)
refused_file m id old new (file.NotAJournal first) why = λ honest. (why honest).0
refused_file m id old new (file.Damaged place) why = why
refused_file m id old new file.DiskFault why = why
refused_file m id old new file.OutOfMemory why = tt

pub refused_payloads : {D : Type 0} (m : DiskMeaning D) (id : List ℕ) (old new : D) (found : List (List ℕ)) (why : RegistryOpen)
    → (m.honest old ≡ true → OpensTo (header_of 1) found (m.content old)) → ((index : ℕ) → why ≡ payloads.BadPayload index → IsFirstBad found index)
    → WhyNotById m id old new (error_of_payloads why)
refused_payloads m id old new found (payloads.BadPayload index) opens bad = λ honest. (found, opens honest, bad index refl)
refused_payloads m id old new found payloads.OutOfMemory opens bad = tt

-- the registry was opened

pub has_mappings : {D : Type 0} (m : DiskMeaning D) (old : D) (journal : JournalState D) (registry : RegistryState D) → registry.journal ≡ journal → IsRegistry registry
    → (m.honest old ≡ true → OpensTo (header_of 1) journal.payloads (m.content old)) → HasMappings m old registry.mappings
has_mappings m old journal registry same kept opens = record {
  payloads = registry.journal.payloads;
  opens = λ honest. subst (λ (j : JournalState _). OpensTo (header_of 1) j.payloads (m.content old)) (sym same) (opens honest);
  said = kept.said;
}

named_at : {D : Type 0} (m : DiskMeaning D) (id : List ℕ) (old : D) (found : Option Mapping) → Finds m old id found → (named : NamedMapping) → IsNamedOf found named → IsNamedById m id old named
named_at m id old None finds named is = absurd is
named_at m id old (Some mapping) finds named is = (mapping, finds, is.0, is.1)

why_at : {D : Type 0} (m : DiskMeaning D) (id : List ℕ) (old new : D) (found : Option Mapping) → Finds m old id found → (e : MappingError) → WhyNotOf found e → WhyNotById m id old new e
why_at m id old new None finds error.NotAJournal why = absurd why
why_at m id old new None finds (error.Damaged place) why = absurd why
why_at m id old new None finds (error.BadPayload index) why = absurd why
why_at m id old new None finds error.DiskFault why = absurd why
why_at m id old new None finds error.Unknown why = finds
why_at m id old new None finds error.Disabled why = absurd why
why_at m id old new None finds (error.BadParam param) why = absurd why
why_at m id old new None finds error.OutOfMemory why = tt
why_at m id old new (Some mapping) finds error.NotAJournal why = absurd why
why_at m id old new (Some mapping) finds (error.Damaged place) why = absurd why
why_at m id old new (Some mapping) finds (error.BadPayload index) why = absurd why
why_at m id old new (Some mapping) finds error.DiskFault why = absurd why
why_at m id old new (Some mapping) finds error.Unknown why = absurd why
why_at m id old new (Some mapping) finds error.Disabled why = (mapping, finds, why)
why_at m id old new (Some mapping) finds (error.BadParam param) why = absurd why
why_at m id old new (Some mapping) finds error.OutOfMemory why = tt

pub named_by_id : {D : Type 0} (m : DiskMeaning D) (id : List ℕ) (old : D) (registry : RegistryState D) → HasMappings m old registry.mappings
    → (named : NamedMapping) → IsNamedOf (mapping_at id registry.mappings.list) named → IsNamedById m id old named
named_by_id m id old registry has named is = named_at m id old (mapping_at id registry.mappings.list) (record { mappings = registry.mappings; has = has; found_is = refl }) named is

pub why_not_by_id : {D : Type 0} (m : DiskMeaning D) (id : List ℕ) (old new : D) (registry : RegistryState D) → HasMappings m old registry.mappings
    → (e : MappingError) → WhyNotOf (mapping_at id registry.mappings.list) e → WhyNotById m id old new e
why_not_by_id m id old new registry has e why = why_at m id old new (mapping_at id registry.mappings.list) (record { mappings = registry.mappings; has = has; found_is = refl }) e why

pub named_of : (mapping : Mapping) (named : NamedMapping) → IsGiven mapping.config → mapping.config.enabled ≡ true → named.config ≡ mapping.config
    → named.start ≡ start_after mapping.created mapping.config.start → IsNamedOf (Some mapping) named
named_of mapping named given enabled configs starts = (
  record { config_is = configs; start_is = starts },
  may_run named.config named.start (subst IsGiven (sym configs) given) (ap (λ (c : Config). c.enabled) configs ∙ enabled) (ap is_latest starts ∙ never_latest mapping.created mapping.config.start),
)
