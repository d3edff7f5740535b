-- The mapping that the words of `run` name, by its text or by its id in the registry, or that a command gets as a text of
-- the kind that it expects; and why there is none that may run: the registry has no such mapping, it is disabled, a field of
-- the text is refused, or the registry's file is refused. Source: the Lambda API reference, `CreateEventSourceMapping` and
-- `GetEventSourceMapping`; the order is this product's own.
use Rattle.std.specs.Prelude.{◌≡◌, ℕ, Bool, true, false, List, Option, Some, None, is_ok}
use Rattle.serde_json.specs.Data.{Data}
use Rattle.serde_json.specs.Read.{read}
use Rattle.esm_cli.specs.declared.command.Which.{Which}
use Rattle.esm_cli.specs.declared.command.Which.TheVariants as which
use Rattle.esm_io.specs.Faults.{Rose}
use Rattle.esm_io.specs.Meanings.{DiskMeaning}
use Rattle.esm_journal.specs.File.{header_of, opened, Foreign, Damaged}
use Rattle.esm_journal.specs.State.{OpensTo}
use Rattle.esm_model.specs.Pattern.{read_patterns}
use Rattle.esm_model.specs.QueueEvent.{IsQueueConfig}
use Rattle.esm_model.specs.Valid.{is_stream, IsStreamConfig}
use Rattle.esm_model.specs.declared.config.Config.{Config}
use Rattle.esm_registry.specs.Lists.{Mappings, mapping_at}
use Rattle.esm_registry.specs.Payload.{mappings_of}
use Rattle.esm_registry.specs.State.{IsFirstBad}
use Rattle.esm_registry.specs.declared.mapping.Mapping.{Mapping}
use Rattle.esm_mapping.specs.Expected.{config_as, is_expected}
use Rattle.esm_mapping.specs.Refused.{refused_field}
use Rattle.esm_mapping.specs.Starts.{is_latest, start_after}
use Rattle.esm_mapping.specs.declared.expected.Expected.{Expected}
use Rattle.esm_mapping.specs.declared.expected.Expected.TheVariants.{StreamOrQueue}
use Rattle.esm_mapping.specs.declared.named.MappingError.{MappingError}
use Rattle.esm_mapping.specs.declared.named.MappingError.TheVariants as error
use Rattle.esm_mapping.specs.declared.named.NamedMapping.{NamedMapping}

-- what a run may rely on

-- a valid configuration of a stream's mapping, or of a queue's
abbrev pub IsConfigOf : Bool → Config → Type 0
IsConfigOf true c = IsStreamConfig c
IsConfigOf false c = IsQueueConfig c

-- the mapping is enabled, each field is within the bounds of its kind, the filters are patterns, and it starts at a known
-- position
pub record MayRun (named : NamedMapping) : Type 0 where
  pub enabled : named.config.enabled ≡ true
  pub valid : IsConfigOf (is_stream named.config.kind) named.config
  pub patterns : is_ok (read_patterns (is_stream named.config.kind) named.config.filters) ≡ true
  pub start : is_latest named.start ≡ false

-- a mapping given as a text

-- the text reads as JSON, no field is refused, and the fields give the configuration; this is of the expected kind and says
-- where it starts
pub record IsOfText (e : Expected) (text : List ℕ) (named : NamedMapping) : Type 0 where
  pub value : Data
  pub reads : read text ≡ Some value
  pub accepted : refused_field e text ≡ None
  pub fields : config_as e value ≡ Some named.config
  pub kind : is_expected e named.config.kind ≡ true
  pub start_is : named.start ≡ named.config.start

abbrev pub IsExpected : Expected → List ℕ → NamedMapping → Type 0
IsExpected e text named = IsOfText e text named × MayRun named

abbrev pub IsDisabledText : Expected → List ℕ → Type 0
IsDisabledText e text = (named : NamedMapping) × IsOfText e text named × (named.config.enabled ≡ false)

-- a mapping of the registry

-- the registry's file opens to payloads that say these mappings
pub record HasMappings {D : Type 0} (m : DiskMeaning D) (registry : D) (mappings : Mappings) : Type 0 where
  pub payloads : List (List ℕ)
  pub opens : m.honest registry ≡ true → OpensTo (header_of 1) payloads (m.content registry)
  pub said : mappings_of payloads ≡ Some mappings

-- among the mappings that the file says, this is the one with the id, if there is one
pub record Finds {D : Type 0} (m : DiskMeaning D) (registry : D) (id : List ℕ) (found : Option Mapping) : Type 0 where
  pub mappings : Mappings
  pub has : HasMappings m registry mappings
  pub found_is : mapping_at id mappings.list ≡ found

-- the configuration is the mapping's, and so is the start, with `LATEST` as the moment of the mapping's creation
pub record IsOfMapping (mapping : Mapping) (named : NamedMapping) : Type 0 where
  pub config_is : named.config ≡ mapping.config
  pub start_is : named.start ≡ start_after mapping.created mapping.config.start

abbrev pub IsNamedById : {D : Type 0} → DiskMeaning D → List ℕ → D → NamedMapping → Type 0
IsNamedById m id registry named = (mapping : Mapping) × Finds m registry id (Some mapping) × IsOfMapping mapping named × MayRun named

abbrev pub IsDisabledId : {D : Type 0} → DiskMeaning D → List ℕ → D → Type 0
IsDisabledId m id registry = (mapping : Mapping) × Finds m registry id (Some mapping) × (mapping.config.enabled ≡ false)

-- the file opens to payloads, and the one with this index is the first that is not a registry's
abbrev pub HasBadPayload : ℕ → List ℕ → Type 0
HasBadPayload index bytes = (payloads : List (List ℕ)) × OpensTo (header_of 1) payloads bytes × IsFirstBad payloads index

-- the mapping that the words name

abbrev pub IsNamed : {D : Type 0} → DiskMeaning D → Which → D → NamedMapping → Type 0
IsNamed m (which.Config text) registry named = IsExpected StreamOrQueue text named
IsNamed m (which.Mapping id) registry named = IsNamedById m id registry named

-- why the words name no mapping that may run; running out of memory has no cause here

-- for a text: a field is refused, or the mapping is disabled
abbrev pub WhyNotExpected : Expected → List ℕ → MappingError → Type 0
WhyNotExpected e text (error.BadParam param) = refused_field e text ≡ Some param
WhyNotExpected e text error.Disabled = IsDisabledText e text
WhyNotExpected e text error.OutOfMemory = Unit {0}
WhyNotExpected e text _ = ⊥

-- for an id: the registry's file is refused, its disk failed, the registry has no such mapping, or the mapping is disabled
abbrev pub WhyNotById : {D : Type 0} → DiskMeaning D → List ℕ → (old new : D) → MappingError → Type 0
WhyNotById m id old new error.NotAJournal = m.honest old ≡ true → opened (header_of 1) (m.content old) ≡ Foreign
WhyNotById m id old new (error.Damaged place) = m.honest old ≡ true → opened (header_of 1) (m.content old) ≡ Damaged place
WhyNotById m id old new (error.BadPayload index) = m.honest old ≡ true → HasBadPayload index (m.content old)
WhyNotById m id old new error.DiskFault = Rose (m.faults old) (m.faults new)
WhyNotById m id old new error.Unknown = Finds m old id None
WhyNotById m id old new error.Disabled = IsDisabledId m id old
WhyNotById m id old new (error.BadParam param) = ⊥
WhyNotById m id old new error.OutOfMemory = Unit {0}

-- `old` and `new` are the registry's disk as it was given and as it came back
abbrev pub WhyNot : {D : Type 0} → DiskMeaning D → Which → (old new : D) → MappingError → Type 0
WhyNot m (which.Config text) old new e = WhyNotExpected StreamOrQueue text e
WhyNot m (which.Mapping id) old new e = WhyNotById m id old new e
