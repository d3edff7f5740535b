-- How a command is carried out: it is planned before anything is changed, and then one payload is written and the list
-- changed. Only this crate's proofs cite this.
use Rattle.std.specs.Prelude.{◌≡◌, ◌+◌, ◌<◌, ◌≤◌, ◌^◌, ◌++◌, ℕ, true, false, List, [], ◌∷◌, length, Option, Some, None, Result, IfOk, OnOk, OnErr, IsErrOf}
use Rattle.std.specs.Option.{option_to_list}
use Rattle.esm_io.specs.Faults.{Rose}
use Rattle.esm_io.specs.Images.{LeavesOnly}
use Rattle.esm_io.specs.Meanings.{DiskMeaning}
use Rattle.esm_model.specs.declared.limits.TheConstants.{MAX_PAYLOAD}
use Rattle.esm_journal.specs.State.{JournalState}
use Rattle.esm_config.specs.Given.{IsGiven}
use Rattle.esm_registry.specs.declared.command.Applied.{Applied}
use Rattle.esm_registry.specs.declared.command.Applied.TheVariants.{One}
use Rattle.esm_registry.specs.declared.command.RegistryError.{RegistryError}
use Rattle.esm_registry.specs.declared.command.RegistryError.TheVariants as error
use Rattle.esm_registry.specs.declared.plan.Creation.{Creation}
use Rattle.esm_registry.specs.declared.plan.Deletion.{Deletion}
use Rattle.esm_registry.specs.declared.plan.Plan.{Plan}
use Rattle.esm_registry.specs.declared.plan.Plan.TheVariants.{Answer, Change}
use Rattle.esm_registry.specs.declared.plan.Update.{Update}
use Rattle.esm_registry.specs.Index.{HasPair, TableState, arns_of}
use Rattle.esm_registry.specs.Lists.{Mappings, mapping_at, without, replaced}
use Rattle.esm_registry.specs.Machine.{Stepped, answered}
use Rattle.esm_registry.specs.Pairs.{arns}
use Rattle.esm_registry.specs.Payload.{after_payload, mappings_of}
use Rattle.esm_registry.specs.State.{OpensToStep}

-- this payload was written, or nothing where there is none
pub record Writes {D T : Type 0} (m : DiskMeaning D) (old new : JournalState D) (payload : Option (List ℕ)) (result : Result T RegistryError) : Type 0 where
  pub payloads : OnOk result (new.payloads ≡ old.payloads ++ option_to_list payload)
  pub up : OnOk result (new.down ≡ false)
  pub same : OnErr result (new.payloads ≡ old.payloads)
  pub no_memory : IsErrOf result error.OutOfMemory → new ≡ old
  pub fault : IsErrOf result error.DiskFault → new.down ≡ true
  pub cause : IsErrOf result error.DiskFault → Rose (m.faults old.disk) (m.faults new.disk)
  pub no_other : IsErrOf result error.Down → ⊥
  pub any_moment : m.honest old.disk ≡ true → LeavesOnly m.moment m.since old.disk new.disk (OpensToStep old.payloads payload)
  pub honesty : m.honest new.disk ≡ m.honest old.disk
  pub never_falls : m.faults old.disk ≤ m.faults new.disk

-- the answer, and the mappings afterwards
pub record Answers (old new : Mappings) (stepped : Stepped) (result : Result Applied RegistryError) : Type 0 where
  pub answer : IfOk result (λ a. a ≡ stepped.answer)
  pub mappings : OnOk result (new ≡ stepped.after)
  pub same : OnErr result (new ≡ old)

-- a command is answered at once, or changes something
abbrev pub IsPlan : {C : Type 0} → (C → Stepped) → (C → Type 0) → Mappings → Stepped → Plan C → Type 0
IsPlan step P s stepped (Answer a) = stepped ≡ answered s a
IsPlan step P s stepped (Change c) = (stepped ≡ step c) × P c

-- the payload fits into a journal and says the mappings after it
pub record Says (s : Mappings) (payload : List ℕ) (after : Mappings) : Type 0 where
  pub short : length payload ≤ MAX_PAYLOAD
  pub says : after_payload payload s ≡ Some after

-- creation

abbrev pub after_creation : Mappings → Creation → Mappings
after_creation s c = record { list = s.list ++ c.mapping ∷ []; created = s.created + 1 }

abbrev pub creation_step : Mappings → Creation → Stepped
creation_step s c = record { answer = One 202 c.text; after = after_creation s c; payload = Some c.payload.items }

pub record IsCreation (s : Mappings) (c : Creation) : Type 0 where
  pub payload : Says s c.payload.items (after_creation s c)
  pub is_new : mapping_at c.mapping.id s.list ≡ None
  pub pair : arns c.pair ≡ arns_of c.mapping.config
  pub undo : arns c.undo ≡ arns_of c.mapping.config
  pub given : IsGiven c.mapping.config
  pub counts : s.created + 1 < 2 ^ 64

-- update

abbrev pub after_update : Mappings → Update → Mappings
after_update s u = record { list = replaced u.mapping.id u.mapping s.list; created = s.created }

abbrev pub update_step : Mappings → Update → Stepped
update_step s u = record { answer = One 202 u.text; after = after_update s u; payload = Some u.payload.items }

pub record IsUpdate (s : Mappings) (u : Update) : Type 0 where
  pub payload : Says s u.payload.items (after_update s u)
  pub its : HasPair s.list u.mapping.id (arns u.old)
  pub pair : arns u.pair ≡ arns_of u.mapping.config
  pub given : IsGiven u.mapping.config

-- deletion

abbrev pub after_deletion : Mappings → Deletion → Mappings
after_deletion s d = record { list = without d.id s.list; created = s.created }

abbrev pub deletion_step : Mappings → Deletion → Stepped
deletion_step s d = record { answer = One 202 d.text; after = after_deletion s d; payload = Some d.payload.items }

pub record IsDeletion (s : Mappings) (d : Deletion) : Type 0 where
  pub payload : Says s d.payload.items (after_deletion s d)
  pub its : HasPair s.list d.id (arns d.pair)

-- carrying out a command

-- before a command: no promise is open, the journal is not down, and its payloads say the mappings
pub record IsReady {D : Type 0} (table : TableState) (journal : JournalState D) : Type 0 where
  pub free : table.promised ≡ None
  pub up : journal.down ≡ false
  pub said : mappings_of journal.payloads ≡ Some table.mappings

-- what a command has done
pub record Obeys {D : Type 0} (m : DiskMeaning D) (old new : TableState) (journal journal' : JournalState D) (stepped : Stepped) (result : Result Applied RegistryError) : Type 0 where
  pub writes : Writes m journal journal' stepped.payload result
  pub answers : Answers old.mappings new.mappings stepped result
  pub free : new.promised ≡ None
  pub said : mappings_of journal'.payloads ≡ Some new.mappings
