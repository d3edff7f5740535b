-- The registry as a machine: the answer to a command, the mappings after it, and the payload that it writes. Source: the
-- Lambda API reference, `CreateEventSourceMapping`, `UpdateEventSourceMapping`, `GetEventSourceMapping`,
-- `ListEventSourceMappings` and `DeleteEventSourceMapping` with their errors; the order of the refusals and their
-- messages are this product's own.
use Rattle.std.specs.Prelude.{ℕ, ◌+◌, min, Bool, ◌||◌, List, [], ◌∷◌, ◌++◌, codes, Option, Some, None, is_some, Result, Ok, Err, if◌then◌else◌}
use Rattle.serde_json.specs.Data.{Data}
use Rattle.serde_json.specs.View.{view}
use Rattle.esm_model.specs.declared.moment.TheConstants.{MAX_MOMENT}
use Rattle.esm_model.specs.declared.config.Config.{Config}
use Rattle.esm_config.specs.Names.{name_of}
use Rattle.esm_config.specs.declared.param.Param.{Param}
use Rattle.esm_registry.specs.declared.change.Change.TheVariants.{Created, Updated, Deleted}
use Rattle.esm_registry.specs.declared.command.Applied.{Applied}
use Rattle.esm_registry.specs.declared.command.Applied.TheVariants.{One, Many, Refused}
use Rattle.esm_registry.specs.declared.command.Command.{Command}
use Rattle.esm_registry.specs.declared.command.Command.TheVariants as command
use Rattle.esm_registry.specs.declared.command.ErrorName.TheVariants.{InvalidParameterValueException, ResourceConflictException, ResourceNotFoundException}
use Rattle.esm_registry.specs.declared.mapping.Mapping.{Mapping}
use Rattle.esm_registry.specs.Configs.{config_judged, update_judged}
use Rattle.esm_registry.specs.Lists.{Mappings, mapping_at, without, replaced, is_taken, uuid_of, new_mapping, changed}
use Rattle.esm_registry.specs.Payload.{payload_of}
use Rattle.esm_registry.specs.Texts.{mapping_text, list_text}

-- a command, with the value of its body
pub data Asked : Type 0 where
  Create : Data → Asked
  Listing : Asked
  Get : List ℕ → Asked
  Update : List ℕ → Data → Asked
  Delete : List ℕ → Asked

abbrev pub asked : Command → Asked
asked (command.Create value) = Create (view value)
asked command.List = Listing
asked (command.Get id) = Get id
asked (command.Update id value) = Update id (view value)
asked (command.Delete id) = Delete id

-- the answer, the mappings afterwards, and the payload that is written, if there is one
pub record Stepped : Type 0 where
  pub answer : Applied
  pub after : Mappings
  pub payload : Option (List ℕ)

-- the answer of a command that writes nothing
abbrev pub answered : Mappings → Applied → Stepped
answered s answer = record { answer = answer; after = s; payload = None }

abbrev pub not_found : Mappings → Stepped
not_found s = answered s (Refused 404 ResourceNotFoundException (codes "mapping"))

abbrev pub conflict : Mappings → Stepped
conflict s = answered s (Refused 409 ResourceConflictException (codes "mapping"))

abbrev pub bad_field : Mappings → Param → Stepped
bad_field s param = answered s (Refused 400 InvalidParameterValueException (name_of param))

-- create

-- there is a mapping of the same source and function, or one with the same UUID
abbrev pub has_conflict : Mappings → Config → Bool
has_conflict s c = is_taken c s.list || is_some (mapping_at (uuid_of c (s.created + 1)) s.list)

abbrev pub created : Mappings → Config → ℕ → Stepped
created s c moment =
    if has_conflict s c then conflict s
    else record {
      answer = One 202 (mapping_text (new_mapping s c moment));
      after = record { list = s.list ++ new_mapping s c moment ∷ []; created = s.created + 1 };
      payload = Some (payload_of (Created (uuid_of c (s.created + 1)) moment c));
    }

abbrev pub created_by : Mappings → ℕ → Result Config Param → Stepped
created_by s moment (Err param) = bad_field s param
created_by s moment (Ok c) = created s c moment

-- get

abbrev pub got : Mappings → Option Mapping → Stepped
got s None = not_found s
got s (Some m) = answered s (One 200 (mapping_text m))

-- update

-- refused if another mapping has the same source and function
abbrev pub updated : Mappings → List ℕ → Mapping → Config → ℕ → Stepped
updated s id m c moment =
    if is_taken c (without id s.list) then conflict s
    else record {
      answer = One 202 (mapping_text (changed m c moment));
      after = record { list = replaced id (changed m c moment) s.list; created = s.created };
      payload = Some (payload_of (Updated id moment c));
    }

abbrev pub updated_by : Mappings → List ℕ → Mapping → ℕ → Result Config Param → Stepped
updated_by s id m moment (Err param) = bad_field s param
updated_by s id m moment (Ok c) = updated s id m c moment

abbrev pub updated_at : Mappings → List ℕ → Data → ℕ → Option Mapping → Stepped
updated_at s id d moment None = not_found s
updated_at s id d moment (Some m) = updated_by s id m moment (update_judged m.config d)

-- delete: the answer shows the mapping as it was

abbrev pub deleted : Mappings → List ℕ → ℕ → Option Mapping → Stepped
deleted s id moment None = not_found s
deleted s id moment (Some m) = record {
  answer = One 202 (mapping_text m);
  after = record { list = without id s.list; created = s.created };
  payload = Some (payload_of (Deleted id moment));
}

-- at a moment no later than the greatest, `MAX_MOMENT`
abbrev pub step_at : Mappings → Asked → ℕ → Stepped
step_at s (Create d) moment = created_by s moment (config_judged d)
step_at s Listing moment = answered s (Many (list_text s.list))
step_at s (Get id) moment = got s (mapping_at id s.list)
step_at s (Update id d) moment = updated_at s id d moment (mapping_at id s.list)
step_at s (Delete id) moment = deleted s id moment (mapping_at id s.list)

-- a later moment counts as the greatest
abbrev pub step : Mappings → Asked → ℕ → Stepped
step s asked moment = step_at s asked (min moment MAX_MOMENT)
