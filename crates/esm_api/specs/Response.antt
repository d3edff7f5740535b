-- The answer to a request, and the mappings after it: the first row of the table that holds decides. The statuses are
-- those of the Lambda API Reference of 2015-03-31 (event source mappings).
use Rattle.std.specs.Prelude.{ℕ, Bool, true, false, List, [], codes, Option, None}
use Rattle.esm_registry.specs.declared.command.Applied.{Applied}
use Rattle.esm_registry.specs.declared.command.Applied.TheVariants as applied
use Rattle.esm_registry.specs.declared.command.ErrorName.TheVariants.{ServiceException}
use Rattle.esm_registry.specs.Lists.{Mappings}
use Rattle.esm_registry.specs.Machine.{Asked, Stepped, step}
use Rattle.esm_registry.specs.Names.{error_text}
use Rattle.esm_api.specs.Answer.{answer_text, refusal_text, status_of, row_text}
use Rattle.esm_api.specs.Request.{Judgement, Unfinished, Refused, Asks}

-- the status and the bytes of the answer, the mappings afterwards, and the payload that is written, if there is one
pub record Response : Type 0 where
  pub status : ℕ
  pub text : List ℕ
  pub after : Mappings
  pub payload : Option (List ℕ)

abbrev pub applied_status : Applied → ℕ
applied_status (applied.One status mapping) = status
applied_status (applied.Many mappings) = 200
applied_status (applied.Refused status error message) = status

abbrev pub applied_text : Applied → List ℕ
applied_text (applied.One status mapping) = answer_text status mapping
applied_text (applied.Many mappings) = answer_text 200 mappings
applied_text (applied.Refused status error message) = refusal_text status (error_text error) message

abbrev pub response_of : Stepped → Response
response_of stepped = record {
  status = applied_status stepped.answer;
  text = applied_text stepped.answer;
  after = stepped.after;
  payload = stepped.payload;
}

abbrev pub failed_text : List ℕ
failed_text = refusal_text 500 (error_text ServiceException) (codes "disk")

-- the row `disk`: the registry's disk failed, and the mappings stay as they were
abbrev pub failed_response : Mappings → Response
failed_response mappings = record { status = 500; text = failed_text; after = mappings; payload = None }

abbrev pub asked_response : Mappings → Asked → ℕ → Bool → Response
asked_response mappings asked moment true = failed_response mappings
asked_response mappings asked moment false = response_of (step mappings asked moment)

-- the answer to a request that a row refuses before its command, or that asks for one; an unfinished request gets none
abbrev pub response : Mappings → Judgement → ℕ → Bool → Response
response mappings Unfinished moment failed = record { status = 0; text = []; after = mappings; payload = None }
response mappings (Refused row) moment failed = record { status = status_of row; text = row_text row; after = mappings; payload = None }
response mappings (Asks asked) moment failed = asked_response mappings asked moment failed
