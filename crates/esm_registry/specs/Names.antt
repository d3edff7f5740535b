-- The names of the API's errors. Source: the Lambda API reference, common errors; `MethodNotAllowed` and
-- `RequestTooLargeException` stand for the answers of an API gateway.
use Rattle.std.specs.Prelude.{ℕ, List, codes}
use Rattle.esm_registry.specs.declared.command.ErrorName.{ErrorName}
use Rattle.esm_registry.specs.declared.command.ErrorName.TheVariants as error

abbrev pub error_text : ErrorName → List ℕ
error_text error.InvalidRequestContentException = codes "InvalidRequestContentException"
error_text error.InvalidParameterValueException = codes "InvalidParameterValueException"
error_text error.ResourceNotFoundException = codes "ResourceNotFoundException"
error_text error.MethodNotAllowed = codes "MethodNotAllowed"
error_text error.RequestTooLargeException = codes "RequestTooLargeException"
error_text error.ResourceConflictException = codes "ResourceConflictException"
error_text error.ServiceException = codes "ServiceException"
