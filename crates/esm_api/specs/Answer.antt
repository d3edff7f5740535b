-- The bytes of an answer over HTTP/1.1 (RFC 9112); a connection gets one answer. The errors and their statuses are those
-- of the Lambda API Reference of 2015-03-31 (event source mappings); the messages and the order of the fields are this
-- product's own.
use Rattle.std.specs.Prelude.{ℕ, nat_le, nat_lt, ◌&&◌, List, [], ◌++◌, length, codes, unwrap_or, if◌then◌else◌}
use Rattle.http.specs.StatusCode.{reason_phrase}
use Rattle.httparse.specs.Ascii.{crlf_bytes}
use Rattle.esm_model.specs.Numbers.{decimal}
use Rattle.esm_registry.specs.declared.command.ErrorName.TheVariants as error
use Rattle.esm_registry.specs.Names.{error_text}
use Rattle.esm_api.specs.declared.refusal.Refusal.{Refusal}
use Rattle.esm_api.specs.declared.refusal.Refusal.TheVariants as row

-- the reason phrase of a status code, and nothing for a code without one
abbrev pub phrase_of : ℕ → List ℕ
phrase_of status = if nat_le 100 status && nat_lt status 1000 then unwrap_or (reason_phrase status) [] else []

unfoldable pub status_lines : ℕ → List ℕ
status_lines status =
    codes "HTTP/1.1 " ++ decimal status ++ codes " " ++ phrase_of status ++ crlf_bytes
    ++ codes "Content-Type: application/json" ++ crlf_bytes

unfoldable pub error_line : List ℕ → List ℕ
error_line name = codes "x-amzn-ErrorType: " ++ name ++ crlf_bytes

-- the last header lines and the empty line, before a body of `count` bytes
unfoldable pub last_lines : ℕ → List ℕ
last_lines count =
    codes "Content-Length: " ++ decimal count ++ crlf_bytes
    ++ codes "Connection: close" ++ crlf_bytes
    ++ crlf_bytes

-- the body of a refusal; the messages need no escape in JSON
unfoldable pub refusal_body : List ℕ → List ℕ
refusal_body message = codes "{\"Type\":\"User\",\"Message\":\"" ++ message ++ codes "\"}"

abbrev pub answer_text : ℕ → List ℕ → List ℕ
answer_text status content = status_lines status ++ last_lines (length content) ++ content

abbrev pub refusal_text : ℕ → List ℕ → List ℕ → List ℕ
refusal_text status error message =
    status_lines status ++ error_line error ++ last_lines (length (refusal_body message)) ++ refusal_body message

-- ---- the rows that are judged before a command

abbrev pub status_of : Refusal → ℕ
status_of row.Head = 400
status_of row.Host = 403
status_of row.Query = 400
status_of row.Path = 404
status_of row.Method = 405
status_of row.Length = 411
status_of row.Body = 413
status_of row.Json = 400
status_of row.Mapping = 404

-- the names are those of the registry's errors, except that of the row `host`
abbrev pub error_of : Refusal → List ℕ
error_of row.Head = error_text error.InvalidRequestContentException
error_of row.Host = codes "AccessDeniedException"
error_of row.Query = error_text error.InvalidParameterValueException
error_of row.Path = error_text error.ResourceNotFoundException
error_of row.Method = error_text error.MethodNotAllowed
error_of row.Length = error_text error.InvalidRequestContentException
error_of row.Body = error_text error.RequestTooLargeException
error_of row.Json = error_text error.InvalidRequestContentException
error_of row.Mapping = error_text error.ResourceNotFoundException

abbrev pub message_of : Refusal → List ℕ
message_of row.Head = codes "head"
message_of row.Host = codes "host"
message_of row.Query = codes "query"
message_of row.Path = codes "path"
message_of row.Method = codes "method"
message_of row.Length = codes "length"
message_of row.Body = codes "body"
message_of row.Json = codes "json"
message_of row.Mapping = codes "mapping"

abbrev pub row_text : Refusal → List ℕ
row_text row = refusal_text (status_of row) (error_of row) (message_of row)
