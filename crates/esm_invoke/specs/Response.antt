-- What a response to a call is. The grammar of heads is `httparse`'s, that of bodies and of the fields that frame them
-- `http1`'s (RFC 9112, sections 4 to 7); the limits are this product's own.
use Rattle.std.specs.Prelude.{◌≡◌, ◌⊎◌, ℕ, ◌+◌, ◌<◌, ◌≤◌, Bool, true, false, List, ◌++◌, length, map, Option, Some, None, if◌then◌else◌, codes}
use Rattle.std.specs.List.{list_any}
use Rattle.http.specs.StatusCode.{IsStatusCode}
use Rattle.httparse.specs.Grammar.{ResponseHead, print_response, ReadsResponse, status_code}
use Rattle.httparse.specs.Spans.{name_and_value}
use Rattle.http1.specs.declared.conn.Limits.{Limits}
use Rattle.http1.specs.declared.fields.ContentLength.{ContentLength}
use Rattle.http1.specs.declared.fields.ContentLength.TheVariants as Stated
use Rattle.http1.specs.declared.fields.KnownFields.{KnownFields}
use Rattle.http1.specs.declared.fields.TransferEncoding.{TransferEncoding}
use Rattle.http1.specs.declared.fields.TransferEncoding.TheVariants as Coding
use Rattle.http1.specs.declared.framing.Framing.{Framing}
use Rattle.http1.specs.declared.framing.Framing.TheVariants.{Length, Chunked, UntilClose}
use Rattle.http1.specs.Body.{Body, ReadsBody}
use Rattle.http1.specs.Fields.{Header, is_named, known_fields}
use Rattle.esm_model.specs.declared.entry.Reply.{Reply}
use Rattle.esm_model.specs.declared.entry.Reply.TheVariants.{Answered, Garbled, Lost}
use Rattle.esm_model.specs.declared.limits.TheConstants.{MAX_HEAD, MAX_HEADER_LINES, MAX_BODY, MAX_RESPONSE}
use Rattle.esm_invoke.specs.declared.head.Head.{Head}

-- the limits of the grammar of bodies: a trailer section has that of a head, and chunk extensions have none of their own
abbrev pub limits : Limits
limits = record { max_head_len = MAX_HEAD; max_extensions_len = MAX_RESPONSE; max_trailers_len = MAX_HEAD }

-- a header reports a function's error (Lambda API Reference, `Invoke`)
abbrev pub has_function_error : List Header → Bool
has_function_error headers = list_any (is_named (codes "X-Amz-Function-Error")) headers

-- chunked if that is the only transfer coding, and `otherwise` if there is none
abbrev pub framing_by_coding : Framing → TransferEncoding → Bool → Option Framing
framing_by_coding otherwise Coding.Absent other = Some otherwise
framing_by_coding otherwise Coding.Chunked other = if other then None else Some Chunked
framing_by_coding otherwise Coding.Other other = None
framing_by_coding otherwise Coding.Blank other = None
framing_by_coding otherwise Coding.Invalid other = None

-- by the stated length or up to the link's end, unless it is chunked; none if a length is no number or two lengths differ
abbrev pub framing_by_fields : TransferEncoding → Bool → ContentLength → Option Framing
framing_by_fields coding other Stated.Absent = framing_by_coding UntilClose coding other
framing_by_fields coding other (Stated.Value n) = framing_by_coding (Length n) coding other
framing_by_fields coding other Stated.Invalid = None

-- how the body is delimited, if the fields of the head say it (RFC 9112, section 6.3)
abbrev pub framing_of : KnownFields → Option Framing
framing_of k = framing_by_fields k.transfer_encoding k.other_coding k.content_length

-- what a head says: its length, its status, whether it reports a function's error, and how its body is delimited
pub record Says (tree : ResponseHead) (head : Head) : Type 0 where
  pub len : head.len ≡ length (print_response tree)
  pub status : head.status ≡ status_code tree
  pub error : head.error ≡ has_function_error (map name_and_value tree.fields)
  pub framing : framing_of (known_fields (map name_and_value tree.fields)) ≡ Some head.framing

-- the bytes begin with a head that says this, within the limits, and `after` follows the head
pub record BeginsWith (bytes : List ℕ) (head : Head) (after : List ℕ) : Type 0 where
  pub tree : ResponseHead
  pub reads : ReadsResponse bytes tree after
  pub says : Says tree head
  pub known : IsStatusCode head.status
  pub short : head.len ≤ MAX_HEAD
  pub few : length tree.fields ≤ MAX_HEADER_LINES

-- the body is within the limits; one that extends up to the link's end is whole only there
pub record IsBodyWithin (ended : Bool) (bytes : List ℕ) (framing : Framing) (body : Body) (rest : List ℕ) : Type 0 where
  pub content : length body.bytes ≤ MAX_BODY
  pub few : length body.trailers ≤ MAX_HEADER_LINES
  pub whole : length bytes ≤ MAX_RESPONSE + length rest
  pub closed : framing ≡ UntilClose → ended ≡ true

-- a prefix of the bytes is a whole response: a head, and a body that is delimited as it says
pub record HoldsResponse (ended : Bool) (bytes : List ℕ) (head : Head) (content : List ℕ) : Type 0 where
  pub after : List ℕ
  pub begins : BeginsWith bytes head after
  pub body : Body
  pub rest : List ℕ
  pub reads : ReadsBody limits head.framing after body rest
  pub content_is : content ≡ body.bytes
  pub within : IsBodyWithin ended bytes head.framing body rest

-- no prefix of the bytes is a whole response
abbrev pub HoldsNone : Bool → List ℕ → Type 0
HoldsNone ended bytes = (head : Head) (content : List ℕ) → ¬ (HoldsResponse ended bytes head content)

-- no continuation of the bytes is a response
abbrev pub NeverHolds : List ℕ → Type 0
NeverHolds bytes = (ended : Bool) (more : List ℕ) → HoldsNone ended (bytes ++ more)

-- no continuation of the bytes is a response whose end the bytes show by themselves
abbrev pub NeverWhole : List ℕ → Type 0
NeverWhole bytes = (more : List ℕ) → HoldsNone false (bytes ++ more)

-- why reading stops without a response: at the link's end, past the limit, or because none can follow
abbrev pub StopsAt : Bool → List ℕ → Type 0
StopsAt ended bytes = (ended ≡ true) ⊎ ((MAX_RESPONSE < length bytes) ⊎ NeverHolds bytes)

-- the reply of a call that read these bytes, at the link's end or before it
abbrev pub IsReplyTo : Bool → List ℕ → Reply → Type 0
IsReplyTo ended bytes (Answered status error body) =
    (head : Head) × HoldsResponse ended bytes head body × (status ≡ head.status) × (error ≡ head.error)
IsReplyTo ended bytes (Garbled read) = (read ≡ bytes) × HoldsNone ended bytes × StopsAt ended bytes
IsReplyTo ended bytes Lost = ⊥
