-- What a reader of responses knows of the bytes so far, whatever follows them.
use Rattle.std.specs.Prelude.{◌≡◌, ◌≢◌, ℕ, ◌+◌, ◌-◌, ◌<◌, ◌≤◌, ◌==◌, nat_le, slice_index, Bool, false, ◌&&◌, ◌||◌, List, ◌++◌, length, drop, Option, Some, None}
use Rattle.httparse.specs.Ascii.{line_feed, carriage_return}
use Rattle.httparse.specs.Grammar.{ResponseHead, print_response, ReadsResponse}
use Rattle.http.specs.StatusCode.{IsStatusCode}
use Rattle.httparse.specs.declared.spans.HeaderSpan.{HeaderSpan}
use Rattle.httparse.specs.declared.spans.ResponseSpans.{ResponseSpans}
use Rattle.httparse.specs.declared.spans.Span.{Span}
use Rattle.httparse.specs.Spans.{IsResponseAt, span_bytes}
use Rattle.http1.specs.declared.decode.Decoder.TheVariants.{UntilClose}
use Rattle.http1.specs.declared.framing.Framing.TheVariants as Framed
use Rattle.http1.specs.Body.{Body, ReadsBody}
use Rattle.http1.specs.Decoder.{Completes, with_front}
use Rattle.esm_invoke.specs.declared.head.Head.{Head}
use Rattle.esm_invoke.specs.declared.head.HeadSearch.{HeadSearch}
use Rattle.esm_invoke.specs.declared.head.HeadSearch.TheVariants as Search
use Rattle.esm_invoke.specs.declared.body.BodyReader.{BodyReader}
use Rattle.esm_invoke.specs.declared.body.Step.{Step}
use Rattle.esm_invoke.specs.declared.body.Step.TheVariants as Taken
use Rattle.esm_invoke.specs.declared.body.Progress.{Progress}
use Rattle.esm_invoke.specs.declared.body.Progress.TheVariants as Comes
use Rattle.esm_model.specs.declared.limits.TheConstants.{MAX_BODY}
use Rattle.esm_invoke.specs.Response.{Says, BeginsWith, IsBodyWithin, limits}

-- an empty line ends at this place: a line feed after another one, with or without a carriage return between them
abbrev pub ends_empty_line : List ℕ → ℕ → Bool
ends_empty_line bytes at =
    (slice_index bytes at == line_feed)
    && ((nat_le 1 at && (slice_index bytes (at - 1) == line_feed))
    || (nat_le 2 at && ((slice_index bytes (at - 1) == carriage_return) && (slice_index bytes (at - 2) == line_feed))))

-- a head at the front of the bytes, whatever follows them, is longer than `looked`
pub record HasNoHead (looked : ℕ) (bytes : List ℕ) : Type 0 where
  pub none : (more : List ℕ) (tree : ResponseHead) (rest : List ℕ) → ReadsResponse (bytes ++ more) tree rest
      → looked < length (print_response tree)

-- no continuation of the bytes begins with a head within the limits
abbrev pub NeverBegins : List ℕ → Type 0
NeverBegins bytes = (more : List ℕ) (head : Head) (after : List ℕ) → ¬ (BeginsWith (bytes ++ more) head after)

-- what a search for the head in the bytes found
abbrev pub FindsHead : List ℕ → HeadSearch → Type 0
FindsHead bytes (Search.Found head) = BeginsWith bytes head (drop head.len bytes) × (head.len ≤ length bytes)
FindsHead bytes Search.More = HasNoHead (length bytes) bytes
FindsHead bytes Search.Never = NeverBegins bytes

-- what a parse of the first bytes found, `looked` of which it looked at
abbrev pub ParsesHead : List ℕ → ℕ → HeadSearch → Type 0
ParsesHead bytes looked (Search.Found head) = BeginsWith bytes head (drop head.len bytes) × (head.len ≤ length bytes)
ParsesHead bytes looked Search.More = HasNoHead looked bytes
ParsesHead bytes looked Search.Never = NeverBegins bytes

-- what the spans of a head say, whatever head they are of
abbrev pub SaysAt : List ℕ → List HeaderSpan → ResponseSpans → Option Head → Type 0
SaysAt bytes lines spans None =
    (tree : ResponseHead) → IsResponseAt bytes lines spans tree → (head : Head) → Says tree head → ¬ (IsStatusCode head.status)
SaysAt bytes lines spans (Some head) =
    (tree : ResponseHead) → IsResponseAt bytes lines spans tree → Says tree head × IsStatusCode head.status

-- the body's first bytes gave the content, and the decoder awaits exactly the rest of the body after them
pub record Awaits (bytes : List ℕ) (r : BodyReader) : Type 0 where
  pub within : r.at ≤ length bytes
  pub forth : (more : List ℕ) (whole : Body) (rest : List ℕ)
      → ReadsBody limits r.head.framing (drop r.head.len bytes ++ more) whole rest
      → (body : Body) × (whole ≡ with_front r.content.items body) × Completes r.decoder (drop r.at bytes ++ more) body rest
  pub back : (more : List ℕ) (body : Body) (rest : List ℕ) → Completes r.decoder (drop r.at bytes ++ more) body rest
      → ReadsBody limits r.head.framing (drop r.head.len bytes ++ more) (with_front r.content.items body) rest
  pub until_end : r.head.framing ≡ Framed.UntilClose → r.decoder ≡ UntilClose
  pub only_until_end : r.decoder ≡ UntilClose → r.head.framing ≡ Framed.UntilClose
  pub small : length r.content.items ≤ MAX_BODY

-- the bytes do not hold the rest of the body; a body that extends up to the link's end has taken them all
pub record IsUnfinished (bytes : List ℕ) (r : BodyReader) : Type 0 where
  pub none : r.decoder ≢ UntilClose → (body : Body) (rest : List ℕ) → ¬ (Completes r.decoder (drop r.at bytes) body rest)
  pub used_up : r.decoder ≡ UntilClose → r.at ≡ length bytes

-- the bytes hold the body, whose content the reader has
pub record HoldsBody (ended : Bool) (bytes : List ℕ) (r : BodyReader) : Type 0 where
  pub body : Body
  pub rest : List ℕ
  pub reads : ReadsBody limits r.head.framing (drop r.head.len bytes) body rest
  pub content_is : r.content.items ≡ body.bytes
  pub within : IsBodyWithin ended bytes r.head.framing body rest

-- no continuation of the bytes holds a body within the limits
abbrev pub NeverHoldsBody : List ℕ → Head → Type 0
NeverHoldsBody bytes head =
    (ended : Bool) (more : List ℕ) (body : Body) (rest : List ℕ)
    → ReadsBody limits head.framing (drop head.len bytes ++ more) body rest
    → ¬ (IsBodyWithin ended (bytes ++ more) head.framing body rest)

-- what became of a piece of the content: it was taken, or it would make the body too long
abbrev pub TakesPiece : List ℕ → Span → BodyReader → BodyReader → Step → Type 0
TakesPiece input span old new Taken.Data =
    (new.content.items ≡ old.content.items ++ span_bytes input span) × (new.at ≡ old.at + span.end)
    × (length new.content.items ≤ MAX_BODY)
TakesPiece input span old new Taken.More = ⊥
TakesPiece input span old new Taken.Whole = ⊥
TakesPiece input span old new Taken.Never =
    (MAX_BODY < length old.content.items + length (span_bytes input span)) × (new ≡ old)

-- what one call of the decoder found
abbrev pub TakesStep : List ℕ → BodyReader → BodyReader → Step → Type 0
TakesStep bytes old new Taken.Data = Awaits bytes new × (old.at < new.at)
TakesStep bytes old new Taken.More = Awaits bytes new × IsUnfinished bytes new
TakesStep bytes old new Taken.Whole = HoldsBody false bytes new
TakesStep bytes old new Taken.Never = NeverHoldsBody bytes new.head

-- what the bytes so far hold
abbrev pub HasRead : List ℕ → BodyReader → Progress → Type 0
HasRead bytes new Comes.More = Awaits bytes new × IsUnfinished bytes new
HasRead bytes new Comes.Whole = HoldsBody false bytes new
HasRead bytes new Comes.Never = NeverHoldsBody bytes new.head
