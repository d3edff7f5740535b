-- What a reader of heads knows of the bytes so far. Only this crate's proofs cite this.
use Rattle.std.specs.Prelude.{◌≡◌, ◌≢◌, ◌⊎◌, ℕ, ◌+◌, ◌<◌, ◌≤◌, List, [], ◌∷◌, ◌++◌, length, drop, slice_index, Option, Some, None}
use Rattle.httparse.specs.Ascii.{line_feed}
use Rattle.httparse.specs.Grammar.{RequestHead}
use Rattle.httparse.specs.declared.spans.HeaderSpan.{HeaderSpan}
use Rattle.httparse.specs.declared.spans.RequestSpans.{RequestSpans}
use Rattle.httparse.specs.Spans.{IsRequestAt, IsWithin, span_bytes}
use Rattle.esm_model.specs.declared.limits.TheConstants.{MAX_HEADER_LINES}
use Rattle.esm_api.specs.declared.length.Named.{Named}
use Rattle.esm_api.specs.declared.length.Named.TheVariants as named
use Rattle.esm_api.specs.declared.head.Head.{Head}
use Rattle.esm_api.specs.declared.plan.Plan.TheVariants.{Refuse}
use Rattle.esm_api.specs.declared.refusal.Refusal.TheVariants as row
use Rattle.esm_api.specs.Head.{BeginsWith, HasNoHead, BreaksForm, HasBadHead, AwaitsHead, line_count}
use Rattle.esm_api.specs.Plan.{plan_of}

-- what the values of the headers with one name are read as
abbrev pub IsNamed : List ℕ → List (List ℕ) → Named → Type 0
IsNamed bytes values named.None = values ≡ []
IsNamed bytes values (named.One span) = values ≡ span_bytes bytes span ∷ []
IsNamed bytes values named.Several = 1 < length values

-- where there is one value, it is within the first n bytes
abbrev pub IsNamedWithin : ℕ → Named → Type 0
IsNamedWithin n named.None = Unit {0}
IsNamedWithin n (named.One span) = IsWithin n span
IsNamedWithin n named.Several = Unit {0}

-- the bytes end with a line
abbrev pub EndsLine : List ℕ → Type 0
EndsLine bytes = (front : List ℕ) × (bytes ≡ front ++ line_feed ∷ [])

-- no line ends in the bytes
abbrev pub HasNoLine : List ℕ → Type 0
HasNoLine bytes = (k : ℕ) → k < length bytes → slice_index bytes k ≢ line_feed

-- the bytes do not begin with a whole head yet; their number is not checked
pub record HasNoneYet (bytes : List ℕ) : Type 0 where
  pub none : HasNoHead bytes
  pub formed : ¬ (BreaksForm bytes)
  pub few : line_count bytes < MAX_HEADER_LINES + 2

-- what the bytes are read as: a bad head, or a head with this length and this plan
abbrev pub IsPlanned : List ℕ → Head → Type 0
IsPlanned bytes head =
    (HasBadHead bytes × (head.plan ≡ Refuse row.Head))
    ⊎ ((tree : RequestHead) × BeginsWith bytes tree (drop head.len bytes) × (head.plan ≡ plan_of tree))

-- what a search for the head found
abbrev pub FindsHead : List ℕ → Option Head → Type 0
FindsHead bytes None = AwaitsHead bytes
FindsHead bytes (Some head) = IsPlanned bytes head × (head.len ≤ length bytes)

-- the same without the check of the number of bytes: nothing is found in too many bytes either
abbrev pub LooksForHead : List ℕ → Option Head → Type 0
LooksForHead bytes None = HasNoneYet bytes
LooksForHead bytes (Some head) = IsPlanned bytes head × (head.len ≤ length bytes)

-- the head has the length of the spans, and the plan of whichever head they are the spans of
abbrev pub SaysAt : List ℕ → List HeaderSpan → RequestSpans → Head → Type 0
SaysAt bytes lines spans head =
    (head.len ≡ spans.len) × ((tree : RequestHead) → IsRequestAt bytes lines spans tree → head.plan ≡ plan_of tree)
