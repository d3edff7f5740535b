-- The head of a request at the front of a list of bytes. The grammar of heads is `httparse`'s (RFC 9112, sections 2 to
-- 5); the limits, and when a malformed head is refused, are this product's own.
use Rattle.std.specs.Prelude.{◌≡◌, ◌⊎◌, ℕ, ◌+◌, ◌<◌, ◌≤◌, ◌||◌, ◌==◌, List, [], ◌∷◌, ◌++◌, length, count_by, if◌then◌else◌}
use Rattle.httparse.specs.Ascii.{line_feed, carriage_return}
use Rattle.httparse.specs.Grammar.{RequestHead, print_request, ReadsRequest, NeverHasRequest}
use Rattle.esm_model.specs.declared.limits.TheConstants.{MAX_HEAD, MAX_HEADER_LINES}

-- the bytes begin with a head within the limits, and `after` follows it
pub record BeginsWith (bytes : List ℕ) (tree : RequestHead) (after : List ℕ) : Type 0 where
  pub reads : ReadsRequest bytes tree after
  pub short : length (print_request tree) ≤ MAX_HEAD
  pub few : length tree.fields ≤ MAX_HEADER_LINES

abbrev pub HasNoHead : List ℕ → Type 0
HasNoHead bytes = (tree : RequestHead) (after : List ℕ) → ¬ (BeginsWith bytes tree after)

-- the bytes contain whole lines which no head begins with; a line is judged once its line feed has arrived
pub record BreaksForm (bytes : List ℕ) : Type 0 where
  pub front : List ℕ
  pub rest : List ℕ
  pub parts : bytes ≡ (front ++ line_feed ∷ []) ++ rest
  pub never : NeverHasRequest (front ++ line_feed ∷ [])

-- the bytes from the request line on: empty lines may precede it (RFC 9112, section 2.2)
abbrev pub from_request_line : List ℕ → List ℕ
from_request_line [] = []
from_request_line (b ∷ bytes) = if (b == carriage_return) || (b == line_feed) then from_request_line bytes else b ∷ bytes

unfoldable pub line_feeds : List ℕ → ℕ
line_feeds bytes = count_by (λ b. b == line_feed) bytes

-- how many whole lines have arrived, from the request line on
abbrev pub line_count : List ℕ → ℕ
line_count bytes = line_feeds (from_request_line bytes)

-- the request line and more header lines than the limit have arrived
abbrev pub HasManyLines : List ℕ → Type 0
HasManyLines bytes = MAX_HEADER_LINES + 2 ≤ line_count bytes

-- the bytes begin with no head, and can become none within the limits: the row `head`
pub record HasBadHead (bytes : List ℕ) : Type 0 where
  pub none : HasNoHead bytes
  pub reason : BreaksForm bytes ⊎ ((MAX_HEAD ≤ length bytes) ⊎ HasManyLines bytes)

-- the bytes do not begin with a whole head yet, and no reason to refuse them holds
pub record AwaitsHead (bytes : List ℕ) : Type 0 where
  pub none : HasNoHead bytes
  pub formed : ¬ (BreaksForm bytes)
  pub short : length bytes < MAX_HEAD
  pub few : line_count bytes < MAX_HEADER_LINES + 2
