-- What is sent and received over a link in a call, if the link shows it. This product's own.
use Rattle.std.specs.Prelude.{◌≡◌, ◌≢◌, ◌<◌, ◌≤◌, ◌⊎◌, ◌+◌, ◌*◌, max, length, List, [], ℕ, ◌++◌, Bool, true, false, Option}
use Rattle.esm_io.specs.Faults.{Rose}
use Rattle.esm_io.specs.Talks.{Talk, Reads, Writes, IsReadOut}
use Rattle.esm_model.specs.declared.entry.Reply.{Reply}
use Rattle.esm_model.specs.declared.entry.Reply.TheVariants.{Answered, Garbled, Lost}
use Rattle.esm_model.specs.declared.limits.TheConstants.{MAX_RESPONSE}
use Rattle.esm_invoke.specs.declared.call.TheConstants.{FIRST_ROOM}
use Rattle.esm_invoke.specs.Response.{IsReplyTo, HoldsNone, NeverWhole}

-- these bytes were written, and then those read. The middle is a link itself, and not only what a link would show: a call
-- over any link can name only links that its own reads and writes left
pub record Exchanges {L : Type 0} (told : L → Option Talk) (old new : L) (written read : List ℕ) : Type 0 where
  pub middle : L
  pub writes : Writes (told old) (told middle) written
  pub reads : Reads (told middle) (told new) read

-- a work area of `before` bytes grew to `after` for `read` bytes that were read: at most to its first size plus twice these
abbrev pub GrowsFor : ℕ → ℕ → ℕ → Type 0
GrowsFor before after read = after ≤ max before (FIRST_ROOM + 2 * read)

-- nothing was done; or the request was written, from its front to its end or to a write that failed, and only then bytes
-- were read, into a work area that grew from `before` to `after` bytes
pub record SendsPart {L : Type 0} (told : L → Option Talk) (faults : L → ℕ) (old new : L) (request : List ℕ) (before after : ℕ) : Type 0 where
  pub sent : List ℕ
  pub unsent : List ℕ
  pub read : List ℕ
  pub parts : request ≡ sent ++ unsent
  pub exchanges : Exchanges told old new sent read
  pub whole_or_failed : sent ++ read ≢ [] → (unsent ≡ []) ⊎ Rose (faults old) (faults exchanges.middle)
  pub grows : GrowsFor before after (length read)

-- the whole request was written, and this is the reply to the bytes that were then read
pub record Answers {L : Type 0} (told : L → Option Talk) (old new : L) (request : List ℕ) (reply : Reply) : Type 0 where
  pub read : List ℕ
  pub ended : Bool
  pub exchanges : Exchanges told old new request read
  pub at_end : ended ≡ true → IsReadOut (told new)
  pub is_reply : IsReplyTo ended read reply

-- the reply is an answer of the function
abbrev pub IsAnswer : Reply → Type 0
IsAnswer (Answered status error body) = Unit {0}
IsAnswer (Garbled bytes) = ⊥
IsAnswer Lost = ⊥

-- A write failed before the whole request was written, and the bytes that were then read show by themselves that they hold
-- the whole answer: after such a write a link ends in the same way in the middle of an answer as after it.
pub record AnswersEarly {L : Type 0} (told : L → Option Talk) (faults : L → ℕ) (old new : L) (request : List ℕ) (reply : Reply) : Type 0 where
  pub sent : List ℕ
  pub unsent : List ℕ
  pub read : List ℕ
  pub parts : request ≡ sent ++ unsent
  pub cut : unsent ≢ []
  pub exchanges : Exchanges told old new sent read
  pub failed : Rose (faults old) (faults exchanges.middle)
  pub delimited : IsReplyTo false read reply
  pub is_answer : IsAnswer reply

-- why reading stops without an answer after a write that failed: at the link's end, past the limit, or because no answer can
-- follow that is whole by itself
abbrev pub StopsEarly : Option Talk → List ℕ → Type 0
StopsEarly new read = IsReadOut new ⊎ ((MAX_RESPONSE < length read) ⊎ NeverWhole read)

-- no answer was received, and the bytes that were read hold none that is whole by itself: a read failed, or a write failed
-- and reading stopped
pub record Loses {L : Type 0} (told : L → Option Talk) (faults : L → ℕ) (old new : L) (request : List ℕ) : Type 0 where
  pub sent : List ℕ
  pub unsent : List ℕ
  pub read : List ℕ
  pub parts : request ≡ sent ++ unsent
  pub exchanges : Exchanges told old new sent read
  pub whole_or_failed : (unsent ≡ []) ⊎ Rose (faults old) (faults exchanges.middle)
  pub none : HoldsNone false read
  pub cause : Rose (faults exchanges.middle) (faults new) ⊎ ((unsent ≢ []) × StopsEarly (told new) read)
