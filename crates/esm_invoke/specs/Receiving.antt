-- What a call knows while it sends and receives.
use Rattle.std.specs.Prelude.{◌≡◌, ◌≢◌, ◌≤◌, ◌⊎◌, ◌+◌, ℕ, List, [], ◌++◌, Bool, true, false, length, take, drop, Option, Some, None}
use Rattle.esm_io.specs.Faults.{Rose}
use Rattle.esm_io.specs.Talks.{Talk, Reads, Writes, IsReadOut}
use Rattle.esm_model.specs.declared.entry.Reply.{Reply}
use Rattle.esm_invoke.specs.declared.body.BodyReader.{BodyReader}
use Rattle.esm_invoke.specs.declared.call.HeadReceived.{HeadReceived}
use Rattle.esm_invoke.specs.declared.call.HeadReceived.TheVariants as Received
use Rattle.esm_invoke.specs.Exchange.{GrowsFor, IsAnswer, StopsEarly}
use Rattle.esm_invoke.specs.Response.{BeginsWith, IsReplyTo, HoldsNone, StopsAt}
use Rattle.esm_invoke.specs.ResponseRead.{Awaits, IsUnfinished}

-- more bytes were read, and appended to those that were there
pub record ReadsMore (old new : Option Talk) (before after : List ℕ) : Type 0 where
  pub piece : List ℕ
  pub grown : after ≡ before ++ piece
  pub reads : Reads old new piece

-- bytes were read after the first `filled` ones, into a buffer that grew for all of them
pub record ReadsInto (old new : Option Talk) (filled before after : ℕ) : Type 0 where
  pub read : List ℕ
  pub reads : Reads old new read
  pub grows : GrowsFor before after (filled + length read)

-- only a part of the bytes was written, from their front
pub record WritesPart (old new : Option Talk) (bytes : List ℕ) : Type 0 where
  pub sent : List ℕ
  pub unsent : List ℕ
  pub parts : bytes ≡ sent ++ unsent
  pub cut : unsent ≢ []
  pub writes : Writes old new sent

-- bytes were read, and this is the reply to all bytes so far
pub record Replies (old new : Option Talk) (before : List ℕ) (reply : Reply) : Type 0 where
  pub read : List ℕ
  pub ended : Bool
  pub reads : Reads old new read
  pub at_end : ended ≡ true → IsReadOut new
  pub is_reply : IsReplyTo ended (before ++ read) reply

-- reading stopped at these bytes, which hold no response
pub record Stops (new : Option Talk) (bytes : List ℕ) : Type 0 where
  pub ended : Bool
  pub at_end : ended ≡ true → IsReadOut new
  pub none : HoldsNone ended bytes
  pub reason : StopsAt ended bytes

-- bytes were read, and all the bytes so far hold no response that is whole by itself
pub record HasNone (old new : Option Talk) (before : List ℕ) : Type 0 where
  pub read : List ℕ
  pub reads : Reads old new read
  pub none : HoldsNone false (before ++ read)

-- bytes were read, and all bytes so far hold the answer, which is whole by itself
pub record AnswersWhole (old new : Option Talk) (before : List ℕ) (reply : Reply) : Type 0 where
  pub read : List ℕ
  pub reads : Reads old new read
  pub delimited : IsReplyTo false (before ++ read) reply
  pub is_answer : IsAnswer reply

-- no answer was read that is whole by itself: a read failed, by the counts of faults, or reading stopped
pub record Misses (old new : Option Talk) (bytes : List ℕ) (before after : ℕ) : Type 0 where
  pub read : List ℕ
  pub reads : Reads old new read
  pub none : HoldsNone false (bytes ++ read)
  pub cause : Rose before after ⊎ StopsEarly new (bytes ++ read)

-- what a reader of a body found in the bytes: a reply, or that the body continues
abbrev pub Settles : List ℕ → BodyReader → Option Reply → Type 0
Settles bytes r (Some reply) = IsReplyTo false bytes reply
Settles bytes r None = Awaits bytes r × IsUnfinished bytes r

-- what reading up to the end of the head gave, in this buffer, which had `before` bytes
abbrev pub ReceivesHead : Option Talk → Option Talk → ℕ → List ℕ → HeadReceived → Type 0
ReceivesHead old new before buffer (Received.Head head filled) =
    (filled ≤ length buffer) × Reads old new (take filled buffer) × BeginsWith (take filled buffer) head (drop head.len (take filled buffer))
    × (head.len ≤ filled) × GrowsFor before (length buffer) filled
ReceivesHead old new before buffer (Received.Garbled filled) =
    (filled ≤ length buffer) × Reads old new (take filled buffer) × Stops new (take filled buffer)
ReceivesHead old new before buffer Received.Lost = HasNone old new []
