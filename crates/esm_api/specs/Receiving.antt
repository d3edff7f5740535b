-- What a call knows while it reads a request and writes the answer. Only this crate's proofs cite this.
use Rattle.std.specs.Prelude.{◌≡◌, ◌≤◌, ◌+◌, ℕ, List, ◌++◌, length, take, Option}
use Rattle.esm_io.specs.Talks.{Talk, Reads, Writes, IsReadOut}
use Rattle.esm_model.specs.declared.limits.TheConstants.{MAX_HEAD}
use Rattle.esm_api.specs.declared.length.TheConstants.{MAX_REQUEST_BODY}
use Rattle.esm_api.specs.declared.head.Head.{Head}
use Rattle.esm_api.specs.declared.receive.Received.{Received}
use Rattle.esm_api.specs.declared.receive.Received.TheVariants as received
use Rattle.esm_api.specs.HeadRead.{IsPlanned}
use Rattle.esm_api.specs.Plan.{body_bytes}
use Rattle.esm_api.specs.Request.{Unfinished, IsJudged}

-- the link gave bytes, and they follow those that were there
pub record ReadsMore (old new : Option Talk) (before after : List ℕ) : Type 0 where
  pub piece : List ℕ
  pub grown : after ≡ before ++ piece
  pub reads : Reads old new piece

-- the link took bytes from the front of these, all or a part
pub record WritesPart (old new : Option Talk) (bytes : List ℕ) : Type 0 where
  pub sent : List ℕ
  pub unsent : List ℕ
  pub parts : bytes ≡ sent ++ unsent
  pub writes : Writes old new sent

-- the link gave bytes
abbrev pub ReadsSome : Option Talk → Option Talk → Type 0
ReadsSome old new = (bytes : List ℕ) × Reads old new bytes

-- the link gave bytes that are not a whole request
pub record ReadsUnfinished (old new : Option Talk) : Type 0 where
  pub bytes : List ℕ
  pub reads : Reads old new bytes
  pub unfinished : IsJudged bytes Unfinished

-- the link gave bytes, and with those that were there they are not a whole request
pub record ReadsOnUnfinished (old new : Option Talk) (before : List ℕ) : Type 0 where
  pub bytes : List ℕ
  pub more : ReadsMore old new before bytes
  pub unfinished : IsJudged bytes Unfinished

-- what reading a request into this buffer results in
abbrev pub Receives : Option Talk → Option Talk → List ℕ → Received → Type 0
Receives old new buffer (received.Whole head filled) =
    (filled ≤ length buffer) × Reads old new (take filled buffer) × IsPlanned (take filled buffer) head
    × (head.len + body_bytes head.plan ≤ filled)
Receives old new buffer received.Cut = ReadsUnfinished old new × IsReadOut new
Receives old new buffer received.LinkFault = ReadsUnfinished old new

-- what reading up to the end of the head results in
abbrev pub ReceivesHead : Option Talk → Option Talk → List ℕ → Received → Type 0
ReceivesHead old new buffer (received.Whole head filled) =
    (filled ≤ length buffer) × Reads old new (take filled buffer) × IsPlanned (take filled buffer) head × (head.len ≤ filled)
    × (head.len + body_bytes head.plan ≤ MAX_HEAD + MAX_REQUEST_BODY)
ReceivesHead old new buffer received.Cut = ReadsUnfinished old new × IsReadOut new
ReceivesHead old new buffer received.LinkFault = ReadsUnfinished old new

-- the whole body was read, behind the bytes that were there
pub record ReceivesBody (old new : Option Talk) (before : List ℕ) (head : Head) (buffer : List ℕ) (filled : ℕ) : Type 0 where
  pub within : filled ≤ length buffer
  pub whole : head.len + body_bytes head.plan ≤ filled
  pub more : ReadsMore old new before (take filled buffer)
  pub planned : IsPlanned (take filled buffer) head
