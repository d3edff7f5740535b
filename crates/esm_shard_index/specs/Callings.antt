-- The calls whose batch held a record, and what a history says of them. This product's own.
use Rattle.std.specs.Prelude.{ℕ, ◌≡◌, ◌==◌, true, false, List, [], ◌∷◌, length, slice_index_or, Option, Some, None, if◌then◌else◌, ⊤}
use Rattle.esm_model.specs.declared.event.Response.{Response}
use Rattle.esm_model.specs.declared.entry.Entry.{Entry}
use Rattle.esm_model.specs.declared.entry.Entry.TheVariants.{Came, Began, Ended}
use Rattle.esm_model.specs.Entries.{holds, came_count}
use Rattle.esm_model.specs.FailureLine.{calls_of, response_of}
use Rattle.esm_shard_index.specs.declared.callings.Calling.{Calling}
use Rattle.esm_shard_index.specs.declared.callings.LastAnswer.{LastAnswer}
use Rattle.esm_shard_index.specs.declared.callings.LastAnswer.TheVariants.{Unanswered, Plain, Failed}

-- what is kept of each record that came, by place, and for how many more records there is room
pub record Called : Type 0 where
  pub records : List Calling
  pub room : ℕ

-- an answer and the response that it was
abbrev pub answer_from : Option Response → LastAnswer
answer_from None = Unanswered
answer_from (Some response) = if response.error then Failed response.status else Plain response.status

abbrev pub response_from : LastAnswer → Option Response
response_from Unanswered = None
response_from (Plain status) = Some (record { status = status; error = false })
response_from (Failed status) = Some (record { status = status; error = true })

-- of a record that no call held
abbrev pub uncalled : Calling
uncalled = record { calls = 0; answer = Unanswered }

-- the number of calls that are kept for the place
abbrev pub calls_at : Called → ℕ → ℕ
calls_at c i = (slice_index_or c.records i uncalled).calls

-- the response to the last of these calls that ended
abbrev pub response_at : Called → ℕ → Option Response
response_at c i = response_from (slice_index_or c.records i uncalled).answer

-- no place is twice among the places
abbrev pub StandOnce : List ℕ → Type 0
StandOnce [] = ⊤
StandOnce (x ∷ xs) = (holds xs x ≡ false) × StandOnce xs

-- what is kept says of the shard's records what the history says
pub record IsCallings (h : List Entry) (n : ℕ) (c : Called) : Type 0 where
  pub came : length c.records ≡ came_count h n
  pub calls : (i : ℕ) → calls_at c i ≡ calls_of h n i
  pub responses : (i : ℕ) → response_at c i ≡ response_of h n i

-- the entry neither brings a record of the shard nor begins or ends a call of one of its lanes
abbrev pub LeavesCallings : ℕ → Entry → Type 0
LeavesCallings n (Came shard first count moment) = (shard == n) ≡ false
LeavesCallings n (Began lane places closing moment) = (lane.shard == n) ≡ false
LeavesCallings n (Ended lane reply moment) = (lane.shard == n) ≡ false
LeavesCallings n _ = ⊤
