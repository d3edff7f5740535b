-- The replies of a history from one of its entries on, for each batcher. Only this crate's proofs cite this.
use Rattle.std.specs.Prelude.{◌≡◌, ℕ, ◌<◌, ◌==◌, List, [], ◌∷◌, length, reverse, slice_index_or, if◌then◌else◌}
use Rattle.esm_model.specs.declared.lane.LaneId.{LaneId}
use Rattle.esm_model.specs.declared.entry.Reply.{Reply}
use Rattle.esm_model.specs.declared.entry.Entry.{Entry}
use Rattle.esm_model.specs.declared.entry.Entry.TheVariants.{Ended}
use Rattle.esm_model.specs.Entries.{shards_after}
use Rattle.esm_trace.specs.declared.batchers.Batchers.{Batchers}
use Rattle.esm_trace.specs.InOrder.{number_in}

-- the entry's reply, if it is one of the batcher's, followed by these
abbrev pub reply_before : Batchers → List ℕ → ℕ → Entry → List Reply → List Reply
reply_before by shards k (Ended lane reply moment) rest = if number_in by shards lane == k then reply ∷ rest else rest
reply_before by shards k _ rest = rest

-- the replies of the batcher in these entries (oldest first)
abbrev pub replies_from : Batchers → List ℕ → List Entry → ℕ → List Reply
replies_from by shards [] k = []
replies_from by shards (e ∷ later) k = reply_before by shards k e (replies_from by (shards_after shards e) later k)

-- what is left of the batcher's list, which holds its last reply first
abbrev pub left_of : List (List Reply) → ℕ → List Reply
left_of lists k = reverse (slice_index_or lists k [])

-- the lists hold the replies of the batchers in these entries
abbrev pub AreLeft : Batchers → List ℕ → List (List Reply) → List Entry → Type 0
AreLeft by shards lists later = (k : ℕ) → k < length lists → left_of lists k ≡ replies_from by shards later k

-- if the entry ends a call, the list of its batcher, if there is one, begins with the reply
abbrev pub HasReply : Batchers → List ℕ → List (List Reply) → Entry → Type 0
HasReply by shards lists e = (lane : LaneId) (reply : Reply) (moment : ℕ) → e ≡ Ended lane reply moment → number_in by shards lane < length lists
    → (rest : List Reply) × (left_of lists (number_in by shards lane) ≡ reply ∷ rest)

-- the entry's reply was taken out of `lists`, which leaves `more`
pub record IsMoved (by : Batchers) (shards : List ℕ) (e : Entry) (lists more : List (List Reply)) : Type 0 where
  pub as_many : length more ≡ length lists
  pub moved : (k : ℕ) → k < length lists → left_of lists k ≡ reply_before by shards k e (left_of more k)
