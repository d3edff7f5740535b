-- The replies of a history, batcher by batcher. This product's own.
use Rattle.std.specs.Prelude.{◌≡◌, ℕ, ◌+◌, ◌*◌, ◌<◌, ◌==◌, List, [], ◌∷◌, ◌++◌, length, slice_index_or, if◌then◌else◌}
use Rattle.std.specs.List.{position_or_len}
use Rattle.esm_model.specs.declared.lane.LaneId.{LaneId}
use Rattle.esm_model.specs.declared.entry.Reply.{Reply}
use Rattle.esm_model.specs.declared.entry.Entry.{Entry}
use Rattle.esm_model.specs.declared.entry.Entry.TheVariants.{Ended}
use Rattle.esm_model.specs.Entries.{shards_that_came}
use Rattle.esm_trace.specs.declared.batchers.Batchers.{Batchers}
use Rattle.esm_trace.specs.declared.batchers.Batchers.TheVariants.{OfStream, OfQueue}

-- the number of the batcher that serves the lane, if these shards arrived: for a stream the index of its shard among them,
-- times the factor, plus the lane's number; for a queue the lane's number
abbrev pub number_in : Batchers → List ℕ → LaneId → ℕ
number_in (OfStream factor) shards lane = position_or_len (λ n. n == lane.shard) shards * factor + lane.lane
number_in OfQueue shards lane = lane.lane

abbrev pub replies_after : Batchers → List Entry → ℕ → List Reply → Entry → List Reply
replies_after by h k before (Ended lane reply moment) = if number_in by (shards_that_came h) lane == k then before ++ reply ∷ [] else before
replies_after by h k before _ = before

-- the replies to the calls of the batcher, oldest first, in the order in which the calls ended
abbrev pub replies_by : Batchers → List Entry → ℕ → List Reply
replies_by by [] k = []
replies_by by (e ∷ h) k = replies_after by h k (replies_by by h k) e

-- each list has the replies to the calls of the batcher with its number
abbrev pub AreOfBatchers : Batchers → List Entry → List (List Reply) → Type 0
AreOfBatchers by h lists = (k : ℕ) → k < length lists → slice_index_or lists k [] ≡ replies_by by h k
