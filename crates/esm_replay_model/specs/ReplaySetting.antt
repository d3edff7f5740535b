-- The setting of a replay: what its run is judged against, and which records it calls again. This product's own; the failure
-- lines are those of the Lambda Developer Guide, "Retaining discarded batch records" for Kinesis.
use Rattle.std.specs.Prelude.{ℕ, ◌==◌, Bool, false, not, ◌&&◌, List, length, filter, Some, option_map, unwrap_or}
use Rattle.std.specs.List.{list_any}
use Rattle.std.specs.Ordering.{is_le}
use Rattle.esm_model.specs.Sequence.{sequence_order}
use Rattle.esm_model.specs.declared.config.Config.{Config}
use Rattle.esm_model.specs.Records.{Record}
use Rattle.esm_model.specs.declared.setup.FoundFate.{FoundFate}
use Rattle.esm_model.specs.Setting.{Setting, records_of, record_at, found_fate}
use Rattle.esm_model.specs.Fates.{below}
use Rattle.esm_journal_state.specs.Meaning.{is_failure}
use Rattle.esm_journal_state.specs.SaidLists.{FoundReplay}
use Rattle.esm_replay_model.specs.declared.range.Range.{Range}

-- the mapping, the calls allowed, the records that arrived and the fates found in the journal at opening; what the lines of
-- the failure file name; and the replays found in the journal
pub record ReplaySetting : Type 0 where
  pub base : Setting
  pub ranges : List Range
  pub replays : List FoundReplay

-- the mapping as a replay uses it: without retries and tumbling windows
abbrev pub replay_config : Config → Config
replay_config c = record c { retries = Some 0; tumbling_ms = 0 }

abbrev pub config_of : ReplaySetting → Config
config_of s = replay_config s.base.config

-- which records are named

-- the first sequence number is not greater than the second
abbrev pub is_up_to : List ℕ → List ℕ → Bool
is_up_to a b = is_le (sequence_order a b)

-- the range includes the sequence number of the shard
abbrev pub is_in_range : ℕ → List ℕ → Range → Bool
is_in_range n seq r = (r.shard == n) && (is_up_to r.first seq && is_up_to seq r.last)

abbrev pub is_in_ranges : List Range → ℕ → List ℕ → Bool
is_in_ranges ranges n seq = list_any (is_in_range n seq) ranges

-- the record's found fate is that of one that was given up: exhausted or expired
abbrev pub is_given_up : ReplaySetting → ℕ → ℕ → Bool
is_given_up s n i = unwrap_or (option_map (λ (f : FoundFate). is_failure f.fate) (found_fate s.base n i)) false

-- a failure line names the record
abbrev pub is_in_lines : ReplaySetting → ℕ → ℕ → Bool
is_in_lines s n i = unwrap_or (option_map (λ (r : Record). is_in_ranges s.ranges n r.seq) (record_at s.base n i)) false

-- an earlier replay replayed the record
abbrev pub is_found_replayed : ReplaySetting → ℕ → ℕ → Bool
is_found_replayed s n i = list_any (λ (f : FoundReplay). (f.shard == n) && (f.place == i)) s.replays

-- a record is named if it was given up, a failure line names it, and no earlier replay replayed it
abbrev pub is_named : ReplaySetting → ℕ → ℕ → Bool
is_named s n i = is_given_up s n i && (is_in_lines s n i && not (is_found_replayed s n i))

-- the places of the shard's named records, in order
abbrev pub named_places : ReplaySetting → ℕ → List ℕ
named_places s n = filter (is_named s n) (below (length (records_of s.base n)))
