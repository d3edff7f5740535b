-- Which records a line of the failure file names. Source: the Lambda Developer Guide, "Retaining discarded batch records"
-- for Kinesis (`KinesisBatchInfo` with `shardId`, `startSequenceNumber` and `endSequenceNumber`). Shard ids and sequence
-- numbers have the form that they have in the input.
use Rattle.std.specs.Prelude.{ℕ, List, codes, Option, Some, None, option_and_then, if◌then◌else◌}
use Rattle.serde_json.specs.Data.{Data}
use Rattle.serde_json.specs.Find.{get, as_str}
use Rattle.esm_model.specs.Json.{read_json}
use Rattle.esm_record.specs.Line.{shard_number, sequence_number}
use Rattle.esm_replay_model.specs.declared.range.Range.{Range}
use Rattle.esm_replay_model.specs.ReplaySetting.{is_up_to}

-- the text of the object's member with this name
abbrev pub member_text : List ℕ → Data → Option (List ℕ)
member_text name info = option_and_then as_str (get name info)

abbrev pub member_shard : List ℕ → Data → Option ℕ
member_shard name info = option_and_then shard_number (member_text name info)

abbrev pub member_sequence : List ℕ → Data → Option (List ℕ)
member_sequence name info = option_and_then sequence_number (member_text name info)

-- the range, if all three parts are there and the first sequence number is not greater than the last
abbrev pub range_between : Option ℕ → Option (List ℕ) → Option (List ℕ) → Option Range
range_between (Some n) (Some first) (Some last) = if is_up_to first last then Some (record { shard = n; first = first; last = last }) else None
range_between _ _ _ = None

abbrev pub range_in : Data → Option Range
range_in info = range_between (member_shard (codes "shardId") info) (member_sequence (codes "startSequenceNumber") info) (member_sequence (codes "endSequenceNumber") info)

-- the range that the line names, if it names one
abbrev pub failure_range : List ℕ → Option Range
failure_range line = option_and_then range_in (option_and_then (get (codes "KinesisBatchInfo")) (read_json line))
