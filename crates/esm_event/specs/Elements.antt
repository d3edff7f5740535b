-- The elements of an event, cut into the parts in which they are written.
use Rattle.std.specs.Prelude.{ℕ, List, ◌++◌, codes}
use Rattle.std.specs.List.{flat_map}
use Rattle.esm_model.specs.Numbers.{padded_decimal}
use Rattle.esm_model.specs.JsonText.{escaped_byte}
use Rattle.esm_model.specs.EventText.{base64_text, seconds_text, kinesis_part, identity_part}
use Rattle.esm_model.specs.QueueEvent.{queue_record_text}
use Rattle.esm_model.specs.declared.config.Config.{Config}
use Rattle.esm_model.specs.Records.{Record}
use Rattle.esm_model.specs.declared.received.Received.{Received}

-- the part of a record's element with its key, sequence number, data and arrival
unfoldable pub content_text : Record → List ℕ
content_text r =
    flat_map escaped_byte r.key ++ codes "\",\"sequenceNumber\":\"" ++ r.seq
    ++ codes "\",\"data\":\"" ++ base64_text r.payload
    ++ codes "\",\"approximateArrivalTimestamp\":" ++ seconds_text r.arrival

-- what follows up to the second occurrence of the sequence number; it is the same for all records of a shard
unfoldable pub identity_text : ℕ → List ℕ
identity_text shard =
    codes "},\"eventSource\":\"aws:kinesis\",\"eventVersion\":\"1.0\",\"eventID\":\"shardId-"
    ++ padded_decimal 12 shard ++ codes ":"

-- the element with this opening, identity and source
unfoldable pub element_text : List ℕ → List ℕ → List ℕ → Record → List ℕ
element_text opening identity source r = opening ++ content_text r ++ identity ++ r.seq ++ source

-- the element of a record, with `source` at its end
unfoldable pub ending_in : List ℕ → Record → List ℕ
ending_in source r = kinesis_part r ++ identity_part r ++ source

-- the element of a record that is not the first, after a comma
unfoldable pub following_record : List ℕ → Record → List ℕ
following_record source r = codes "," ++ ending_in source r

-- the element of a message that is not the first, after a comma
unfoldable pub following_message : Config → Received → List ℕ
following_message c r = codes "," ++ queue_record_text c r
