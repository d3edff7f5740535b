-- Worked lines of the trace: one for each entry and each form of it.
use Rattle.std.specs.Prelude.{◌≡◌, false, [], ◌∷◌, codes, Some, None}
use Rattle.esm_model.specs.declared.config.Kind.TheVariants.{Stream, Standard, Fifo}
use Rattle.esm_model.specs.declared.lane.LaneId.{LaneId}
use Rattle.esm_model.specs.declared.entry.Fate.TheVariants.{Succeeded, Filtered, Exhausted}
use Rattle.esm_model.specs.declared.entry.Reply.TheVariants.{Answered, Garbled, Lost}
use Rattle.esm_model.specs.declared.entry.Entry.TheVariants.{Came, Began, Ended, Gave, Tried, Closed, Replayed, Shut}
use Rattle.esm_trace.specs.Trace.{entry_line, trace_text}

-- the lane 2 of the shard 1
abbrev pub lane : LaneId
lane = record { shard = 1; lane = 2 }

-- the batcher 3 of a queue
abbrev pub batcher : LaneId
batcher = record { shard = 0; lane = 3 }

abbrev pub CameLine : Type 0
CameLine = entry_line Stream (Came 1 0 12 5)
    ≡ codes "{\"at\":5,\"entry\":\"came\",\"shard\":\"shardId-000000000001\",\"first\":0,\"count\":12}\n"

abbrev pub BeganLine : Type 0
BeganLine = entry_line Stream (Began lane (0 ∷ 3 ∷ 10 ∷ []) None 6)
    ≡ codes "{\"at\":6,\"entry\":\"began\",\"shard\":\"shardId-000000000001\",\"lane\":2,\"places\":[0,3,10]}\n"

abbrev pub FinalCall : Type 0
FinalCall = entry_line Stream (Began lane [] (Some 120000) 6)
    ≡ codes "{\"at\":6,\"entry\":\"began\",\"shard\":\"shardId-000000000001\",\"lane\":2,\"places\":[],\"closing\":120000}\n"

-- the body is `{}`
abbrev pub EndedLine : Type 0
EndedLine = entry_line Stream (Ended lane (Answered 200 false (codes "{}")) 7)
    ≡ codes "{\"at\":7,\"entry\":\"ended\",\"shard\":\"shardId-000000000001\",\"lane\":2,\"status\":200,\"error\":false,\"body\":\"e30=\"}\n"

-- the bytes are `no`
abbrev pub GarbledReply : Type 0
GarbledReply = entry_line Stream (Ended lane (Garbled (codes "no")) 7)
    ≡ codes "{\"at\":7,\"entry\":\"ended\",\"shard\":\"shardId-000000000001\",\"lane\":2,\"garbled\":\"bm8=\"}\n"

abbrev pub LostReply : Type 0
LostReply = entry_line Stream (Ended lane Lost 7)
    ≡ codes "{\"at\":7,\"entry\":\"ended\",\"shard\":\"shardId-000000000001\",\"lane\":2,\"lost\":true}\n"

abbrev pub GaveLine : Type 0
GaveLine = entry_line Stream (Gave (Some lane) 1 (0 ∷ 1 ∷ []) Succeeded None None 7)
    ≡ codes "{\"at\":7,\"entry\":\"gave\",\"shard\":\"shardId-000000000001\",\"lane\":2,\"places\":[0,1],\"fate\":\"succeeded\"}\n"

abbrev pub FateAtArrival : Type 0
FateAtArrival = entry_line Stream (Gave None 1 (4 ∷ []) Filtered None None 5)
    ≡ codes "{\"at\":5,\"entry\":\"gave\",\"shard\":\"shardId-000000000001\",\"places\":[4],\"fate\":\"filtered\"}\n"

-- the failure line is `{"a":1}`
abbrev pub FailureTold : Type 0
FailureTold = entry_line Stream (Gave (Some lane) 1 (4 ∷ []) Exhausted (Some (codes "{\"a\":1}")) None 8)
    ≡ codes "{\"at\":8,\"entry\":\"gave\",\"shard\":\"shardId-000000000001\",\"lane\":2,\"places\":[4],\"fate\":\"exhausted\",\"line\":\"{\\\"a\\\":1}\"}\n"

-- the state is `{"n":1}`
abbrev pub StateTold : Type 0
StateTold = entry_line Stream (Gave (Some lane) 1 (0 ∷ []) Succeeded None (Some (record { window = 120000; text = codes "{\"n\":1}" })) 8)
    ≡ codes "{\"at\":8,\"entry\":\"gave\",\"shard\":\"shardId-000000000001\",\"lane\":2,\"places\":[0],\"fate\":\"succeeded\",\"window\":120000,\"state\":\"eyJuIjoxfQ==\"}\n"

abbrev pub TriedLine : Type 0
TriedLine = entry_line Stream (Tried lane (2 ∷ []) None 4 9)
    ≡ codes "{\"at\":9,\"entry\":\"tried\",\"shard\":\"shardId-000000000001\",\"lane\":2,\"places\":[2],\"tries\":4}\n"

abbrev pub TriedFinalCall : Type 0
TriedFinalCall = entry_line Stream (Tried lane [] (Some 0) 1 9)
    ≡ codes "{\"at\":9,\"entry\":\"tried\",\"shard\":\"shardId-000000000001\",\"lane\":2,\"places\":[],\"tries\":1,\"closing\":0}\n"

abbrev pub ClosedLine : Type 0
ClosedLine = entry_line Stream (Closed lane 0 9)
    ≡ codes "{\"at\":9,\"entry\":\"closed\",\"shard\":\"shardId-000000000001\",\"lane\":2,\"window\":0}\n"

abbrev pub QueueLine : Type 0
QueueLine = entry_line Standard (Began batcher (7 ∷ []) None 9)
    ≡ codes "{\"at\":9,\"entry\":\"began\",\"shard\":\"queue\",\"lane\":3,\"places\":[7]}\n"

abbrev pub ReplayedLine : Type 0
ReplayedLine = entry_line Stream (Replayed 0 (0 ∷ 1 ∷ []) 9)
    ≡ codes "{\"at\":9,\"entry\":\"replayed\",\"shard\":\"shardId-000000000000\",\"places\":[0,1]}\n"

abbrev pub ShutLine : Type 0
ShutLine = entry_line Fifo (Shut 10) ≡ codes "{\"at\":10,\"entry\":\"shut\"}\n"

-- the older entry is written first
abbrev pub TwoLines : Type 0
TwoLines = trace_text Fifo (Shut 10 ∷ Came 0 0 1 9 ∷ [])
    ≡ codes "{\"at\":9,\"entry\":\"came\",\"shard\":\"queue\",\"first\":0,\"count\":1}\n{\"at\":10,\"entry\":\"shut\"}\n"
