-- The text of a run's history: a line for each entry, oldest first. Each line is a JSON object without white space and ends
-- with a line feed. This product's own.
use Rattle.std.specs.Prelude.{ℕ, Bool, List, [], ◌++◌, codes, reverse, Option, Some, None}
use Rattle.std.specs.List.{flat_map, filter_map, join_by}
use Rattle.esm_model.specs.Numbers.{decimal}
use Rattle.esm_model.specs.JsonText.{quoted, truth_text}
use Rattle.esm_model.specs.EventText.{base64_text, shard_id}
use Rattle.esm_model.specs.declared.config.Kind.{Kind}
use Rattle.esm_model.specs.declared.config.Kind.TheVariants.{Stream, Standard, Fifo}
use Rattle.esm_model.specs.declared.lane.LaneId.{LaneId}
use Rattle.esm_model.specs.declared.entry.Fate.{Fate}
use Rattle.esm_model.specs.declared.entry.Fate.TheVariants.{Succeeded, Filtered, Expired, Exhausted}
use Rattle.esm_model.specs.declared.entry.Reply.{Reply}
use Rattle.esm_model.specs.declared.entry.Reply.TheVariants.{Answered, Garbled, Lost}
use Rattle.esm_model.specs.declared.entry.WindowState.{WindowState}
use Rattle.esm_model.specs.declared.entry.Entry.{Entry}
use Rattle.esm_model.specs.declared.entry.Entry.TheVariants.{Came, Began, Ended, Gave, Tried, Closed, Replayed, Shut}

-- the members of a line, each after its comma

-- the moment in milliseconds, and which entry it is
abbrev pub head_part : List ℕ → ℕ → List ℕ
head_part word moment = codes "{\"at\":" ++ decimal moment ++ codes ",\"entry\":\"" ++ word ++ codes "\""

-- how a line names a shard: by its id, or as `queue`
abbrev pub shard_name : Kind → ℕ → List ℕ
shard_name Stream shard = shard_id shard
shard_name Standard shard = codes "queue"
shard_name Fifo shard = codes "queue"

abbrev pub shard_part : Kind → ℕ → List ℕ
shard_part kind shard = codes ",\"shard\":\"" ++ shard_name kind shard ++ codes "\""

-- the lane's number; for a queue that of the batcher
abbrev pub lane_part : ℕ → List ℕ
lane_part lane = codes ",\"lane\":" ++ decimal lane

-- numbers with commas between them
unfoldable pub numbers_text : List ℕ → List ℕ
numbers_text numbers = join_by decimal (codes ",") numbers

abbrev pub places_part : List ℕ → List ℕ
places_part places = codes ",\"places\":[" ++ numbers_text places ++ codes "]"

-- the start of the window of a final call, in milliseconds
abbrev pub closing_part : Option ℕ → List ℕ
closing_part None = []
closing_part (Some window) = codes ",\"closing\":" ++ decimal window

-- an answer: its status, whether it had the function error, and its body in base64
abbrev pub answer_part : ℕ → Bool → List ℕ → List ℕ
answer_part status error body =
    codes ",\"status\":" ++ decimal status
    ++ codes ",\"error\":" ++ truth_text error
    ++ codes ",\"body\":\"" ++ base64_text body ++ codes "\""

-- a reply: an answer, the bytes of a garbled one in base64, or that it was lost
abbrev pub reply_part : Reply → List ℕ
reply_part (Answered status error body) = answer_part status error body
reply_part (Garbled bytes) = codes ",\"garbled\":\"" ++ base64_text bytes ++ codes "\""
reply_part Lost = codes ",\"lost\":true"

-- the lane that gave a fate; none if it was given at arrival
abbrev pub by_part : Option LaneId → List ℕ
by_part None = []
by_part (Some lane) = lane_part lane.lane

abbrev pub fate_word : Fate → List ℕ
fate_word Succeeded = codes "succeeded"
fate_word Filtered = codes "filtered"
fate_word Expired = codes "expired"
fate_word Exhausted = codes "exhausted"

abbrev pub fate_part : Fate → List ℕ
fate_part fate = codes ",\"fate\":\"" ++ fate_word fate ++ codes "\""

-- the failure line, if there is one
abbrev pub line_part : Option (List ℕ) → List ℕ
line_part None = []
line_part (Some line) = codes ",\"line\":" ++ quoted line

-- the state that a window has from then on, if there is one
abbrev pub state_part : Option WindowState → List ℕ
state_part None = []
state_part (Some state) = codes ",\"window\":" ++ decimal state.window ++ codes ",\"state\":\"" ++ base64_text state.text ++ codes "\""

-- lines

-- which entry it is, and of which lane
abbrev pub call_part : Kind → List ℕ → LaneId → ℕ → List ℕ
call_part kind word lane moment = head_part word moment ++ shard_part kind lane.shard ++ lane_part lane.lane

abbrev pub came_part : Kind → ℕ → ℕ → ℕ → ℕ → List ℕ
came_part kind shard first count moment =
    head_part (codes "came") moment ++ shard_part kind shard
    ++ codes ",\"first\":" ++ decimal first ++ codes ",\"count\":" ++ decimal count

abbrev pub began_part : Kind → LaneId → List ℕ → Option ℕ → ℕ → List ℕ
began_part kind lane places closing moment =
    call_part kind (codes "began") lane moment ++ places_part places ++ closing_part closing

abbrev pub ended_part : Kind → LaneId → Reply → ℕ → List ℕ
ended_part kind lane reply moment = call_part kind (codes "ended") lane moment ++ reply_part reply

abbrev pub given_part : Kind → Option LaneId → ℕ → List ℕ → Fate → ℕ → List ℕ
given_part kind by shard places fate moment =
    head_part (codes "gave") moment ++ shard_part kind shard ++ by_part by ++ places_part places ++ fate_part fate

-- what a fate comes with: a failure line, and the state of a window
abbrev pub told_part : Option (List ℕ) → Option WindowState → List ℕ
told_part line state = line_part line ++ state_part state

abbrev pub gave_part : Kind → Option LaneId → ℕ → List ℕ → Fate → Option (List ℕ) → Option WindowState → ℕ → List ℕ
gave_part kind by shard places fate line state moment = given_part kind by shard places fate moment ++ told_part line state

abbrev pub tried_part : Kind → LaneId → List ℕ → Option ℕ → ℕ → ℕ → List ℕ
tried_part kind lane places closing tries moment =
    call_part kind (codes "tried") lane moment ++ places_part places
    ++ codes ",\"tries\":" ++ decimal tries ++ closing_part closing

abbrev pub closed_part : Kind → LaneId → ℕ → ℕ → List ℕ
closed_part kind lane window moment =
    call_part kind (codes "closed") lane moment ++ codes ",\"window\":" ++ decimal window

abbrev pub replayed_part : Kind → ℕ → List ℕ → ℕ → List ℕ
replayed_part kind shard places moment =
    head_part (codes "replayed") moment ++ shard_part kind shard ++ places_part places

-- an entry's object without its closing brace
abbrev pub entry_part : Kind → Entry → List ℕ
entry_part kind (Came shard first count moment) = came_part kind shard first count moment
entry_part kind (Began lane places closing moment) = began_part kind lane places closing moment
entry_part kind (Ended lane reply moment) = ended_part kind lane reply moment
entry_part kind (Gave by shard places fate line state moment) = gave_part kind by shard places fate line state moment
entry_part kind (Tried lane places closing tries moment) = tried_part kind lane places closing tries moment
entry_part kind (Closed lane window moment) = closed_part kind lane window moment
entry_part kind (Replayed shard places moment) = replayed_part kind shard places moment
entry_part kind (Shut moment) = head_part (codes "shut") moment

-- an entry's line
unfoldable pub entry_line : Kind → Entry → List ℕ
entry_line kind e = entry_part kind e ++ codes "}\n"

-- the text of a history (newest entry first)
unfoldable pub trace_text : Kind → List Entry → List ℕ
trace_text kind h = flat_map (entry_line kind) (reverse h)

-- replies

-- the reply in an entry, if it ends a call
abbrev pub reply_in : Entry → Option Reply
reply_in (Ended lane reply moment) = Some reply
reply_in _ = None

-- the replies of a history, oldest first
abbrev pub replies_of : List Entry → List Reply
replies_of h = filter_map reply_in (reverse h)
