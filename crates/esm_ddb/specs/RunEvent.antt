-- The event of records that carry elements, as the function gets it.
use Rattle.std.specs.Prelude.{◌≡◌, ◌≤◌, ℕ, ◌-◌, ⊤, List, [], ◌++◌, codes, true, is_some, length, Option, Some, None}
use Rattle.std.specs.List.{All, join_by}
use Rattle.std.specs.Str.{is_utf8}
use Rattle.json.specs.Json as json
use Rattle.json.specs.Lex.{tokens}
use Rattle.serde_json.specs.Read.{max_depth, of_json}
use Rattle.esm_model.specs.EventText.{event_text, state_text, window_part}
use Rattle.esm_model.specs.State.{answered_state}
use Rattle.esm_model.specs.Valid.{IsStreamConfig}
use Rattle.esm_model.specs.declared.config.Config.{Config}
use Rattle.esm_model.specs.declared.event.WindowCall.{WindowCall}
use Rattle.esm_model.specs.Records.{Record}
use Rattle.esm_ddb.specs.Event.{ddb_event}
use Rattle.esm_ddb.specs.LineByLine.{IsOfChange}
use Rattle.esm_ddb.specs.ReadsBack.{IsOfBytes}
use Rattle.esm_ddb.specs.Translating.{source_of}

-- the data of the records in the order of the batch, and then what the event says of its window
abbrev pub elements_event : Config → List Record → Option WindowCall → List ℕ
elements_event c rs w = codes "{\"Records\":[" ++ join_by (λ r. r.payload) (codes ",") rs ++ codes "]" ++ window_part c w ++ codes "}"

-- The text reads as a JSON object, also in an event, where it is nested one level deeper.
pub record IsState (text : List ℕ) : Type 0 where
  pub utf8 : is_utf8 text ≡ true
  pub members : json.Members
  pub reads : json.value (max_depth - 1) (tokens text) ≡ Some (json.object members, [])
  pub in_range : is_some (of_json (json.object members)) ≡ true

-- the state of the event's window, if it has one, reads so; a window without a state yet has `{}`
abbrev pub HasState : Option WindowCall → Type 0
HasState None = ⊤
HasState (Some w) = IsState (state_text w.state.text)

-- An event is turned into the event whose `Records` are exactly the elements that its records carry.
abbrev pub HasItsElements : Type 0
HasItsElements = (c : Config) (rs : List Record) (w : Option WindowCall) → IsStreamConfig c → All (IsOfChange (source_of c)) rs → HasState w
    → ddb_event (event_text c rs w) ≡ elements_event c rs w

abbrev pub HasFirstState : Type 0
HasFirstState = IsState (state_text [])

-- and so does the state that a window has after a function's answer, whatever the answer is
abbrev pub HasAnsweredState : Type 0
HasAnsweredState = (body : List ℕ) → IsState (state_text (answered_state body))

-- The turned event is no longer than the event, so it is within the limit of events: an element is shorter than its
-- base64.
abbrev pub IsNoLonger : Type 0
IsNoLonger = (c : Config) (rs : List Record) (w : Option WindowCall) → IsStreamConfig c → All (IsOfChange (source_of c)) rs → HasState w
    → length (ddb_event (event_text c rs w)) ≤ length (event_text c rs w)

-- the region and the ARN of a valid mapping are lists of bytes
abbrev pub HasSourceOfBytes : Type 0
HasSourceOfBytes = (c : Config) → IsStreamConfig c → IsOfBytes (source_of c)
