-- Worked examples: tumbling windows, their states and their final calls.
use Rattle.std.specs.Prelude.{◌≡◌, ℕ, List, [], ◌∷◌, ◌++◌, codes, Some, None, false}
use Rattle.esm_model.specs.declared.entry.Fate.TheVariants.{Succeeded}
use Rattle.esm_model.specs.declared.entry.Reply.{Reply}
use Rattle.esm_model.specs.declared.entry.Reply.TheVariants.{Answered}
use Rattle.esm_model.specs.declared.entry.WindowState.{WindowState}
use Rattle.esm_model.specs.declared.entry.Entry.{Entry}
use Rattle.esm_model.specs.declared.entry.Entry.TheVariants.{Began, Gave, Closed}
use Rattle.esm_model.specs.declared.verdict.StateRead.TheVariants.{Empty, Span, Bad}
use Rattle.esm_model.specs.Setting.{Setting}
use Rattle.esm_model.specs.State.{state_read}
use Rattle.esm_model.specs.Step.{Legal}
use Rattle.esm_model.specs.Worked.{plain_mapping, setting_over, record_with, lane_0, succeeds, began, ended, all_came, found_success, shown, events_in, Runs}

-- `tumbling-windows`: windows of two minutes; two records of the first window and one of the second

abbrev pub windowed : Setting
windowed = setting_over (record plain_mapping { tumbling_ms = 120000 }) (record_with (codes "1") 1000 ∷ record_with (codes "2") 119999 ∷ record_with (codes "3") 120000 ∷ [])

abbrev pub three_came : List Entry
three_came = all_came 3 120000

-- a call whose answer leaves this state to the window
abbrev pub stateful_call : List ℕ → Reply → WindowState → List Entry → List Entry
stateful_call places reply state h = Gave (Some lane_0) 0 places Succeeded None (Some state) 120000 ∷ ended reply 120000 ∷ began places 120000 ∷ h

abbrev pub final_begun : ℕ → Entry
final_begun window = Began lane_0 [] (Some window) 120000

abbrev pub final_call : ℕ → List Entry → List Entry
final_call window h = Closed lane_0 window 120000 ∷ ended succeeds 120000 ∷ final_begun window ∷ h

abbrev pub first_call : List Entry → List Entry
first_call h = stateful_call (0 ∷ 1 ∷ []) (Answered 200 false (codes "{\"state\":{\"n\":2}}")) (record { window = 0; text = codes "{\"n\":2}" }) h

abbrev pub second_call : List Entry → List Entry
second_call h = stateful_call (2 ∷ []) (Answered 200 false (codes "{\"state\":{\"n\":1}}")) (record { window = 120000; text = codes "{\"n\":1}" }) h

abbrev pub windows_history : List Entry
windows_history = final_call 120000 (second_call (final_call 0 (first_call three_came)))

-- what comes after the state in an event
abbrev pub call_end : List ℕ
call_end = codes "\"shardId\":\"shardId-000000000000\",\"eventSourceARN\":\"arn:aws:kinesis:us-east-1:123456789012:stream/s\",\"isFinalInvokeForWindow\":false,\"isWindowTerminatedEarly\":false}"

abbrev pub final_call_end : List ℕ
final_call_end = codes "\"shardId\":\"shardId-000000000000\",\"eventSourceARN\":\"arn:aws:kinesis:us-east-1:123456789012:stream/s\",\"isFinalInvokeForWindow\":true,\"isWindowTerminatedEarly\":false}"

abbrev pub first_event : List ℕ
first_event =
    codes "{\"Records\":[" ++ shown (codes "1") (codes "1.000") ++ codes "," ++ shown (codes "2") (codes "119.999")
    ++ codes "],\"window\":{\"start\":\"1970-01-01T00:00:00Z\",\"end\":\"1970-01-01T00:02:00Z\"},\"state\":{}," ++ call_end

abbrev pub first_final_event : List ℕ
first_final_event = codes "{\"Records\":[],\"window\":{\"start\":\"1970-01-01T00:00:00Z\",\"end\":\"1970-01-01T00:02:00Z\"},\"state\":{\"n\":2}," ++ final_call_end

abbrev pub second_event : List ℕ
second_event = codes "{\"Records\":[" ++ shown (codes "3") (codes "120.000") ++ codes "],\"window\":{\"start\":\"1970-01-01T00:02:00Z\",\"end\":\"1970-01-01T00:04:00Z\"},\"state\":{}," ++ call_end

abbrev pub second_final_event : List ℕ
second_final_event = codes "{\"Records\":[],\"window\":{\"start\":\"1970-01-01T00:02:00Z\",\"end\":\"1970-01-01T00:04:00Z\"},\"state\":{\"n\":1}," ++ final_call_end

-- four calls, with the states of their windows
pub record TumblingWindows : Type 0 where
  pub runs : Runs windowed windows_history (began (0 ∷ 1 ∷ []) 120000 ∷ final_begun 0 ∷ began (2 ∷ []) 120000 ∷ final_begun 120000 ∷ []) (Succeeded ∷ Succeeded ∷ Succeeded ∷ []) [] 3
  pub events : events_in windowed windows_history 0 ≡ first_event ∷ first_final_event ∷ second_event ∷ second_final_event ∷ []

-- no batch of the next window may begin before the final call of a window that is due
abbrev pub SkippedFinalCallIsNotLegal : Type 0
SkippedFinalCallIsNotLegal = ¬ Legal windowed (began (2 ∷ []) 120000 ∷ first_call three_came)

-- `window-restart`: an earlier run made the first call; its fates and the window's state are found in the journal

abbrev pub windowed_again : Setting
windowed_again = record windowed {
  fates = found_success 0 (codes "1") ∷ found_success 1 (codes "2") ∷ [];
  states = record { shard = 0; window = 0; text = codes "{\"n\":2}" } ∷ [];
}

abbrev pub restarted_history : List Entry
restarted_history = final_call 120000 (second_call (final_call 0 three_came))

-- three calls; the first is the final one of the window whose state was found
pub record WindowRestart : Type 0 where
  pub runs : Runs windowed_again restarted_history (final_begun 0 ∷ began (2 ∷ []) 120000 ∷ final_begun 120000 ∷ []) (Succeeded ∷ Succeeded ∷ Succeeded ∷ []) [] 3
  pub events : events_in windowed_again restarted_history 0 ≡ first_final_event ∷ second_event ∷ second_final_event ∷ []

-- `state-spans`: where the state is in an answer
pub record StateSpans : Type 0 where
  pub span : state_read (codes "{\"state\": {\"a\" : 1},\"x\":2}") ≡ Span 10 19
  pub number : state_read (codes "{\"state\":7}") ≡ Bad
  pub no_json : state_read (codes "x") ≡ Bad
  pub no_answer : state_read (codes "null") ≡ Empty
  pub no_state : state_read (codes "{}") ≡ Empty
