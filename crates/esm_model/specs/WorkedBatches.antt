-- Worked examples: which records make a call, and when.
use Rattle.std.specs.Prelude.{◌≡◌, ℕ, List, [], ◌∷◌, ◌++◌, codes, None, false}
use Rattle.esm_model.specs.declared.config.Config.{Config}
use Rattle.esm_model.specs.declared.entry.Fate.TheVariants.{Succeeded, Filtered}
use Rattle.esm_model.specs.declared.entry.Entry.{Entry}
use Rattle.esm_model.specs.declared.entry.Entry.TheVariants.{Came, Gave, Shut}
use Rattle.esm_model.specs.Setting.{Setting}
use Rattle.esm_model.specs.Batches.{is_ready}
use Rattle.esm_model.specs.Step.{Legal}
use Rattle.esm_model.specs.Worked.{plain_mapping, setting_over, record_with, records_with, lane_0, began, good_call, all_came, events_in, Runs}

-- `one-record`: one call, with the whole event

abbrev pub one_record : Setting
one_record = setting_over plain_mapping (record_with (codes "1") 0 ∷ [])

-- the 415 bytes of its event
abbrev pub one_record_event : List ℕ
one_record_event =
    codes "{\"Records\":[{\"kinesis\":{\"kinesisSchemaVersion\":\"1.0\",\"partitionKey\":\"1\",\"sequenceNumber\":\"1\",\"data\":\"SGVsbG8=\",\"approximateArrivalTimestamp\":0.000},"
    ++ codes "\"eventSource\":\"aws:kinesis\",\"eventVersion\":\"1.0\",\"eventID\":\"shardId-000000000000:1\",\"eventName\":\"aws:kinesis:record\","
    ++ codes "\"invokeIdentityArn\":\"arn:aws:iam::123456789012:role/esm\",\"awsRegion\":\"us-east-1\",\"eventSourceARN\":\"arn:aws:kinesis:us-east-1:123456789012:stream/s\"}]}"

pub record OneRecord : Type 0 where
  pub runs : Runs one_record (good_call (0 ∷ []) 0 (all_came 1 0)) (began (0 ∷ []) 0 ∷ []) (Succeeded ∷ []) [] 1
  pub events : events_in one_record (good_call (0 ∷ []) 0 (all_came 1 0)) 0 ≡ one_record_event ∷ []

-- `batching-window`: a batch size of two and a window of a second

abbrev pub gathering_mapping : Config
gathering_mapping = record plain_mapping { batch_size = 2; window_ms = 1000 }

abbrev pub gathering_one : Setting
gathering_one = setting_over gathering_mapping (records_with (codes "1" ∷ []))

abbrev pub gathering_two : Setting
gathering_two = setting_over gathering_mapping (records_with (codes "1" ∷ codes "2" ∷ []))

-- one record waits for the window's end; a full batch, or one after the input's end, begins at once
pub record BatchingWindow : Type 0 where
  pub not_at_once : is_ready gathering_one (Came 0 0 1 0 ∷ []) lane_0 0 ≡ false
  pub not_yet : is_ready gathering_one (Came 0 0 1 0 ∷ []) lane_0 999 ≡ false
  pub after_window : Runs gathering_one (good_call (0 ∷ []) 1000 (Came 0 0 1 0 ∷ [])) (began (0 ∷ []) 1000 ∷ []) (Succeeded ∷ []) [] 1
  pub full : Runs gathering_two (good_call (0 ∷ 1 ∷ []) 0 (Came 0 0 2 0 ∷ [])) (began (0 ∷ 1 ∷ []) 0 ∷ []) (Succeeded ∷ Succeeded ∷ []) [] 2
  pub at_the_end : Runs gathering_one (good_call (0 ∷ []) 0 (all_came 1 0)) (began (0 ∷ []) 0 ∷ []) (Succeeded ∷ []) [] 1

-- a batch may not begin before its window is over
abbrev pub EarlyBatchIsNotLegal : Type 0
EarlyBatchIsNotLegal = ¬ Legal gathering_one (began (0 ∷ []) 999 ∷ Came 0 0 1 0 ∷ [])

-- `filtered-data`: a filter on the data, which is no JSON or passes, and a filter on the key

abbrev pub filtering : List ℕ → List ℕ → Setting
filtering filter payload = setting_over (record plain_mapping { filters = filter ∷ [] }) (record (record_with (codes "1") 0) { payload = payload } ∷ [])

abbrev pub on_data : List ℕ
on_data = codes "{\"data\":{\"n\":[1]}}"

abbrev pub on_key : List ℕ
on_key = codes "{\"partitionKey\":[\"1\"]}"

-- the record is filtered at its arrival
abbrev pub filtered_history : List Entry
filtered_history = Shut 0 ∷ Gave None 0 (0 ∷ []) Filtered None None 0 ∷ Came 0 0 1 0 ∷ []

pub record FilteredData : Type 0 where
  pub no_json : Runs (filtering on_data (codes "Hello")) filtered_history [] (Filtered ∷ []) [] 1
  pub passing : Runs (filtering on_data (codes "{\"n\":1}")) (good_call (0 ∷ []) 0 (all_came 1 0)) (began (0 ∷ []) 0 ∷ []) (Succeeded ∷ []) [] 1
  pub by_key : Runs (filtering on_key (codes "Hello")) (good_call (0 ∷ []) 0 (all_came 1 0)) (began (0 ∷ []) 0 ∷ []) (Succeeded ∷ []) [] 1
