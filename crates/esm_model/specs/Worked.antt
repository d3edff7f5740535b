-- What the worked examples share. Each is a setting, a history with its newest entry first, and what the definitions say of
-- it.
use Rattle.std.specs.Prelude.{◌≡◌, ℕ, Bool, true, false, List, [], ◌∷◌, ◌++◌, codes, map, filter, reverse, Option, Some, None}
use Rattle.esm_model.specs.declared.config.Config.{Config}
use Rattle.esm_model.specs.declared.config.Kind.TheVariants.{Stream}
use Rattle.esm_model.specs.declared.config.Start.TheVariants.{TrimHorizon}
use Rattle.esm_model.specs.Records.{Record}
use Rattle.esm_model.specs.declared.lane.LaneId.{LaneId}
use Rattle.esm_model.specs.declared.entry.Fate.{Fate}
use Rattle.esm_model.specs.declared.entry.Fate.TheVariants.{Succeeded}
use Rattle.esm_model.specs.declared.entry.Entry.{Entry}
use Rattle.esm_model.specs.declared.entry.Entry.TheVariants.{Came, Began, Ended, Gave, Shut}
use Rattle.esm_model.specs.declared.entry.Reply.{Reply}
use Rattle.esm_model.specs.declared.entry.Reply.TheVariants.{Answered}
use Rattle.esm_model.specs.declared.called.Called.{Called}
use Rattle.esm_model.specs.declared.setup.FoundFate.{FoundFate}
use Rattle.esm_model.specs.Setting.{Setting}
use Rattle.esm_model.specs.Calls.{calls}
use Rattle.esm_model.specs.Fates.{fate, came_places}
use Rattle.esm_model.specs.Checkpoint.{checkpoint}
use Rattle.esm_model.specs.Books.{lines_of}
use Rattle.esm_model.specs.Step.{Legal}

-- a mapping of the stream `s` to the function `f`, each field at its default
abbrev pub plain_mapping : Config
plain_mapping = record {
  source_arn = codes "arn:aws:kinesis:us-east-1:123456789012:stream/s";
  function = codes "f";
  function_arn = codes "arn:aws:lambda:us-east-1:123456789012:function:f";
  region = codes "us-east-1";
  account = codes "123456789012";
  kind = Stream;
  batch_size = 100;
  window_ms = 0;
  factor = 1;
  retries = None;
  age_ms = None;
  bisect = false;
  item_failures = false;
  tumbling_ms = 0;
  start = TrimHorizon;
  destination = None;
  filters = [];
  concurrency = None;
  enabled = true;
}

-- a setting that found nothing in the journal at opening
abbrev pub setting_over : Config → List Record → Setting
setting_over config records = record {
  config = config;
  calls = 1000000;
  streams = record { shard = 0; records = records } ∷ [];
  fates = [];
  tries = [];
  states = [];
  window_tries = [];
}

-- a record of shard 0 with the key `1` and the data `Hello`
abbrev pub record_with : List ℕ → ℕ → Record
record_with seq arrival = record { shard = 0; seq = seq; key = codes "1"; payload = codes "Hello"; arrival = arrival }

abbrev pub records_with : List (List ℕ) → List Record
records_with seqs = map (λ (seq : List ℕ). record_with seq 0) seqs

-- the text of such a record in an event of the plain mapping, by its sequence number and its arrival in seconds
abbrev pub shown : List ℕ → List ℕ → List ℕ
shown seq seconds =
    codes "{\"kinesis\":{\"kinesisSchemaVersion\":\"1.0\",\"partitionKey\":\"1\",\"sequenceNumber\":\"" ++ seq
    ++ codes "\",\"data\":\"SGVsbG8=\",\"approximateArrivalTimestamp\":" ++ seconds
    ++ codes "},\"eventSource\":\"aws:kinesis\",\"eventVersion\":\"1.0\",\"eventID\":\"shardId-000000000000:" ++ seq
    ++ codes "\",\"eventName\":\"aws:kinesis:record\",\"invokeIdentityArn\":\"arn:aws:iam::123456789012:role/esm\",\"awsRegion\":\"us-east-1\",\"eventSourceARN\":\"arn:aws:kinesis:us-east-1:123456789012:stream/s\"}"

abbrev pub lane_0 : LaneId
lane_0 = record { shard = 0; lane = 0 }

abbrev pub succeeds : Reply
succeeds = Answered 200 false []

abbrev pub fails : Reply
fails = Answered 200 true []

abbrev pub began : List ℕ → ℕ → Entry
began places moment = Began lane_0 places None moment

abbrev pub ended : Reply → ℕ → Entry
ended reply moment = Ended lane_0 reply moment

abbrev pub gave : List ℕ → Fate → ℕ → Entry
gave places fate moment = Gave (Some lane_0) 0 places fate None None moment

-- the call of this batch, and its end
abbrev pub failed_call : List ℕ → ℕ → List Entry → List Entry
failed_call places moment h = ended fails moment ∷ began places moment ∷ h

abbrev pub good_call : List ℕ → ℕ → List Entry → List Entry
good_call places moment h = gave places Succeeded moment ∷ ended succeeds moment ∷ began places moment ∷ h

-- all `count` records of shard 0 arrived at the moment, and the input ended
abbrev pub all_came : ℕ → ℕ → List Entry
all_came count moment = Shut moment ∷ Came 0 0 count moment ∷ []

-- the success of the record of shard 0 at the place, as found in the journal at opening
abbrev pub found_success : ℕ → List ℕ → FoundFate
found_success place text = record { shard = 0; place = place; fate = Succeeded; text = text }

-- ---- what is said of a history

abbrev pub is_call : Entry → Bool
is_call (Began lane places closing moment) = true
is_call _ = false

-- the calls of a history, oldest first: lanes, places and moments
abbrev pub calls_in : List Entry → List Entry
calls_in h = filter is_call (reverse h)

-- the events of the calls of the batcher that ended, oldest first
abbrev pub events_in : Setting → List Entry → ℕ → List (List ℕ)
events_in s h k = map (λ (c : Called). c.event) (calls s (λ event. event) h k)

-- the fate of each arrived record of the shard, in order of places
abbrev pub fates_in : Setting → List Entry → ℕ → List (Option Fate)
fates_in s h n = map (fate s h n) (came_places h n)

abbrev pub all_have : List Fate → List (Option Fate)
all_have fates = map (λ (f : Fate). Some f) fates

-- the history is legal over the setting, and has these calls and this outcome in shard 0
pub record Runs (s : Setting) (h calls : List Entry) (fates : List Fate) (lines : List (List ℕ)) (point : ℕ) : Type 0 where
  pub is_legal : Legal s h
  pub calls_are : calls_in h ≡ calls
  pub fates_are : fates_in s h 0 ≡ all_have fates
  pub lines_are : lines_of h ≡ lines
  pub checkpoint_is : checkpoint s h 0 ≡ point
