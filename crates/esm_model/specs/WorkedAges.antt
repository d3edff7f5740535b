-- Worked examples: the maximum age of a record.
use Rattle.std.specs.Prelude.{ℕ, List, [], ◌∷◌, ◌++◌, codes, Some, None}
use Rattle.esm_model.specs.declared.config.Config.{Config}
use Rattle.esm_model.specs.declared.entry.Fate.TheVariants.{Succeeded, Expired}
use Rattle.esm_model.specs.declared.entry.Entry.{Entry}
use Rattle.esm_model.specs.declared.entry.Entry.TheVariants.{Gave}
use Rattle.esm_model.specs.Setting.{Setting}
use Rattle.esm_model.specs.Step.{Legal}
use Rattle.esm_model.specs.Worked.{plain_mapping, setting_over, record_with, lane_0, began, good_call, all_came, Runs}

-- a maximum age of a minute, and a destination
abbrev pub aging_mapping : Config
aging_mapping = record plain_mapping { age_ms = Some 60000; destination = Some (codes "arn:aws:sqs:us-east-1:123456789012:d") }

-- `record-age`: a record that arrived at 0

abbrev pub aging : Setting
aging = setting_over aging_mapping (record_with (codes "1") 0 ∷ [])

-- the line of the first record where it expires at 60001
abbrev pub expired_line : List ℕ
expired_line =
    codes "{\"requestContext\":{\"requestId\":\"00000000-0000-8000-8000-000000000000\",\"functionArn\":\"arn:aws:lambda:us-east-1:123456789012:function:f\","
    ++ codes "\"condition\":\"RecordAgeExceeded\",\"approximateInvokeCount\":0},"
    ++ codes "\"version\":\"1.0\",\"timestamp\":\"1970-01-01T00:01:00.001Z\","
    ++ codes "\"KinesisBatchInfo\":{\"shardId\":\"shardId-000000000000\",\"startSequenceNumber\":\"1\",\"endSequenceNumber\":\"1\","
    ++ codes "\"approximateArrivalOfFirstRecord\":\"1970-01-01T00:00:00.000Z\",\"approximateArrivalOfLastRecord\":\"1970-01-01T00:00:00.000Z\","
    ++ codes "\"batchSize\":1,\"streamArn\":\"arn:aws:kinesis:us-east-1:123456789012:stream/s\"}}"

abbrev pub expired_at : ℕ → List Entry → List Entry
expired_at moment h = Gave (Some lane_0) 0 (0 ∷ []) Expired (Some expired_line) None moment ∷ h

-- at 60000 the record is called; at 60001 it has expired, without a call and with its failure line
pub record RecordAge : Type 0 where
  pub in_time : Runs aging (good_call (0 ∷ []) 60000 (all_came 1 60000)) (began (0 ∷ []) 60000 ∷ []) (Succeeded ∷ []) [] 1
  pub too_old : Runs aging (expired_at 60001 (all_came 1 60001)) [] (Expired ∷ []) (expired_line ∷ []) 1

-- a record that is too old may not be called
abbrev pub LateCallIsNotLegal : Type 0
LateCallIsNotLegal = ¬ Legal aging (began (0 ∷ []) 60001 ∷ all_came 1 60001)

-- `age-edge`: records that arrived at 0 and 1; at 60001 the first has expired, and the second is called

abbrev pub aging_pair : Setting
aging_pair = setting_over aging_mapping (record_with (codes "1") 0 ∷ record_with (codes "2") 1 ∷ [])

abbrev pub AgeEdge : Type 0
AgeEdge = Runs aging_pair (good_call (1 ∷ []) 60001 (expired_at 60001 (all_came 2 60001))) (began (1 ∷ []) 60001 ∷ []) (Expired ∷ Succeeded ∷ []) (expired_line ∷ []) 2
