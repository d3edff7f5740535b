-- Worked examples: batches that fail, whole or halved.
use Rattle.std.specs.Prelude.{◌≡◌, ℕ, List, [], ◌∷◌, ◌++◌, codes, Some, None, true, false}
use Rattle.esm_model.specs.Records.{Record}
use Rattle.esm_model.specs.declared.entry.Fate.TheVariants.{Succeeded, Exhausted}
use Rattle.esm_model.specs.declared.entry.Reply.{Reply}
use Rattle.esm_model.specs.declared.entry.Reply.TheVariants.{Answered}
use Rattle.esm_model.specs.declared.entry.Entry.{Entry}
use Rattle.esm_model.specs.declared.entry.Entry.TheVariants.{Gave}
use Rattle.esm_model.specs.Setting.{Setting}
use Rattle.esm_model.specs.Checkpoint.{checkpoint}
use Rattle.esm_model.specs.Step.{Legal}
use Rattle.esm_model.specs.Worked.{plain_mapping, setting_over, records_with, lane_0, began, ended, gave, failed_call, good_call, all_came, found_success, Runs}

-- `bisect-eight`: eight records, halving, no retries; every call that holds the fifth record fails

abbrev pub eight_records : List Record
eight_records = records_with (codes "1" ∷ codes "2" ∷ codes "3" ∷ codes "4" ∷ codes "5" ∷ codes "6" ∷ codes "7" ∷ codes "8" ∷ [])

abbrev pub bisecting : Setting
bisecting = setting_over (record plain_mapping { bisect = true; retries = Some 0 }) eight_records

abbrev pub after_call_1 : List Entry
after_call_1 = failed_call (0 ∷ 1 ∷ 2 ∷ 3 ∷ 4 ∷ 5 ∷ 6 ∷ 7 ∷ []) 0 (all_came 8 0)

abbrev pub after_call_3 : List Entry
after_call_3 = failed_call (4 ∷ 5 ∷ 6 ∷ 7 ∷ []) 0 (good_call (0 ∷ 1 ∷ 2 ∷ 3 ∷ []) 0 after_call_1)

-- the fifth record is called alone, and given up
abbrev pub after_call_5 : List Entry
after_call_5 = gave (4 ∷ []) Exhausted 0 ∷ failed_call (4 ∷ []) 0 (failed_call (4 ∷ 5 ∷ []) 0 after_call_3)

abbrev pub after_call_7 : List Entry
after_call_7 = good_call (6 ∷ 7 ∷ []) 0 (good_call (5 ∷ []) 0 after_call_5)

-- seven calls, and the checkpoint 8
abbrev pub BisectEight : Type 0
BisectEight =
    Runs bisecting after_call_7
    (began (0 ∷ 1 ∷ 2 ∷ 3 ∷ 4 ∷ 5 ∷ 6 ∷ 7 ∷ []) 0 ∷ began (0 ∷ 1 ∷ 2 ∷ 3 ∷ []) 0 ∷ began (4 ∷ 5 ∷ 6 ∷ 7 ∷ []) 0 ∷ began (4 ∷ 5 ∷ []) 0 ∷ began (4 ∷ []) 0 ∷ began (5 ∷ []) 0 ∷ began (6 ∷ 7 ∷ []) 0 ∷ [])
    (Succeeded ∷ Succeeded ∷ Succeeded ∷ Succeeded ∷ Exhausted ∷ Succeeded ∷ Succeeded ∷ Succeeded ∷ []) [] 8

-- a batch that is one record short may not begin
abbrev pub ShortBatchIsNotLegal : Type 0
ShortBatchIsNotLegal = ¬ Legal bisecting (began (0 ∷ 1 ∷ 2 ∷ 3 ∷ 4 ∷ 5 ∷ 6 ∷ []) 0 ∷ all_came 8 0)

-- the later half of a halved batch may not go first
abbrev pub LaterHalfIsNotLegal : Type 0
LaterHalfIsNotLegal = ¬ Legal bisecting (began (4 ∷ 5 ∷ 6 ∷ 7 ∷ []) 0 ∷ after_call_1)

-- `exhaust-eight`: the same eight records without halving, and a destination

abbrev pub exhausting : Setting
exhausting = setting_over (record plain_mapping { retries = Some 0; destination = Some (codes "arn:aws:sqs:us-east-1:123456789012:d") }) eight_records

abbrev pub exhausted_line : List ℕ
exhausted_line =
    codes "{\"requestContext\":{\"requestId\":\"00000000-0000-8000-8000-000000000000\",\"functionArn\":\"arn:aws:lambda:us-east-1:123456789012:function:f\","
    ++ codes "\"condition\":\"RetryAttemptsExhausted\",\"approximateInvokeCount\":1},"
    ++ codes "\"responseContext\":{\"statusCode\":200,\"executedVersion\":\"$LATEST\",\"functionError\":\"Unhandled\"},"
    ++ codes "\"version\":\"1.0\",\"timestamp\":\"1970-01-01T00:00:00.000Z\","
    ++ codes "\"KinesisBatchInfo\":{\"shardId\":\"shardId-000000000000\",\"startSequenceNumber\":\"1\",\"endSequenceNumber\":\"8\","
    ++ codes "\"approximateArrivalOfFirstRecord\":\"1970-01-01T00:00:00.000Z\",\"approximateArrivalOfLastRecord\":\"1970-01-01T00:00:00.000Z\","
    ++ codes "\"batchSize\":8,\"streamArn\":\"arn:aws:kinesis:us-east-1:123456789012:stream/s\"}}"

abbrev pub exhausted_history : List Entry
exhausted_history = Gave (Some lane_0) 0 (0 ∷ 1 ∷ 2 ∷ 3 ∷ 4 ∷ 5 ∷ 6 ∷ 7 ∷ []) Exhausted (Some exhausted_line) None 0 ∷ after_call_1

-- one call, and one line for all eight
abbrev pub ExhaustEight : Type 0
ExhaustEight =
    Runs exhausting exhausted_history (began (0 ∷ 1 ∷ 2 ∷ 3 ∷ 4 ∷ 5 ∷ 6 ∷ 7 ∷ []) 0 ∷ [])
    (Exhausted ∷ Exhausted ∷ Exhausted ∷ Exhausted ∷ Exhausted ∷ Exhausted ∷ Exhausted ∷ Exhausted ∷ []) (exhausted_line ∷ []) 8

-- `bisect-item-failures`: four records, halving, no retries; every call that holds the first record reports it

abbrev pub halving_reports : Setting
halving_reports = setting_over (record plain_mapping { bisect = true; item_failures = true; retries = Some 0 }) (records_with (codes "1" ∷ codes "2" ∷ codes "3" ∷ codes "4" ∷ []))

abbrev pub reports_first : Reply
reports_first = Answered 200 false (codes "{\"batchItemFailures\":[{\"itemIdentifier\":\"1\"}]}")

abbrev pub reported_call : List ℕ → List Entry → List Entry
reported_call places h = ended reports_first 0 ∷ began places 0 ∷ h

abbrev pub first_given_up : List Entry
first_given_up = gave (0 ∷ []) Exhausted 0 ∷ reported_call (0 ∷ []) (reported_call (0 ∷ 1 ∷ []) (reported_call (0 ∷ 1 ∷ 2 ∷ 3 ∷ []) (all_came 4 0)))

-- five calls; the first record is given up
abbrev pub BisectItemFailures : Type 0
BisectItemFailures =
    Runs halving_reports (good_call (2 ∷ 3 ∷ []) 0 (good_call (1 ∷ []) 0 first_given_up))
    (began (0 ∷ 1 ∷ 2 ∷ 3 ∷ []) 0 ∷ began (0 ∷ 1 ∷ []) 0 ∷ began (0 ∷ []) 0 ∷ began (1 ∷ []) 0 ∷ began (2 ∷ 3 ∷ []) 0 ∷ [])
    (Exhausted ∷ Succeeded ∷ Succeeded ∷ Succeeded ∷ []) [] 4

-- `budget-and-restart`: after three calls of `bisect-eight` a second run finds the first four fates in the journal, and no
-- trace of the halving

abbrev pub bisecting_again : Setting
bisecting_again = record bisecting { fates = found_success 0 (codes "1") ∷ found_success 1 (codes "2") ∷ found_success 2 (codes "3") ∷ found_success 3 (codes "4") ∷ [] }

abbrev pub fifth_given_up : List Entry
fifth_given_up = gave (4 ∷ []) Exhausted 0 ∷ failed_call (4 ∷ []) 0 (failed_call (4 ∷ 5 ∷ []) 0 (failed_call (4 ∷ 5 ∷ 6 ∷ 7 ∷ []) 0 (all_came 8 0)))

-- the first run may make three calls
abbrev pub bisecting_thrice : Setting
bisecting_thrice = record bisecting { calls = 3 }

-- the first run leaves the checkpoint at 4; the second continues there and makes five calls
pub record BudgetAndRestart : Type 0 where
  pub first_run : Legal bisecting_thrice after_call_3
  pub checkpoint_left : checkpoint bisecting_thrice after_call_3 0 ≡ 4
  pub runs : Runs bisecting_again (good_call (6 ∷ 7 ∷ []) 0 (good_call (5 ∷ []) 0 fifth_given_up))
      (began (4 ∷ 5 ∷ 6 ∷ 7 ∷ []) 0 ∷ began (4 ∷ 5 ∷ []) 0 ∷ began (4 ∷ []) 0 ∷ began (5 ∷ []) 0 ∷ began (6 ∷ 7 ∷ []) 0 ∷ [])
      (Succeeded ∷ Succeeded ∷ Succeeded ∷ Succeeded ∷ Exhausted ∷ Succeeded ∷ Succeeded ∷ Succeeded ∷ []) [] 8
  pub checkpoint_found : checkpoint bisecting_again (all_came 8 0) 0 ≡ 4

-- the first run may make no fourth call
abbrev pub FourthCallIsNotLegal : Type 0
FourthCallIsNotLegal = ¬ Legal bisecting_thrice (began (4 ∷ 5 ∷ []) 0 ∷ after_call_3)
