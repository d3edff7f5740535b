-- Worked examples: what answers report, and how it counts.
use Rattle.std.specs.Prelude.{◌≡◌, ℕ, List, [], ◌∷◌, ◌++◌, codes, replicate, Some, None, true, false}
use Rattle.esm_model.specs.declared.entry.Fate.{Fate}
use Rattle.esm_model.specs.declared.entry.Fate.TheVariants.{Succeeded, Exhausted}
use Rattle.esm_model.specs.declared.entry.Reply.{Reply}
use Rattle.esm_model.specs.declared.entry.Reply.TheVariants.{Answered}
use Rattle.esm_model.specs.declared.entry.Entry.{Entry}
use Rattle.esm_model.specs.declared.entry.Entry.TheVariants.{Tried}
use Rattle.esm_model.specs.Setting.{Setting}
use Rattle.esm_model.specs.Batches.{delay_end}
use Rattle.esm_model.specs.Worked.{plain_mapping, setting_over, records_with, lane_0, began, ended, gave, good_call, all_came, Runs}

-- `partial-failure`: eight records, the first answer reports the seventh and the fourth

abbrev pub reporting : Setting
reporting =
    setting_over (record plain_mapping { item_failures = true })
    (records_with (codes "101" ∷ codes "102" ∷ codes "103" ∷ codes "104" ∷ codes "105" ∷ codes "106" ∷ codes "107" ∷ codes "108" ∷ []))

abbrev pub reports : Reply
reports = Answered 200 false (codes "{\"batchItemFailures\":[{\"itemIdentifier\":\"107\"},{\"itemIdentifier\":\"104\"}]}")

-- the records before the least position that is reported succeeded, and the rest counts one try
abbrev pub after_report : List Entry
after_report =
    Tried lane_0 (3 ∷ 4 ∷ 5 ∷ 6 ∷ 7 ∷ []) None 1 0 ∷ gave (0 ∷ 1 ∷ 2 ∷ []) Succeeded 0
    ∷ ended reports 0 ∷ began (0 ∷ 1 ∷ 2 ∷ 3 ∷ 4 ∷ 5 ∷ 6 ∷ 7 ∷ []) 0 ∷ all_came 8 0

pub record PartialFailure : Type 0 where
  pub runs : Runs reporting (good_call (3 ∷ 4 ∷ 5 ∷ 6 ∷ 7 ∷ []) 250 after_report) (began (0 ∷ 1 ∷ 2 ∷ 3 ∷ 4 ∷ 5 ∷ 6 ∷ 7 ∷ []) 0 ∷ began (3 ∷ 4 ∷ 5 ∷ 6 ∷ 7 ∷ []) 250 ∷ []) (Succeeded ∷ Succeeded ∷ Succeeded ∷ Succeeded ∷ Succeeded ∷ Succeeded ∷ Succeeded ∷ Succeeded ∷ []) [] 8
  pub second : delay_end reporting after_report lane_0 ≡ 250

-- `item-failures-counted`: three records, one retry; every answer reports the second

abbrev pub counting : Setting
counting = setting_over (record plain_mapping { item_failures = true; retries = Some 1 }) (records_with (codes "1" ∷ codes "2" ∷ codes "3" ∷ []))

abbrev pub reports_second : Reply
reports_second = Answered 200 false (codes "{\"batchItemFailures\":[{\"itemIdentifier\":\"2\"}]}")

-- the second call has the second and the third record, and both are given up
abbrev pub counted_history : List Entry
counted_history =
    gave (1 ∷ 2 ∷ []) Exhausted 250 ∷ ended reports_second 250 ∷ began (1 ∷ 2 ∷ []) 250
    ∷ Tried lane_0 (1 ∷ 2 ∷ []) None 1 0 ∷ gave (0 ∷ []) Succeeded 0 ∷ ended reports_second 0 ∷ began (0 ∷ 1 ∷ 2 ∷ []) 0 ∷ all_came 3 0

abbrev pub ItemFailuresCounted : Type 0
ItemFailuresCounted = Runs counting counted_history (began (0 ∷ 1 ∷ 2 ∷ []) 0 ∷ began (1 ∷ 2 ∷ []) 250 ∷ []) (Succeeded ∷ Exhausted ∷ Exhausted ∷ []) [] 3

-- ---- bodies: one record with the sequence number 1, item failures, no retries

abbrev pub one_reporting : Setting
one_reporting = setting_over (record plain_mapping { item_failures = true; retries = Some 0 }) (records_with (codes "1" ∷ []))

abbrev pub answered : List ℕ → Fate → List Entry
answered body fate = gave (0 ∷ []) fate 0 ∷ ended (Answered 200 false body) 0 ∷ began (0 ∷ []) 0 ∷ all_came 1 0

-- the record is called with this answer, and then has the fate
abbrev pub Gives : List ℕ → Fate → Type 0
Gives body fate = Runs one_reporting (answered body fate) (began (0 ∷ []) 0 ∷ []) (fate ∷ []) [] 1

-- `answer-bodies`
pub record AnswerBodies : Type 0 where
  pub null_list : Gives (codes "{\"batchItemFailures\":null}") Succeeded
  pub empty_list : Gives (codes "{\"batchItemFailures\":[]}") Succeeded
  pub no_list : Gives (codes "{}") Succeeded
  pub null : Gives (codes "null") Succeeded
  pub nothing : Gives [] Succeeded
  pub empty_identifier : Gives (codes "{\"batchItemFailures\":[{\"itemIdentifier\":\"\"}]}") Exhausted
  pub unknown_identifier : Gives (codes "{\"batchItemFailures\":[{\"itemIdentifier\":\"9\"}]}") Exhausted
  pub number : Gives (codes "7") Exhausted

-- `hostile-bodies`
pub record HostileBodies : Type 0 where
  pub number_identifier : Gives (codes "{\"batchItemFailures\":[{\"itemIdentifier\":7}]}") Exhausted
  pub object : Gives (codes "{\"batchItemFailures\":{}}") Exhausted
  pub list : Gives (codes "[]") Exhausted
  pub no_identifier : Gives (codes "{\"batchItemFailures\":[{}]}") Exhausted
  pub deep : Gives (replicate 200 91 ++ replicate 200 93) Exhausted
  pub other_key : Gives (codes "{\"other\":1}") Succeeded
