-- Worked examples of redrives, `redrive-one`, `redrive-found` and `redrive-fifo`: a setting, a history with its newest entry
-- first, and what the definitions say of it.
use Rattle.std.specs.Prelude.{◌≡◌, ℕ, List, [], ◌∷◌, codes, Some, None}
use Rattle.esm_model.specs.declared.config.Kind.TheVariants.{Standard, Fifo}
use Rattle.esm_model.specs.declared.item.Message.{Message}
use Rattle.esm_model.specs.declared.entry.Fate.TheVariants.{Exhausted}
use Rattle.esm_model.specs.declared.entry.Entry.{Entry}
use Rattle.esm_model.specs.declared.entry.Entry.TheVariants.{Came, Gave, Shut}
use Rattle.esm_model.specs.Books.{lines_of}
use Rattle.esm_model.specs.Worked.{lane_0, calls_in, began, failed_call, good_call, all_came}
use Rattle.esm_queue_model.specs.QueueSetting.{QueueSetting}
use Rattle.esm_queue_model.specs.QueueEntries.{waiting}
use Rattle.esm_queue_model.specs.WorkedHistories.{queue_mapping, queue_setting, message, plain_message}
use Rattle.esm_redrive_model.specs.RedriveSetting.{RedriveSetting}
use Rattle.esm_redrive_model.specs.Due.{due, known}
use Rattle.esm_redrive_model.specs.RedriveStep.{LegalRedrive}
use Rattle.esm_redrive_model.specs.RedriveReport.{redrive_text}

-- the message at the place is moved with this line
abbrev pub moved : ℕ → List ℕ → ℕ → Entry
moved place line moment = Gave (Some lane_0) 0 (place ∷ []) Exhausted (Some line) None moment

-- the history is legal over the setting, and has these calls and lines, messages that wait after it, and report
pub record RedriveRuns (s : RedriveSetting) (h calls : List Entry) (lines : List (List ℕ)) (left text : List ℕ) : Type 0 where
  pub is_legal : LegalRedrive s h
  pub calls_are : calls_in h ≡ calls
  pub lines_are : lines_of h ≡ lines
  pub left_are : waiting s.queue h ≡ left
  pub text_is : redrive_text s h ≡ text

-- `redrive-one`: one message, which always fails and may be received twice

abbrev pub one_message : QueueSetting
one_message = queue_setting (queue_mapping Standard) (plain_message (codes "a") ∷ [])

abbrev pub twice : RedriveSetting
twice = record { queue = one_message; max_receives = 2; dead_ids = [] }

abbrev pub line_a : List ℕ
line_a = codes "{\"messageId\":\"a\",\"body\":\"x\",\"sentTimestamp\":0}"

abbrev pub failed_once : List Entry
failed_once = failed_call (0 ∷ []) 0 (all_came 1 0)

abbrev pub failed_twice : List Entry
failed_twice = failed_call (0 ∷ []) 30000 failed_once

pub record RedriveOne : Type 0 where
  pub not_yet : due twice failed_once 30000 ≡ []
  pub hidden : due twice failed_twice 59999 ≡ []
  pub now : due twice failed_twice 60000 ≡ 0 ∷ []
  pub runs : RedriveRuns twice (moved 0 line_a 60000 ∷ failed_twice) (began (0 ∷ []) 0 ∷ began (0 ∷ []) 30000 ∷ []) (line_a ∷ []) [] (codes "queue messages 1 deleted 1 succeeded 0 filtered 0 moved 1")

-- with only two calls allowed, the calls are spent while the message is hidden
abbrev pub two_calls : RedriveSetting
two_calls = record twice { queue = record one_message { calls = 2 } }

abbrev pub RedriveSpent : Type 0
RedriveSpent = RedriveRuns two_calls failed_twice (began (0 ∷ []) 0 ∷ began (0 ∷ []) 30000 ∷ []) [] (0 ∷ []) (codes "queue messages 1 deleted 0 succeeded 0 filtered 0 moved 0")

-- the message may not be moved one receive too early, while it is hidden, or without its line; nor may it be called once it
-- is due
pub record NearRedriveOne : Type 0 where
  pub early : ¬ LegalRedrive twice (moved 0 line_a 30000 ∷ failed_once)
  pub while_hidden : ¬ LegalRedrive twice (moved 0 line_a 59999 ∷ failed_twice)
  pub without_line : ¬ LegalRedrive twice (Gave (Some lane_0) 0 (0 ∷ []) Exhausted None None 60000 ∷ failed_twice)
  pub called_when_due : ¬ LegalRedrive twice (began (0 ∷ []) 60000 ∷ failed_twice)

-- `redrive-found`: the message's line is in the dead-letter file, but no deletion is in the journal

abbrev pub found_a : RedriveSetting
found_a = record twice { dead_ids = codes "a" ∷ [] }

abbrev pub came_known : List Entry
came_known = Came 0 0 1 0 ∷ []

abbrev pub recorded : List Entry
recorded = Gave None 0 (0 ∷ []) Exhausted None None 0 ∷ came_known

pub record RedriveFound : Type 0 where
  pub is_known : known found_a came_known ≡ 0 ∷ []
  pub runs : RedriveRuns found_a (Shut 0 ∷ recorded) [] [] [] (codes "queue messages 1 deleted 1 succeeded 0 filtered 0 moved 1")

-- before the message is recorded, the input may not end and the message may not be called; no second line may be written
pub record NearRedriveFound : Type 0 where
  pub unrecorded : ¬ LegalRedrive found_a (Shut 0 ∷ came_known)
  pub called : ¬ LegalRedrive found_a (began (0 ∷ []) 0 ∷ came_known)
  pub second_line : ¬ LegalRedrive found_a (moved 0 line_a 0 ∷ came_known)

-- `redrive-fifo`: two messages of one group in batches of one; the first always fails, and each may be received once

abbrev pub of_group : List ℕ → Message
of_group id = message id (Some (codes "g")) (codes "x")

abbrev pub one_group : QueueSetting
one_group = queue_setting (record (queue_mapping Fifo) { batch_size = 1 }) (of_group (codes "a") ∷ of_group (codes "b") ∷ [])

abbrev pub once : RedriveSetting
once = record { queue = one_group; max_receives = 1; dead_ids = [] }

abbrev pub grouped_line : List ℕ
grouped_line = codes "{\"messageId\":\"a\",\"body\":\"x\",\"sentTimestamp\":0,\"messageGroupId\":\"g\"}"

abbrev pub first_failed : List Entry
first_failed = failed_call (0 ∷ []) 0 (all_came 2 0)

abbrev pub first_moved : List Entry
first_moved = moved 0 grouped_line 30000 ∷ first_failed

abbrev pub RedriveFifo : Type 0
RedriveFifo = RedriveRuns once (good_call (1 ∷ []) 30000 first_moved) (began (0 ∷ []) 0 ∷ began (1 ∷ []) 30000 ∷ []) (grouped_line ∷ []) [] (codes "queue messages 2 deleted 2 succeeded 1 filtered 0 moved 1")

-- the second may not be called before the first while that is hidden or due, and the line may not omit its group
pub record NearRedriveFifo : Type 0 where
  pub past_hidden : ¬ LegalRedrive once (began (1 ∷ []) 29999 ∷ first_failed)
  pub past_due : ¬ LegalRedrive once (began (1 ∷ []) 30000 ∷ first_failed)
  pub without_group : ¬ LegalRedrive once (moved 0 line_a 30000 ∷ first_failed)
