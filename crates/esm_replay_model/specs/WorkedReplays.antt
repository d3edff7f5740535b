-- Worked examples of replays: a setting, a history with its newest entry first, and what the definitions say of it.
use Rattle.std.specs.Prelude.{◌≡◌, ℕ, true, false, List, [], ◌∷◌, codes, map, Some, None}
use Rattle.esm_model.specs.declared.entry.Fate.{Fate}
use Rattle.esm_model.specs.declared.entry.Fate.TheVariants.{Succeeded, Exhausted}
use Rattle.esm_model.specs.declared.entry.Entry.{Entry}
use Rattle.esm_model.specs.declared.entry.Entry.TheVariants.{Replayed}
use Rattle.esm_model.specs.declared.entry.Reply.{Reply}
use Rattle.esm_model.specs.declared.entry.Reply.TheVariants.{Answered}
use Rattle.esm_model.specs.declared.setup.FoundFate.{FoundFate}
use Rattle.esm_model.specs.Worked.{plain_mapping, setting_over, began, ended, succeeds, fails, calls_in}
use Rattle.esm_model.specs.WorkedSplits.{eight_records, exhausted_line}
use Rattle.esm_replay_model.specs.declared.range.Range.{Range}
use Rattle.esm_replay_model.specs.ReplaySetting.{ReplaySetting}
use Rattle.esm_replay_model.specs.FailureRange.{failure_range}
use Rattle.esm_replay_model.specs.Pieces.{ReplayPiece, piece}
use Rattle.esm_replay_model.specs.ReplayRun.{IsReplay, pieces_left}
use Rattle.esm_replay_model.specs.ReplayReport.{replay_text}

-- the fate of the record of shard 0 at the place, as found in the journal at opening
abbrev pub found_with : Fate → ℕ → List ℕ → FoundFate
found_with fate place text = record { shard = 0; place = place; fate = fate; text = text }

abbrev pub given_up_at : ℕ → List ℕ → FoundFate
given_up_at place text = found_with Exhausted place text

-- the range of a failure line of shard 0
abbrev pub range_of : List ℕ → List ℕ → Range
range_of first last = record { shard = 0; first = first; last = last }

-- the line of `exhaust-eight` names all eight records; a text that is no JSON, a line of a DynamoDB stream, and a line whose
-- first number is greater than its last name none
pub record FailureRanges : Type 0 where
  pub eight_named : failure_range exhausted_line ≡ Some (range_of (codes "1") (codes "8"))
  pub no_json : failure_range (codes "x") ≡ None
  pub other_stream : failure_range (codes "{\"DDBStreamBatchInfo\":{\"shardId\":\"shardId-000000000000\",\"startSequenceNumber\":\"1\",\"endSequenceNumber\":\"8\"}}") ≡ None
  pub backwards : failure_range (codes "{\"KinesisBatchInfo\":{\"shardId\":\"shardId-000000000000\",\"startSequenceNumber\":\"10\",\"endSequenceNumber\":\"8\"}}") ≡ None

-- the history is a run over the setting, and has these calls, pieces still to be called, and report
pub record Replays (s : ReplaySetting) (h calls : List Entry) (left : List ReplayPiece) (text : List ℕ) : Type 0 where
  pub is_run : IsReplay s h
  pub calls_are : calls_in h ≡ calls
  pub left_are : pieces_left s h ≡ left
  pub text_is : replay_text s h ≡ text

-- `replay-eight`: eight records were given up together, and one failure line names them

abbrev pub eight : List ℕ
eight = 0 ∷ 1 ∷ 2 ∷ 3 ∷ 4 ∷ 5 ∷ 6 ∷ 7 ∷ []

abbrev pub eight_given_up : List FoundFate
eight_given_up =
    given_up_at 0 (codes "1") ∷ given_up_at 1 (codes "2") ∷ given_up_at 2 (codes "3") ∷ given_up_at 3 (codes "4")
    ∷ given_up_at 4 (codes "5") ∷ given_up_at 5 (codes "6") ∷ given_up_at 6 (codes "7") ∷ given_up_at 7 (codes "8") ∷ []

abbrev pub replaying : ReplaySetting
replaying = record {
  base = record (setting_over (record plain_mapping { retries = Some 0 }) eight_records) { fates = eight_given_up };
  ranges = range_of (codes "1") (codes "8") ∷ [];
  replays = [];
}

-- a call that succeeds
abbrev pub replayed_call : List ℕ → List Entry → List Entry
replayed_call places h = Replayed 0 places 0 ∷ ended succeeds 0 ∷ began places 0 ∷ h

-- a call that ends with the function error
abbrev pub left_call : List ℕ → List Entry → List Entry
left_call places h = ended fails 0 ∷ began places 0 ∷ h

-- the same folder again: the replays are found in its journal
abbrev pub replaying_again : ReplaySetting
replaying_again = record replaying { replays = map (λ (i : ℕ). record { shard = 0; place = i }) eight }

-- one call replays all eight; a second replay has nothing to call
pub record ReplayEight : Type 0 where
  pub runs : Replays replaying (replayed_call eight []) (began eight 0 ∷ []) [] (codes "replay named 8 replayed 8 left 0")
  pub again : Replays replaying_again [] [] [] (codes "replay named 0 replayed 0 left 0")

-- a call that omits a record that fits may not begin
abbrev pub ShortCallIsNoReplay : Type 0
ShortCallIsNoReplay = ¬ IsReplay replaying (began (0 ∷ 1 ∷ 2 ∷ 3 ∷ 4 ∷ 5 ∷ 6 ∷ []) 0 ∷ [])

-- records that failed are not replayed
abbrev pub FailedIsNotReplayed : Type 0
FailedIsNotReplayed = ¬ IsReplay replaying (Replayed 0 eight 0 ∷ left_call eight [])

-- what was replayed is not called again
abbrev pub SecondCallIsNoReplay : Type 0
SecondCallIsNoReplay = ¬ IsReplay replaying_again (began eight 0 ∷ [])

-- without calls all eight are left
abbrev pub without_calls : ReplaySetting
without_calls = record replaying { base = record replaying.base { calls = 0 } }

pub record NoCallsAllowed : Type 0 where
  pub runs : Replays without_calls [] [] (piece 0 eight ∷ []) (codes "replay named 8 replayed 0 left 8")
  pub none_begins : ¬ IsReplay without_calls (began eight 0 ∷ [])

-- `replay-edges`: one record of eight was given up, and fails again

abbrev pub one_given_up : ReplaySetting
one_given_up = record {
  base = record (setting_over (record plain_mapping { bisect = true; retries = Some 0 }) eight_records) {
    fates =
        found_with Succeeded 0 (codes "1") ∷ found_with Succeeded 1 (codes "2") ∷ found_with Succeeded 2 (codes "3") ∷ found_with Succeeded 3 (codes "4")
        ∷ given_up_at 4 (codes "5") ∷ found_with Succeeded 5 (codes "6") ∷ found_with Succeeded 6 (codes "7") ∷ found_with Succeeded 7 (codes "8") ∷ [];
  };
  ranges = range_of (codes "5") (codes "5") ∷ [];
  replays = [];
}

pub record ReplayEdges : Type 0 where
  pub runs : Replays one_given_up (left_call (4 ∷ []) []) (began (4 ∷ []) 0 ∷ []) [] (codes "replay named 1 replayed 0 left 1")

-- a record that is not named is not called, though its fate is found
abbrev pub UnnamedIsNotCalled : Type 0
UnnamedIsNotCalled = ¬ IsReplay one_given_up (began (3 ∷ 4 ∷ []) 0 ∷ [])

-- a record that was given up, and that no line names
abbrev pub in_no_line : ReplaySetting
in_no_line = record one_given_up { ranges = range_of (codes "6") (codes "10") ∷ [] }

abbrev pub UnlistedIsNotNamed : Type 0
UnlistedIsNotNamed = Replays in_no_line [] [] [] (codes "replay named 0 replayed 0 left 0")

-- eight records that were given up are halved; each call with the fifth one fails

abbrev pub halving : ReplaySetting
halving = record replaying { base = record replaying.base { config = record plain_mapping { bisect = true; batch_size = 6 } } }

abbrev pub first_halves : List Entry
first_halves = left_call (0 ∷ 1 ∷ 2 ∷ 3 ∷ 4 ∷ 5 ∷ []) []

abbrev pub fifth_left : List Entry
fifth_left = left_call (4 ∷ []) (replayed_call (3 ∷ []) (left_call (3 ∷ 4 ∷ []) (left_call (3 ∷ 4 ∷ 5 ∷ []) (replayed_call (0 ∷ 1 ∷ 2 ∷ []) first_halves))))

-- a batch of six is taken from the front, and its halves are called before the two records after it; the fifth record is
-- left
pub record HalvedReplay : Type 0 where
  pub halves : pieces_left halving first_halves ≡ piece 0 (0 ∷ 1 ∷ 2 ∷ []) ∷ piece 0 (3 ∷ 4 ∷ 5 ∷ []) ∷ piece 0 (6 ∷ 7 ∷ []) ∷ []
  pub runs : Replays halving (replayed_call (6 ∷ 7 ∷ []) (replayed_call (5 ∷ []) fifth_left))
      (began (0 ∷ 1 ∷ 2 ∷ 3 ∷ 4 ∷ 5 ∷ []) 0 ∷ began (0 ∷ 1 ∷ 2 ∷ []) 0 ∷ began (3 ∷ 4 ∷ 5 ∷ []) 0 ∷ began (3 ∷ 4 ∷ []) 0 ∷ began (3 ∷ []) 0 ∷ began (4 ∷ []) 0 ∷ began (5 ∷ []) 0 ∷ began (6 ∷ 7 ∷ []) 0 ∷ [])
      [] (codes "replay named 8 replayed 7 left 1")

-- the later half may not be called first
abbrev pub LaterHalfIsNoReplay : Type 0
LaterHalfIsNoReplay = ¬ IsReplay halving (began (3 ∷ 4 ∷ 5 ∷ []) 0 ∷ first_halves)

-- an answer reports the third of four records

abbrev pub reporting : ReplaySetting
reporting = record replaying {
  base = record replaying.base {
    config = record plain_mapping { bisect = true; item_failures = true };
    fates = given_up_at 0 (codes "1") ∷ given_up_at 1 (codes "2") ∷ given_up_at 2 (codes "3") ∷ given_up_at 3 (codes "4") ∷ [];
  };
}

abbrev pub reports_third : Reply
reports_third = Answered 200 false (codes "{\"batchItemFailures\":[{\"itemIdentifier\":\"3\"}]}")

-- the two records before it are replayed; it is called again together with the one after it, and the two are halved when
-- they fail
pub record ReportedReplay : Type 0 where
  pub runs : Replays reporting
      (left_call (2 ∷ 3 ∷ []) (Replayed 0 (0 ∷ 1 ∷ []) 0 ∷ ended reports_third 0 ∷ began (0 ∷ 1 ∷ 2 ∷ 3 ∷ []) 0 ∷ []))
      (began (0 ∷ 1 ∷ 2 ∷ 3 ∷ []) 0 ∷ began (2 ∷ 3 ∷ []) 0 ∷ [])
      (piece 0 (2 ∷ []) ∷ piece 0 (3 ∷ []) ∷ []) (codes "replay named 4 replayed 2 left 2")
