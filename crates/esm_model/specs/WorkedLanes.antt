-- Worked examples: two lanes of a shard.
use Rattle.std.specs.Prelude.{◌≡◌, List, [], ◌∷◌, codes, Some, None}
use Rattle.esm_model.specs.Records.{Record}
use Rattle.esm_model.specs.declared.lane.LaneId.{LaneId}
use Rattle.esm_model.specs.declared.entry.Fate.TheVariants.{Succeeded, Exhausted}
use Rattle.esm_model.specs.declared.entry.Entry.{Entry}
use Rattle.esm_model.specs.declared.entry.Entry.TheVariants.{Began, Ended, Gave, Tried}
use Rattle.esm_model.specs.Setting.{Setting}
use Rattle.esm_model.specs.Checkpoint.{checkpoint, spread}
use Rattle.esm_model.specs.Worked.{plain_mapping, setting_over, record_with, lane_0, fails, succeeds, all_came, Runs}

-- `two-lanes`: two lanes, one retry; the first record, with the key `1`, is of lane 1 and always fails; the second, with
-- the key `2`, is of lane 0

abbrev pub lane_1 : LaneId
lane_1 = record { shard = 0; lane = 1 }

abbrev pub second_record : Record
second_record = record (record_with (codes "2") 0) { key = codes "2" }

abbrev pub in_two_lanes : Setting
in_two_lanes = setting_over (record plain_mapping { factor = 2; retries = Some 1 }) (record_with (codes "1") 0 ∷ second_record ∷ [])

-- both calls run at once, and that of lane 0 ends first
abbrev pub second_done : List Entry
second_done =
    Gave (Some lane_0) 0 (1 ∷ []) Succeeded None None 0
    ∷ Ended lane_0 succeeds 0 ∷ Began lane_0 (1 ∷ []) None 0 ∷ Began lane_1 (0 ∷ []) None 0 ∷ all_came 2 0

abbrev pub both_done : List Entry
both_done =
    Gave (Some lane_1) 0 (0 ∷ []) Exhausted None None 250
    ∷ Ended lane_1 fails 250 ∷ Began lane_1 (0 ∷ []) None 250
    ∷ Tried lane_1 (0 ∷ []) None 1 0 ∷ Ended lane_1 fails 0 ∷ second_done

-- three calls; the checkpoint waits for the first record
pub record TwoLanes : Type 0 where
  pub runs : Runs in_two_lanes both_done (Began lane_1 (0 ∷ []) None 0 ∷ Began lane_0 (1 ∷ []) None 0 ∷ Began lane_1 (0 ∷ []) None 250 ∷ []) (Exhausted ∷ Succeeded ∷ []) [] 2
  pub checkpoint_before : checkpoint in_two_lanes second_done 0 ≡ 0
  pub spread_before : spread in_two_lanes second_done 0 ≡ 1
  pub spread_after : spread in_two_lanes both_done 0 ≡ 0
