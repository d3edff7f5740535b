-- Worked examples of records that arrive: which are filtered, and which have another sequence number than the journal kept
-- for their place.
use Rattle.std.specs.Prelude.{◌≡◌, List, [], ◌∷◌, ℕ, codes, Option, Some, None}
use Rattle.esm_model.specs.declared.book.Change.{Change}
use Rattle.esm_model.specs.declared.entry.Entry.{Entry}
use Rattle.esm_model.specs.declared.entry.Entry.TheVariants.{Shut}
use Rattle.esm_model.specs.Setting.{Setting, records_of}
use Rattle.esm_model.specs.Worked.{plain_mapping, setting_over, record_with, all_came, found_success}
use Rattle.esm_model.specs.WorkedBatches.{filtering, on_data, on_key, filtered_history}
use Rattle.esm_model.specs.WorkedRetries.{tried_twice}
use Rattle.esm_ingest.specs.Changes.{first_change}
use Rattle.esm_ingest.specs.Entries.{with_entries, arrival_entries}

-- the records of shard 0 arrive at 0, and the input ends
abbrev pub all_arrived : Setting → List Entry
all_arrived s = Shut 0 ∷ with_entries [] (arrival_entries s [] (records_of s 0) 0)

-- `filtered-data`: data that is no JSON, data that passes, and a key that passes
pub record FilteredData : Type 0 where
  pub no_json : all_arrived (filtering on_data (codes "Hello")) ≡ filtered_history
  pub passing : all_arrived (filtering on_data (codes "{\"n\":1}")) ≡ all_came 1 0
  pub by_key : all_arrived (filtering on_key (codes "Hello")) ≡ all_came 1 0

-- the change that is found when one record of shard 0 with this sequence number arrives first
abbrev pub change_by : Setting → List ℕ → Option Change
change_by s seq = first_change s [] (record_with seq 0 ∷ [])

-- the journal kept the record `1` at the first place, and a record `7` arrives
abbrev pub seven_for_one : Change
seven_for_one = record { shard = 0; place = 0; kept = codes "1"; given = codes "7" }

-- `changed-stream`: the success of the record `1` at the first place was found in the journal

abbrev pub succeeded_before : Setting
succeeded_before = record (setting_over plain_mapping []) { fates = found_success 0 (codes "1") ∷ [] }

pub record ChangedStream : Type 0 where
  pub other : change_by succeeded_before (codes "7") ≡ Some seven_for_one
  pub same : change_by succeeded_before (codes "1") ≡ None

-- `changed-after-tries`: two tries of the record `1` at the first place were found in the journal
pub record ChangedAfterTries : Type 0 where
  pub other : change_by tried_twice (codes "7") ≡ Some seven_for_one
  pub same : change_by tried_twice (codes "1") ≡ None
