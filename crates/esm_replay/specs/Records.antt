-- The setting of a replay, by the records that arrived. This product's own.
use Rattle.std.specs.Prelude.{ℕ, ◌==◌, Bool, false, not, ◌&&◌, List, [], ◌∷◌, ◌++◌, length, map, filter, option_map, unwrap_or}
use Rattle.esm_model.specs.declared.config.Config.{Config}
use Rattle.esm_model.specs.declared.entry.Fate.{Fate}
use Rattle.esm_model.specs.Records.{Record}
use Rattle.esm_model.specs.declared.setup.FoundFate.{FoundFate}
use Rattle.esm_model.specs.Setting.{Stream}
use Rattle.esm_journal_state.specs.Meaning.{is_failure}
use Rattle.esm_journal_state.specs.SaidLists.{SaidLists, fate_told, is_replay_told}
use Rattle.esm_replay_model.specs.declared.range.Range.{Range}
use Rattle.esm_replay_model.specs.ReplaySetting.{ReplaySetting, is_in_ranges}
use Rattle.esm_replay_model.specs.Pieces.{inserted}

-- the shards of the records, in ascending order
abbrev pub shards_of : List Record → List ℕ
shards_of [] = []
shards_of (r ∷ rs) = inserted r.shard (shards_of rs)

-- the records of the shard, in order
abbrev pub of_shard : ℕ → List Record → List Record
of_shard n rs = filter (λ (r : Record). r.shard == n) rs

abbrev pub stream_of : List Record → ℕ → Stream
stream_of rs n = record { shard = n; records = of_shard n rs }

abbrev pub streams_of : List Record → List Stream
streams_of rs = map (stream_of rs) (shards_of rs)

-- the setting of a mapping and the allowed calls, of what the journal and the failure file said at opening, and of the
-- records that arrived
abbrev pub setting_with : Config → ℕ → SaidLists → List Range → List Record → ReplaySetting
setting_with config calls told ranges rs = record {
  base = record {
    config = config;
    calls = calls;
    streams = streams_of rs;
    fates = told.fates;
    tries = told.tries;
    states = told.states;
    window_tries = told.window_tries;
  };
  ranges = ranges;
  replays = told.replays;
}

-- the journal says that the record at the place was exhausted or expired
abbrev pub is_told_failed : SaidLists → ℕ → ℕ → Bool
is_told_failed told n i = unwrap_or (option_map (λ (f : FoundFate). is_failure f.fate) (fate_told told n i)) false

-- the record is named, if this is its place
abbrev pub names : SaidLists → List Range → Record → ℕ → Bool
names told ranges r i = is_told_failed told r.shard i && (is_in_ranges ranges r.shard r.seq && not (is_replay_told told r.shard i))

-- the same, with the fate that the journal gives the place
abbrev pub names_by : Fate → SaidLists → List Range → Record → ℕ → Bool
names_by fate told ranges r i = is_failure fate && (is_in_ranges ranges r.shard r.seq && not (is_replay_told told r.shard i))

-- for each of the records whether it is named, if those arrived before
abbrev pub are_named : SaidLists → List Range → List Record → List Record → List Bool
are_named told ranges before [] = []
are_named told ranges before (r ∷ rs) = names told ranges r (length (of_shard r.shard before)) ∷ are_named told ranges (before ++ r ∷ []) rs
