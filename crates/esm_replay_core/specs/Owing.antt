-- What is owed, and what it turns into. Only this crate's proofs cite this.
use Rattle.std.specs.Prelude.{ℕ, nat_lt, Bool, true, false, List, [], ◌∷◌, Option, Some, None, if◌then◌else◌}
use Rattle.esm_model.specs.declared.entry.Entry.{Entry}
use Rattle.esm_model.specs.declared.entry.Entry.TheVariants as entry
use Rattle.esm_replay_core.specs.declared.owed.Replay.{Replay}
use Rattle.esm_replay_core.specs.declared.owed.Owed.{Owed}
use Rattle.esm_replay_core.specs.declared.owed.Owed.TheVariants.{Nothing, Coming, Began, Ended, Replayed, Left}

-- entries

abbrev pub replay_entry : Replay → Entry
replay_entry r = entry.Replayed r.shard r.places r.moment

abbrev pub replay_entries : Option Replay → List Entry
replay_entries None = []
replay_entries (Some r) = replay_entry r ∷ []

-- oldest first; arriving records are not entries of the history
abbrev pub owed_entries : Owed → List Entry
owed_entries Nothing = []
owed_entries Coming = []
owed_entries (Began lane places names moment) = entry.Began lane places None moment ∷ []
owed_entries (Ended lane reply moment count parts replay) = entry.Ended lane reply moment ∷ replay_entries replay
owed_entries (Replayed r) = replay_entry r ∷ []
owed_entries Left = []

-- the records that it replays
abbrev pub owed_replay_of : Owed → Option Replay
owed_replay_of (Ended lane reply moment count parts replay) = replay
owed_replay_of (Replayed r) = Some r
owed_replay_of _ = None

-- the same, if the `Replayed` is owed first
abbrev pub first_replay_of : Owed → Option Replay
first_replay_of (Replayed r) = Some r
first_replay_of _ = None

-- what it turns into

abbrev pub is_left : Owed → Bool
is_left Left = true
is_left _ = false

-- after staged entries are discarded; if a part of them was already added, the core is `Left`
abbrev pub given_up : Owed → Owed
given_up (Replayed r) = Left
given_up Left = Left
given_up _ = Nothing

-- after the end of a call is added
abbrev pub owing_replay : Option Replay → Owed
owing_replay None = Nothing
owing_replay (Some r) = Replayed r

-- after `came` of the records have arrived
abbrev pub still_coming : ℕ → ℕ → Owed
still_coming came number = if nat_lt came number then Coming else Nothing
