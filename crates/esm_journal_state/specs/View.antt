-- What contracts see of a `Says`, by its maps.
use Rattle.std.specs.Prelude.{ℕ, ◌≡◌, ◌<◌, ◌^◌, ◌==◌, nat_eq, List, length, map, None, is_some, true, if◌then◌else◌}
use Rattle.std.specs.List.{list_any}
use Rattle.std.specs.List.Sorted.{IsStrictlyIncreasing}
use Rattle.std.specs.Ordering.{nat_cmp}
use Rattle.std.specs.Map.{count_at}
use Rattle.std.specs.BTreeMap as map
use Rattle.esm_model.specs.declared.setup.FoundFate.{FoundFate}
use Rattle.esm_model.specs.declared.setup.FoundTries.{FoundTries}
use Rattle.esm_model.specs.declared.setup.FoundState.{FoundState}
use Rattle.esm_model.specs.declared.setup.FoundWindowTries.{FoundWindowTries}
use Rattle.esm_journal_state.specs.declared.kept.KeptFate.{KeptFate}
use Rattle.esm_journal_state.specs.declared.kept.KeptTries.{KeptTries}
use Rattle.esm_journal_state.specs.declared.gather.AtHand.{AtHand}
use Rattle.esm_journal_state.specs.declared.lookup.SaidState.{SaidState}
use Rattle.esm_journal_state.specs.declared.lookup.SaidWindowTries.{SaidWindowTries}
use Rattle.esm_journal_state.specs.declared.lookup.Says.TheInside.{Inside}
use Rattle.esm_model.specs.declared.setup.FoundDeletion.{FoundDeletion}
use Rattle.esm_journal_state.specs.SaidLists.{SaidLists, FoundReplay, fate_told, fates_count, has_shard, IsInOrder}

abbrev pub found_fate : (ℕ × ℕ) × KeptFate → FoundFate
found_fate e = record { shard = e.0.0; place = e.0.1; fate = e.1.fate; text = e.1.text }

abbrev pub found_tries : (ℕ × ℕ) × KeptTries → FoundTries
found_tries e = record { shard = e.0.0; place = e.0.1; tries = e.1.tries; text = e.1.text }

abbrev pub found_state : SaidState → FoundState
found_state s = record { shard = s.shard; window = s.state.window; text = s.state.text }

abbrev pub found_window_tries : (ℕ × ℕ) × ℕ → FoundWindowTries
found_window_tries e = record { shard = e.0.0; window = e.0.1; tries = e.1 }

-- of the shard's window
abbrev pub of_window : ℕ → SaidWindowTries → FoundWindowTries
of_window n t = record { shard = n; window = t.window; tries = t.tries }

abbrev pub found_replay : ℕ × ℕ → FoundReplay
found_replay k = record { shard = k.0; place = k.1 }

abbrev pub found_deletion : ℕ × KeptFate → FoundDeletion
found_deletion e = record { place = e.0; fate = e.1.fate; text = e.1.text }

abbrev pub told_of : Inside → SaidLists
told_of a = record {
  fates = map found_fate a.fates.items;
  tries = map found_tries a.tries.entries;
  states = map found_state a.states.items;
  window_tries = map found_window_tries a.window_tries.entries;
  replays = map found_replay a.replays.keys;
  deletions = map found_deletion a.deletions.entries;
}

-- the fields agree
pub record IsGathered (a : Inside) : Type 0 where
  pub order : IsInOrder (told_of a)
  pub rising : IsStrictlyIncreasing a.shards.items
  pub shards : (n : ℕ) → list_any (nat_eq n) a.shards.items ≡ has_shard (told_of a) n
  pub counts : (n : ℕ) → count_at (map.get nat_cmp a.counts) n ≡ fates_count (told_of a) n
  pub below : (n i : ℕ) → i < count_at (map.get nat_cmp a.frontiers) n → is_some (fate_told (told_of a) n i) ≡ true
  pub end : (n : ℕ) → fate_told (told_of a) n (count_at (map.get nat_cmp a.frontiers) n) ≡ None
  pub fates : length (told_of a).fates < 2 ^ 32
  pub deletions : length (told_of a).deletions < 2 ^ 32

-- the state of a window
abbrev pub stated : (ℕ × ℕ) × List ℕ → SaidState
stated e = record { shard = e.0.0; state = record { window = e.0.1; text = e.1 } }

-- the number of a shard; that of one shard is at hand, the others are in the map
abbrev pub number_with : map.BTreeMap ℕ ℕ → AtHand → ℕ → ℕ
number_with numbers hand n = if hand.shard == n then hand.number else count_at (map.get nat_cmp numbers) n
