-- What a history says, as maps.
use Rattle.std.specs.Prelude.{ℕ, ◌≡◌, List}
use Rattle.std.specs.Ordering.{nat_cmp}
use Rattle.std.specs.BTreeMap as map
use Rattle.std.specs.BTreeSet as set
use Rattle.esm_journal_record.specs.declared.said.Said.{Said}
use Rattle.esm_journal_state.specs.declared.table.Table.{Table}
pub use Rattle.esm_journal_state.specs.SaidLists.{pair_cmp}
use Rattle.esm_journal_state.specs.Meaning.{fate_said, tries_said, state_said, window_tries_said, replayed_said, deletion_said, Known}

-- the maps have what the history says
pub record IsTable (t : Table) (h : List Said) : Type 0 where
  pub fates : (n i : ℕ) → map.get pair_cmp t.fates (n, i) ≡ fate_said h n i
  pub tries : (n i : ℕ) → map.get pair_cmp t.tries (n, i) ≡ tries_said h n i
  pub states : (n w : ℕ) → map.get pair_cmp t.states (n, w) ≡ state_said h n w
  pub window_tries : (n w : ℕ) → map.get pair_cmp t.window_tries (n, w) ≡ window_tries_said h n w
  pub replays : (n i : ℕ) → set.contains pair_cmp t.replays (n, i) ≡ replayed_said h n i
  pub deletions : (i : ℕ) → map.get nat_cmp t.deletions i ≡ deletion_said h i

-- what the maps know
abbrev pub known_in : Table → Known
known_in t = record {
  fates = λ n i. map.get pair_cmp t.fates (n, i);
  tries = λ n i. map.get pair_cmp t.tries (n, i);
  replays = λ n i. set.contains pair_cmp t.replays (n, i);
  deletions = λ i. map.get nat_cmp t.deletions i;
}

-- the maps are in order
pub record HasOrder (t : Table) : Type 0 where
  pub fates : map.IsOrdered pair_cmp t.fates
  pub tries : map.IsOrdered pair_cmp t.tries
  pub states : map.IsOrdered pair_cmp t.states
  pub window_tries : map.IsOrdered pair_cmp t.window_tries
  pub replays : set.IsOrdered pair_cmp t.replays
  pub deletions : map.IsOrdered nat_cmp t.deletions
