-- A table some of whose fates are not yet in its map. Only this crate's proofs cite this.
use Rattle.std.specs.Prelude.{ℕ, ◌≡◌, nat_lt, Bool, true, List, [], ◌∷◌, Option, Some, None}
use Rattle.std.specs.Ordering.{nat_cmp, eq_by_cmp}
use Rattle.std.specs.Map.{update_all}
use Rattle.std.specs.BTreeMap as map
use Rattle.std.specs.BTreeSet as set
use Rattle.esm_model.specs.Entries.{holds}
use Rattle.esm_model.specs.declared.entry.Fate.{Fate}
use Rattle.esm_journal_record.specs.declared.said.Said.{Said}
use Rattle.esm_journal_state.specs.declared.growing.Growing.{Growing}
use Rattle.esm_journal_state.specs.declared.kept.KeptFate.{KeptFate}
use Rattle.esm_journal_state.specs.declared.table.Table.{Table}
use Rattle.esm_journal_state.specs.Meaning.{fate_kept, fate_said, tries_said, state_said, window_tries_said, replayed_said, deletion_said}
use Rattle.esm_journal_state.specs.SaidLists.{pair_cmp}

-- the places of a shard with the fate, each with its text
abbrev pub fates_named : ℕ → Fate → List ℕ → List (List ℕ) → List ((ℕ × ℕ) × KeptFate)
fates_named shard fate [] texts = []
fates_named shard fate (place ∷ places) [] = []
fates_named shard fate (place ∷ places) (text ∷ texts) = ((shard, place), fate_kept fate text) ∷ fates_named shard fate places texts

-- the fate of a place, if those of the list came after those of the map
abbrev pub fate_with : map.BTreeMap (ℕ × ℕ) KeptFate → List ((ℕ × ℕ) × KeptFate) → ℕ → ℕ → Option KeptFate
fate_with fates recent n i = update_all (eq_by_cmp pair_cmp) (map.get pair_cmp fates) recent (n, i)

-- the place is above the top, if there is one
abbrev pub is_above : Option ℕ → ℕ → Bool
is_above None i = true
is_above (Some top) i = nat_lt top i

-- map and list have what the history says, and no place above its shard's top has a fate
pub record IsGrown (g : Growing) (h : List Said) : Type 0 where
  pub fates : (n i : ℕ) → fate_with g.table.fates g.recent.items n i ≡ fate_said h n i
  pub tries : (n i : ℕ) → map.get pair_cmp g.table.tries (n, i) ≡ tries_said h n i
  pub states : (n w : ℕ) → map.get pair_cmp g.table.states (n, w) ≡ state_said h n w
  pub window_tries : (n w : ℕ) → map.get pair_cmp g.table.window_tries (n, w) ≡ window_tries_said h n w
  pub replays : (n i : ℕ) → set.contains pair_cmp g.table.replays (n, i) ≡ replayed_said h n i
  pub deletions : (i : ℕ) → map.get nat_cmp g.table.deletions i ≡ deletion_said h i
  pub tops : (n i : ℕ) → is_above (map.get nat_cmp g.tops n) i ≡ true → fate_said h n i ≡ None

-- the maps have what the history says, of fates at least that of these places of the shard
pub record Knows (t : Table) (h : List Said) (shard : ℕ) (places : List ℕ) : Type 0 where
  pub fates : (i : ℕ) → holds places i ≡ true → map.get pair_cmp t.fates (shard, i) ≡ fate_said h shard i
  pub tries : (n i : ℕ) → map.get pair_cmp t.tries (n, i) ≡ tries_said h n i
  pub replays : (n i : ℕ) → set.contains pair_cmp t.replays (n, i) ≡ replayed_said h n i
