-- What `show` reports of a journal: its shards by rising number, of each how many places have a fate and how many from 0 on
-- have one without a gap, and how many messages were deleted. This product's own.
use Rattle.std.specs.Prelude.{◌≡◌, ◌<◌, ℕ, nat_eq, true, List, length, map, None, is_some, reverse}
use Rattle.std.specs.List.{All, list_any}
use Rattle.std.specs.List.Sorted.{IsStrictlyIncreasing}
use Rattle.esm_journal_state.specs.Meaning.{are_good, history}
use Rattle.esm_journal_state.specs.SaidLists.{SaidLists, IsInOrder, fate_told, fates_count, has_shard}
use Rattle.esm_journal_state.specs.Tells.{Tells}
use Rattle.esm_folder.specs.declared.summary.ShardSummary.{ShardSummary}
use Rattle.esm_folder.specs.declared.summary.Summary.{Summary}

abbrev pub shard_of : ShardSummary → ℕ
shard_of s = s.shard

-- the shard's numbers, by what the journal says
pub record IsShard (t : SaidLists) (s : ShardSummary) : Type 0 where
  pub given : s.given ≡ fates_count t s.shard
  -- each place below the frontier has a fate, and the frontier has none
  pub below : (i : ℕ) → i < s.frontier → is_some (fate_told t s.shard i) ≡ true
  pub end : fate_told t s.shard s.frontier ≡ None

-- each shard of which the journal says something, once, by rising number
pub record IsSummary (t : SaidLists) (s : Summary) : Type 0 where
  pub rising : IsStrictlyIncreasing (map shard_of s.shards.items)
  pub all : (n : ℕ) → list_any (nat_eq n) (map shard_of s.shards.items) ≡ has_shard t n
  pub numbers : All (IsShard t) s.shards.items
  pub deleted : s.deleted ≡ length t.deletions

-- the payloads, the oldest first, are good, and say what is shown
pub record IsShown (payloads : List (List ℕ)) (s : Summary) : Type 0 where
  pub good : are_good (reverse payloads) ≡ true
  pub lists : SaidLists
  pub told : Tells lists (history (reverse payloads))
  pub order : IsInOrder lists
  pub summary : IsSummary lists s
