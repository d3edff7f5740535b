-- What a list of payloads says, as lists in the order of shards and places.
use Rattle.std.specs.Prelude.{ℕ, ◌==◌, Bool, ◌&&◌, ◌||◌, List, length, map, filter, find, Option}
use Rattle.std.specs.List.{list_any}
use Rattle.std.specs.List.Sorted.{IsStrictlySortedBy}
use Rattle.std.specs.Ordering.{nat_cmp, ordering_then}
use Rattle.std.specs.declared.cmp.Ordering.{Ordering}
use Rattle.esm_model.specs.declared.setup.FoundFate.{FoundFate}
use Rattle.esm_model.specs.declared.setup.FoundTries.{FoundTries}
use Rattle.esm_model.specs.declared.setup.FoundState.{FoundState}
use Rattle.esm_model.specs.declared.setup.FoundWindowTries.{FoundWindowTries}
use Rattle.esm_model.specs.declared.setup.FoundDeletion.{FoundDeletion}

-- a replay that the payloads name
pub record FoundReplay : Type 0 where
  pub shard : ℕ
  pub place : ℕ

-- each list has all that the payloads say of one kind
pub record SaidLists : Type 0 where
  pub fates : List FoundFate
  pub tries : List FoundTries
  pub states : List FoundState
  pub window_tries : List FoundWindowTries
  pub replays : List FoundReplay
  pub deletions : List FoundDeletion

-- what the lists have of one place or window; each is the look-up of a setting

abbrev pub fate_told : SaidLists → ℕ → ℕ → Option FoundFate
fate_told t n i = find (λ (f : FoundFate). (f.shard == n) && (f.place == i)) t.fates

abbrev pub tries_told : SaidLists → ℕ → ℕ → Option FoundTries
tries_told t n i = find (λ (f : FoundTries). (f.shard == n) && (f.place == i)) t.tries

abbrev pub state_told : SaidLists → ℕ → ℕ → Option FoundState
state_told t n w = find (λ (f : FoundState). (f.shard == n) && (f.window == w)) t.states

abbrev pub window_tries_told : SaidLists → ℕ → ℕ → Option FoundWindowTries
window_tries_told t n w = find (λ (f : FoundWindowTries). (f.shard == n) && (f.window == w)) t.window_tries

abbrev pub is_replay_told : SaidLists → ℕ → ℕ → Bool
is_replay_told t n i = list_any (λ (f : FoundReplay). (f.shard == n) && (f.place == i)) t.replays

abbrev pub deletion_told : SaidLists → ℕ → Option FoundDeletion
deletion_told t i = find (λ (f : FoundDeletion). f.place == i) t.deletions

-- the places of the shard that have a fate
abbrev pub fates_count : SaidLists → ℕ → ℕ
fates_count t n = length (filter (λ (f : FoundFate). f.shard == n) t.fates)

-- the shard has a fate, a state, tries or a window's tries
abbrev pub has_shard : SaidLists → ℕ → Bool
has_shard t n =
    list_any (λ (f : FoundFate). f.shard == n) t.fates
    || list_any (λ (f : FoundTries). f.shard == n) t.tries
    || list_any (λ (f : FoundState). f.shard == n) t.states
    || list_any (λ (f : FoundWindowTries). f.shard == n) t.window_tries

-- by shard, and then by the place or the window
abbrev pub pair_cmp : ℕ × ℕ → ℕ × ℕ → Ordering
pair_cmp x y = ordering_then (nat_cmp x.0 y.0) (nat_cmp x.1 y.1)

-- each list is in order, and names each place or window once
pub record IsInOrder (t : SaidLists) : Type 0 where
  pub fates : IsStrictlySortedBy pair_cmp (map (λ (f : FoundFate). (f.shard, f.place)) t.fates)
  pub tries : IsStrictlySortedBy pair_cmp (map (λ (f : FoundTries). (f.shard, f.place)) t.tries)
  pub states : IsStrictlySortedBy pair_cmp (map (λ (f : FoundState). (f.shard, f.window)) t.states)
  pub window_tries : IsStrictlySortedBy pair_cmp (map (λ (f : FoundWindowTries). (f.shard, f.window)) t.window_tries)
  pub replays : IsStrictlySortedBy pair_cmp (map (λ (f : FoundReplay). (f.shard, f.place)) t.replays)
  pub deletions : IsStrictlySortedBy nat_cmp (map (λ (f : FoundDeletion). f.place) t.deletions)
