-- What an entry may follow that was being written when a disk failed. This product's own.
use Rattle.std.specs.Prelude.{◌≡◌, Bool, true, false, List, ◌++◌}
use Rattle.std.specs.List.{list_all}
use Rattle.esm_model.specs.declared.entry.Entry.{Entry}
use Rattle.esm_model.specs.declared.entry.Entry.TheVariants.{Came, Began, Ended, Gave, Tried, Closed, Replayed, Shut}

-- it ends a call, or the input
abbrev pub is_end : Entry → Bool
is_end (Came shard first count moment) = false
is_end (Began lane places closing moment) = false
is_end (Ended lane reply moment) = true
is_end (Gave by shard places fate line state moment) = false
is_end (Tried lane places closing tries moment) = false
is_end (Closed lane window moment) = false
is_end (Replayed shard places moment) = false
is_end (Shut moment) = true

-- The entry may follow the history, or a prefix of it that only ends of calls and of the input follow. A history is written
-- newest entry first.
pub record FollowsFront (may : List Entry → Entry → Type 0) (h : List Entry) (e : Entry) : Type 0 where
  pub before : List Entry
  pub later : List Entry
  pub split : h ≡ later ++ before
  pub ends : list_all is_end later ≡ true
  pub follows : may before e
