-- The tumbling windows of a shard, and what a history says of them. This product's own.
use Rattle.std.specs.Prelude.{◌≡◌, ℕ, suc, zero, ◌≤◌, ◌==◌, nat_lt, Bool, true, false, ◌&&◌, ◌||◌, List, [], ◌∷◌, length, filter, Option, Some, None, IsSome, is_some, if◌then◌else◌, MatchOption, ⊤}
use Rattle.esm_model.specs.declared.entry.Entry.{Entry}
use Rattle.esm_model.specs.declared.entry.Entry.TheVariants.{Came, Ended, Gave, Closed}
use Rattle.esm_model.specs.Setting.{Setting}
use Rattle.esm_model.specs.Entries.{came_count}
use Rattle.esm_model.specs.Fates.{given, lacks_fate, came_places}
use Rattle.esm_model.specs.Tries.{window_tries}
use Rattle.esm_model.specs.Windows.{window_of, kept_state}
use Rattle.esm_shard_index.specs.WindowEntries.{count_at, text_at}

-- by window how many records are open, the failed tries of the final call, and the state; and the last record's window
pub record WindowTable : Type 0 where
  pub opened : List (ℕ × ℕ)
  pub tries : List (ℕ × ℕ)
  pub states : List (ℕ × Option (List ℕ))
  pub last : ℕ

-- the number of the window's open records
abbrev pub open_in : WindowTable → ℕ → ℕ
open_in t w = count_at t.opened w

-- the failed tries of the window's final call
abbrev pub tries_in : WindowTable → ℕ → ℕ
tries_in t w = count_at t.tries w

-- the window's state, if it has one
abbrev pub state_in : WindowTable → ℕ → Option (List ℕ)
state_in t w = text_at t.states w

-- how often the window is among the windows
abbrev pub times : List ℕ → ℕ → ℕ
times windows w = length (filter (λ x. x == w) windows)

-- the window has a state and no open record, and a record of a later window came or the book is shut
abbrev pub is_due_in : WindowTable → Bool → ℕ → Bool
is_due_in t shut w = is_some (state_in t w) && (open_in t w == 0) && (nat_lt w t.last || shut)

-- this is the least window that is due, or none is
abbrev pub IsLeastDue : WindowTable → Bool → Option ℕ → Type 0
IsLeastDue t shut r = MatchOption r ((w : ℕ) → is_due_in t shut w ≡ false) (λ v. (is_due_in t shut v ≡ true) × ((w : ℕ) → is_due_in t shut w ≡ true → v ≤ w))

-- a window has a state
abbrev pub HasState : WindowTable → Type 0
HasState t = (w : ℕ) × IsSome (state_in t w)

-- the window of the record before the place, or 0
abbrev pub window_before : Setting → ℕ → ℕ → ℕ
window_before s n zero = 0
window_before s n (suc k) = window_of s n k

-- the open record at the place is one of the window
abbrev pub is_open_in : Setting → List Entry → ℕ → ℕ → ℕ → Bool
is_open_in s h n w i = lacks_fate s h n i && (window_of s n i == w)

-- the table says of the shard's windows what the history says
pub record IsWindows (s : Setting) (h : List Entry) (n : ℕ) (t : WindowTable) : Type 0 where
  pub opened : (w : ℕ) → open_in t w ≡ length (filter (is_open_in s h n w) (came_places h n))
  pub states : (w : ℕ) → state_in t w ≡ kept_state s h n w
  pub tries : (w : ℕ) → tries_in t w ≡ window_tries s h n w
  pub last : t.last ≡ window_before s n (came_count h n)
  -- no place that is still to come was given a fate
  pub ahead : (i : ℕ) → came_count h n ≤ i → given h n i ≡ None

-- the entry changes nothing of the shard's windows
abbrev pub LeavesWindows : ℕ → Entry → Type 0
LeavesWindows n (Came shard first count moment) = (shard == n) ≡ false
LeavesWindows n (Ended lane reply moment) = (lane.shard == n) ≡ false
LeavesWindows n (Gave by shard places fate line state moment) = (shard == n) ≡ false
LeavesWindows n (Closed lane window moment) = (lane.shard == n) ≡ false
LeavesWindows n _ = ⊤

-- how it is found

-- an entry has a text
abbrev pub some_text : List (ℕ × Option (List ℕ)) → Bool
some_text [] = false
some_text (e ∷ entries) = is_some e.1 || some_text entries

abbrev pub due_at : List (ℕ × ℕ) → ℕ → Bool → ℕ → Option (List ℕ) → Option ℕ → Option ℕ
due_at opened last shut w None later = later
due_at opened last shut w (Some text) later = if nat_lt w last || shut then (if count_at opened w == 0 then Some w else later) else None

-- the first of the entries, in order, whose window is due
abbrev pub due_from : List (ℕ × ℕ) → ℕ → Bool → List (ℕ × Option (List ℕ)) → Option ℕ
due_from opened last shut [] = None
due_from opened last shut (e ∷ entries) = due_at opened last shut e.0 e.1 (due_from opened last shut entries)
