-- What each entry does to the fates of a shard as they are kept, and what is read off them.
use Rattle.std.specs.Prelude.{ℕ, ◌≡◌, ◌+◌, ◌<◌, ◌||◌, true, false, List, [], ◌∷◌, ◌++◌, length, map, filter, slice_index_or, Option, is_some}
use Rattle.esm_model.specs.declared.lane.LaneId.{LaneId}
use Rattle.esm_model.specs.declared.entry.Fate.{Fate}
use Rattle.esm_model.specs.declared.entry.WindowState.{WindowState}
use Rattle.esm_model.specs.declared.entry.Entry.{Entry}
use Rattle.esm_model.specs.declared.entry.Entry.TheVariants.{Came, Gave}
use Rattle.esm_model.specs.Setting.{Setting}
use Rattle.esm_model.specs.Entries.{holds, came_count}
use Rattle.esm_model.specs.Fates.{same_fate, is_fate, open_count}
use Rattle.esm_model.specs.Checkpoint.{checkpoint, spread}
use Rattle.esm_shard_index.specs.FateCounts.{count_in}
use Rattle.esm_shard_index.specs.Progress.{Tally, IsProgress, AreFound, LeavesFates, number_of, front_of, past_of}

-- before anything came
abbrev pub ProgressBegins : Setting → ℕ → Tally → Type 0
ProgressBegins s n t = t.fated ≡ [] → ((f : Fate) → count_in t.counts f ≡ 0) → IsProgress s [] n t

-- records of the shard come
abbrev pub ProgressComes : Setting → List Entry → ℕ → Tally → Type 0
ProgressComes s h n t =
    (after : Tally) (found : List (Option Fate)) (first count m : ℕ) → IsProgress s h n t → count ≡ length found → AreFound s n (came_count h n) found
    → after.fated ≡ t.fated ++ map is_some found
    → ((f : Fate) → count_in after.counts f ≡ count_in t.counts f + length (filter (is_fate f) found))
    → IsProgress s (Came n first count m ∷ h) n after

-- places of the shard that came get a fate
abbrev pub ProgressGives : Setting → List Entry → ℕ → Tally → Type 0
ProgressGives s h n t =
    (after : Tally) (by : Option LaneId) (places : List ℕ) (f : Fate) (line : Option (List ℕ)) (state : Option WindowState) (m : ℕ) → IsProgress s h n t
    → ((i : ℕ) → holds places i ≡ true → i < length t.fated)
    → length after.fated ≡ length t.fated
    → ((i : ℕ) → i < length t.fated → slice_index_or after.fated i false ≡ (slice_index_or t.fated i false || holds places i))
    → ((g : Fate) → same_fate g f ≡ false → count_in after.counts g ≡ count_in t.counts g)
    → count_in after.counts f + number_of t.fated ≡ count_in t.counts f + number_of after.fated
    → IsProgress s (Gave by n places f line state m ∷ h) n after

-- another entry follows
abbrev pub ProgressStays : Setting → List Entry → ℕ → Tally → Type 0
ProgressStays s h n t = (e : Entry) → LeavesFates n e → IsProgress s h n t → IsProgress s (e ∷ h) n t

-- what is read off the tally
pub record ProgressTells (s : Setting) (h : List Entry) (n : ℕ) (t : Tally) : Type 0 where
  pub checkpoint_is : checkpoint s h n ≡ front_of t.fated
  pub spread_is : spread s h n ≡ past_of t.fated
  pub open_is : open_count s h n + number_of t.fated ≡ length t.fated
