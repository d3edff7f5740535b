-- What each entry does to the moments of arrival as they are kept.
use Rattle.std.specs.Prelude.{ℕ, ◌≡◌, ◌+◌, List, [], ◌∷◌, ◌++◌}
use Rattle.esm_model.specs.declared.entry.Entry.{Entry}
use Rattle.esm_model.specs.declared.entry.Entry.TheVariants.{Came}
use Rattle.esm_model.specs.Entries.{came_count}
use Rattle.esm_shard_index.specs.Arrivals.{Coming, IsArrivals, BringsNone, arrival}

-- before anything came
abbrev pub ArrivalsBegin : ℕ → Coming → Type 0
ArrivalsBegin n v = v.runs ≡ [] → v.came ≡ 0 → IsArrivals [] n v

-- records of the shard come
abbrev pub ArrivalsCome : List Entry → ℕ → Coming → Type 0
ArrivalsCome h n v =
    (after : Coming) (count m : ℕ) → IsArrivals h n v
    → after.runs ≡ v.runs ++ arrival v.came m ∷ []
    → after.came ≡ v.came + count
    → IsArrivals (Came n (came_count h n) count m ∷ h) n after

-- another entry follows
abbrev pub ArrivalsStay : List Entry → ℕ → Coming → Type 0
ArrivalsStay h n v = (e : Entry) → BringsNone n e → IsArrivals h n v → IsArrivals (e ∷ h) n v
