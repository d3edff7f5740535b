-- What is kept beside records that come, one after the other, and what was found of their shard. Only this crate's
-- proofs cite this.
use Rattle.std.specs.Prelude.{ℕ, suc, ◌==◌, max, Bool, ◌&&◌, List, [], ◌∷◌, length, Option, Some, None, is_none, option_map, if◌then◌else◌}
use Rattle.esm_model.specs.declared.config.Config.{Config}
use Rattle.esm_model.specs.Records.{Record}
use Rattle.esm_model.specs.declared.entry.Fate.{Fate}
use Rattle.esm_model.specs.EventText.{record_text}
use Rattle.esm_model.specs.Windows.{window_floor}
use Rattle.esm_model.specs.declared.setup.FoundFate.{FoundFate}
use Rattle.esm_model.specs.declared.setup.FoundTries.{FoundTries}
use Rattle.esm_model.specs.Lane.{lane_of}
use Rattle.esm_model.specs.Ruling.{capped_tries}
use Rattle.esm_journal_state.specs.declared.lookup.SaidState.{SaidState}
use Rattle.esm_journal_state.specs.declared.lookup.SaidWindowTries.{SaidWindowTries}
use Rattle.esm_journal_state.specs.SaidLists.{SaidLists, fate_told, tries_told}
use Rattle.esm_ledger.specs.declared.arriving.Landing.{Landing}
use Rattle.esm_ledger.specs.declared.measure.Measure.{Measure}
use Rattle.esm_ledger.specs.Shard.{measure_at}

-- the window of a record that follows one of the window `before`
abbrev pub window_next : Config → ℕ → Record → ℕ
window_next config before r = max before (window_floor config.tumbling_ms r.arrival)

-- the length and the window of each
abbrev pub measures_of : Config → ℕ → List Record → List Measure
measures_of config before [] = []
measures_of config before (r ∷ rs) = record { length = length (record_text config r); window = window_next config before r } ∷ measures_of config (window_next config before r) rs

-- the window of the last
abbrev pub last_of : Config → ℕ → List Record → ℕ
last_of config before [] = before
last_of config before (r ∷ rs) = last_of config (window_next config before r) rs

-- the windows of those without a fate
abbrev pub open_of : Config → ℕ → List Record → List (Option Fate) → List ℕ
open_of config before [] fates = []
open_of config before (r ∷ rs) [] = []
open_of config before (r ∷ rs) (f ∷ fs) = if is_none f then window_next config before r ∷ open_of config (window_next config before r) rs fs else open_of config (window_next config before r) rs fs

-- the window of the last of these, or 0
abbrev pub last_window : List Measure → ℕ
last_window [] = 0
last_window (m ∷ ms) = (measure_at (m ∷ ms) (length ms)).window

-- what was found of records from a place on

abbrev pub fate_for : SaidLists → ℕ → ℕ → Option Fate
fate_for t n i = option_map (λ (f : FoundFate). f.fate) (fate_told t n i)

abbrev pub tries_for : SaidLists → ℕ → ℕ → Option ℕ
tries_for t n i = option_map (λ (f : FoundTries). capped_tries f.tries) (tries_told t n i)

-- the record at the place goes to the lane of its key, if it passes the filter and has no found fate
abbrev pub landing_for : ℕ → SaidLists → ℕ → ℕ → Record → Bool → Option Landing
landing_for factor t n i r passes = if passes && is_none (fate_for t n i) then Some (record { lane = lane_of r.key factor; tries = tries_for t n i }) else None

abbrev pub fates_from : SaidLists → ℕ → ℕ → List Record → List (Option Fate)
fates_from t n first [] = []
fates_from t n first (r ∷ rs) = fate_for t n first ∷ fates_from t n (suc first) rs

abbrev pub landings_from : ℕ → SaidLists → ℕ → ℕ → List Record → List Bool → List (Option Landing)
landings_from factor t n first [] passing = []
landings_from factor t n first (r ∷ rs) [] = []
landings_from factor t n first (r ∷ rs) (p ∷ ps) = landing_for factor t n first r p ∷ landings_from factor t n (suc first) rs ps

-- what was found of a window, the first that is listed

abbrev pub state_from : List SaidState → ℕ → ℕ → Option (List ℕ) → Option (List ℕ)
state_from [] n w before = before
state_from (x ∷ xs) n w before = if (x.shard == n) && (x.state.window == w) then Some x.state.text else state_from xs n w before

abbrev pub tries_from : List SaidWindowTries → ℕ → ℕ → ℕ
tries_from [] w before = before
tries_from (x ∷ xs) w before = if x.window == w then capped_tries x.tries else tries_from xs w before
