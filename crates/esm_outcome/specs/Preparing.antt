-- What a ledger needs before the end of a call, and the entries that it requires, can be added. This product's own.
use Rattle.std.specs.Prelude.{◌≡◌, ◌≢◌, ℕ, true, List, [], ◌∷◌, Option, Some, None, IfSome, ⊤}
use Rattle.esm_model.specs.declared.lane.LaneId.{LaneId}
use Rattle.esm_model.specs.declared.entry.Entry.{Entry}
use Rattle.esm_model.specs.declared.entry.Fate.TheVariants.{Expired}
use Rattle.esm_shard_index.specs.WindowEntries.{has_entry}
use Rattle.esm_ledger.specs.declared.ledger.Ledger.{Ledger}
use Rattle.esm_ledger.specs.declared.shard.ShardLedger.{ShardLedger}
use Rattle.esm_ledger.specs.Ledger.{past_of, IsAt, Keeps, HasState, IsClosingPrepared}
use Rattle.esm_outcome.specs.declared.outcome.Due.{Due}
use Rattle.esm_outcome.specs.declared.outcome.Due.TheVariants.{Gave}

-- the window can take a state and a try
pub record IsPrepared (c : Ledger) (n w : ℕ) : Type 0 where
  pub state : HasState c n w
  pub tries : (x : ShardLedger) → IsAt c n x → has_entry x.windows.tries w ≡ true

-- if the window is prepared, a ledger with this history can take the end of the lane's call
abbrev pub PreparesEnd : List Entry → LaneId → Option ℕ → Type 0
PreparesEnd h lane window = (c : Ledger) → Keeps c → past_of c ≡ h → IfSome window (IsPrepared c lane.shard) → IsClosingPrepared c lane

-- it gives no fate of records that expired, and no state but one of the window
abbrev pub IsOfWindow : Option ℕ → Due → Type 0
IsOfWindow window (Gave places fate line state) = (fate ≢ Expired) × IfSome state (λ x. window ≡ Some x.window)
IsOfWindow window _ = ⊤

-- and none after the first of them gives a state
abbrev pub AreOfWindow : Option ℕ → List Due → Type 0
AreOfWindow window [] = ⊤
AreOfWindow window (d ∷ ds) = IsOfWindow window d × AreOfWindow None ds
