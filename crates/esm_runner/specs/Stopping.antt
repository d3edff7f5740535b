-- What a run of batchers leaves if memory runs out. This product's own.
use Rattle.std.specs.Prelude.{◌≡◌, ◌⊎◌, ℕ, true, List, [], ◌∷◌, ◌++◌, Option}
use Rattle.esm_io.specs.Told.{Grows}
use Rattle.esm_model.specs.declared.called.Called.{Called}
use Rattle.esm_model.specs.declared.lane.LaneId.{LaneId}
use Rattle.esm_model.specs.declared.entry.Entry.{Entry}
use Rattle.esm_model.specs.declared.entry.Reply.{Reply}
use Rattle.esm_model.specs.Setting.{Setting}
use Rattle.esm_model.specs.Entries.{is_running, batcher}
use Rattle.esm_model.specs.Calls.{calls, last_event}

-- the log grew by the calls of batcher k, and by one further call of its lane, which still runs
pub record HasOneMore (sends : List ℕ → List ℕ) (s : Setting) (h : List Entry) (k : ℕ) (old new : Option (List Called)) : Type 0 where
  pub lane : LaneId
  pub mine : batcher s h lane ≡ k
  pub runs : is_running h lane ≡ true
  pub reply : Reply
  pub logged : Grows old new (calls s sends h k ++ record { name = s.config.function; event = sends (last_event s h lane); reply = reply } ∷ [])

-- the log grew by the calls of batcher k, and perhaps by one further call whose end is not in the history
abbrev pub HasLogged : (List ℕ → List ℕ) → Setting → List Entry → ℕ → (old new : Option (List Called)) → Type 0
HasLogged sends s h k old new = Grows old new (calls s sends h k) ⊎ HasOneMore sends s h k old new
