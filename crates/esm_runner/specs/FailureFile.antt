-- A destination over another one, and what it delivers to it. This product's own.
use Rattle.std.specs.Prelude.{◌≡◌, ◌↔◌, ℕ, List}
use Rattle.esm_io.specs.Faults.{Rose}
use Rattle.esm_io.specs.Meanings.{DestMeaning}

-- The lines sent by the one above are those sent by the one below; for a line that is delivered above, `line` of it is
-- delivered below. Both have failed, or neither; both are honest, or neither; and the faults above rise only if those below
-- do. They share one clock, a crash leaves the same of both, and what it leaves is read as the same lines.
pub record DeliversTo {B T : Type 0} (below : DestMeaning B) (above : DestMeaning T) (file : T → B) (line : List ℕ → List ℕ) : Type 0 where
  pub lines : (d : T) → above.lines d ≡ below.lines (file d)
  pub sends : (l : List ℕ) → above.sends l ≡ below.sends (line l)
  pub failed : (d : T) → above.failed d ≡ below.failed (file d)
  pub honest : (d : T) → above.honest d ≡ below.honest (file d)
  pub faults : (d e : T) → Rose (above.faults d) (above.faults e) → Rose (below.faults (file d)) (below.faults (file e))
  pub moment : (d : T) → above.moment d ≡ below.moment (file d)
  pub since : (d : T) (t : ℕ) (left : List ℕ) → above.since d t left ↔ below.since (file d) t left
  pub reads_as : (left : List ℕ) (lines : List (List ℕ)) → above.reads_as left lines ↔ below.reads_as left lines
