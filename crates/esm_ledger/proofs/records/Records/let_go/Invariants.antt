use Rattle.std.proofs.Common.{◌≡◌, ℕ, ◌≤◌, false, not, ◌&&◌, length, take, get_or}
use Rattle.esm_model.specs.Entries.{holds}
use Rattle.esm_ledger.proofs.records.Records.let_go.Given as goal

abbrev pub invariant-loop-place : goal.invariant-loop-place
invariant-loop-place l = record {
  items : l.self.items ≡ l.initial.self.items;
  len : length l.self.held ≡ length l.initial.self.held;
  room : l.initial.self.room ≤ l.self.room;
  held : (i : ℕ) → get_or l.self.held i false ≡ (get_or l.initial.self.held i false && not (holds (take l.place-index l.places) i));
}
