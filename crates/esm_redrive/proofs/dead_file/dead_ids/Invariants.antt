use Rattle.std.proofs.Common.{◌≡◌, ℕ, List, take}
use Rattle.std.specs.BTreeSet.{contains_text}
use Rattle.esm_redrive_model.specs.RedriveSetting.{stands_among}
use Rattle.esm_redrive.specs.DeadFile.{dead_ids, AreLetters}
use Rattle.esm_redrive.proofs.dead_file.dead_ids.Given as goal

abbrev pub invariant-loop-place : goal.invariant-loop-place
invariant-loop-place l = record {
  ids : (id : List ℕ) → contains_text l.ids id ≡ stands_among (dead_ids l.fifo (take l.place l.payloads)) id;
  good : AreLetters l.fifo l.payloads l.place;
}
