use Rattle.std.proofs.Common.{◌≡◌, ℕ, ◌+◌, ◌≤◌, [], take, drop, length}
use Rattle.esm_model.specs.Batches.{longest}
use Rattle.esm_replay_model.specs.ReplaySetting.{ReplaySetting}
use Rattle.esm_replay.specs.Rows.{places_of}
use Rattle.esm_replay.specs.Batch.{records_named, fits_for, IsPlacedIn}
use Rattle.esm_replay.proofs.Gathered.{element_bytes}
use Rattle.esm_replay.proofs.batch.call_length.Given as goal

abbrev pub invariant-loop-i : goal.invariant-loop-i
invariant-loop-i l = record {
  so_far : (s : ReplaySetting) (n : ℕ) → IsPlacedIn s l.config l.records n l.named → longest (fits_for s n) (take l.i (places_of l.named)) (drop l.i (places_of l.named)) ≡ longest (fits_for s n) [] (places_of l.named);
  count : length (records_named l.records (take l.i l.named)) ≡ l.i;
  bytes : l.bytes ≡ 14 + element_bytes l.config (records_named l.records (take l.i l.named));
  small : l.bytes ≤ 6291456;
  first : l.i ≡ 0 → l.bytes ≡ 14;
}
