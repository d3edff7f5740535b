use Rattle.std.proofs.Common.{◌≡◌, take, map}
use Rattle.esm_ledger.specs.Ledger.{setting_of, past_of}
use Rattle.esm_next.specs.Gathering.{piece_of}
use Rattle.esm_next.proofs.batch.pieces.Given as goal

abbrev pub invariant-loop-place : goal.invariant-loop-place
invariant-loop-place l = l.pieces.items ≡ map (piece_of (setting_of l.ledger) (past_of l.ledger) l.shard) (take l.place-index l.places)
