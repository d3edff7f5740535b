use Rattle.std.proofs.Common.{length, take}
use Rattle.esm_ledger.specs.Ledger.{past_of}
use Rattle.esm_stream_core.proofs.Fits.{FindPlaces}
use Rattle.esm_stream_core.proofs.fitting.fit_places.Given as goal

abbrev pub invariant-loop-item : goal.invariant-loop-item
invariant-loop-item l = FindPlaces (past_of l.ledger) (length l.items) (take l.item-index l.items)
