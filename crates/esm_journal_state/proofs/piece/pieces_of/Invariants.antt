use Rattle.std.proofs.Common.{◌≡◌, []}
use Rattle.std.specs.Prelude.{reverse}
use Rattle.esm_journal_state.specs.Pieces.{pieces_after}
use Rattle.esm_journal_state.proofs.piece.pieces_of.Given as goal

abbrev pub invariant-loop-group : goal.invariant-loop-group
invariant-loop-group l = pieces_after (reverse l.pieces.items) l.group-iterator ≡ pieces_after [] l.fn.named.entries
