use Rattle.std.proofs.Common.{◌≡◌, length, false, None}
use Rattle.std.specs.List.{All}
use Rattle.esm_model.specs.Books.{entries_told}
use Rattle.esm_model.specs.Entries.{is_shut}
use Rattle.esm_model.specs.Items.{IsValidItem}
use Rattle.esm_workers.specs.Seated.{IsSeated}
use Rattle.esm_pool.proofs.Arriving.{IsHanding}
use Rattle.esm_pool.proofs.coming.hand_on.Given as goal

abbrev pub invariant-loop-rest : goal.invariant-loop-rest
invariant-loop-rest g l = IsSeated g.B.Kept.author g.B.Kept.may_follow g.C.Clock.gave l.turn 0 l.seat
    × (is_shut (entries_told l.seat.seen) ≡ false)
    × (l.seat.change ≡ None)
    × All (IsValidItem (g.B.Pooled.kind l.turn.setup)) l.rest.items
    × IsHanding (g.B.Pooled.items l.fn.seat.seen) (g.B.Pooled.items l.seat.seen) l.fn.items.items l.rest.items

abbrev pub decreases-loop-rest : goal.decreases-loop-rest
decreases-loop-rest g l = length l.rest.items
