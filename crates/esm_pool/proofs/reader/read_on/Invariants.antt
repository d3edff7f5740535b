use Rattle.std.proofs.Common.{◌≡◌, false, None}
use Rattle.esm_model.specs.Books.{entries_told}
use Rattle.esm_model.specs.Entries.{is_shut}
use Rattle.esm_input.specs.Reading.{handed}
use Rattle.esm_model.specs.Coming.{AreCome}
use Rattle.esm_workers.specs.Seated.{IsSeated}
use Rattle.esm_pool.specs.Ran.{IsSameInput}
use Rattle.esm_pool.proofs.reader.read_on.Given as goal

abbrev pub invariant-loop : goal.invariant-loop
invariant-loop g l = (goal.iterator-loop g).can_next l.iterator' × (goal.iterator-loop g).is_finite l.iterator'
    × IsSeated g.B.Kept.author g.B.Kept.may_follow g.C.Clock.gave l.turn 0 l.seat
    × (is_shut (entries_told l.seat.seen) ≡ false)
    × (l.seat.change ≡ None)
    × AreCome (g.B.Pooled.items l.seat.seen) (handed l.input)
    × (l.input.failed ≡ false)
    × IsSameInput l.fn.input l.input
