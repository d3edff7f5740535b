use Rattle.std.proofs.Common.{◌≡◌, ℕ, Bool, List, length, None, refl, subst}
use Rattle.std.proofs.lemmas.Option.{slice_get_read}
use Rattle.esm_replay_model.specs.FailureRange.{failure_range}
use Rattle.esm_replay_book.specs.Opening.{IsTaken}
use Rattle.esm_replay_book.proofs.Openings.{first_bad}
use Rattle.esm_replay_book.proofs.opening.read_lines.Goals as goal

pub returns-then-not-branch-clause-bad : goal.returns-then-not-branch-clause-bad
returns-then-not-branch-clause-bad c =
    let lines = c.args.lines.now in
    let line = c.index-lines-index.result in
    let at = slice_get_read lines (length lines) c.loop-index.index line refl c.loop-index-test.true c.index-lines-index.is in
    let taken = subst (λ (good : Bool). IsTaken c.as_slice.result.now c.loop-index.ranges.items c.take.new.ranges.items good) c.if-not-branch.true (c.in_ok-take.ensures {u = tt}) in
    let bad : failure_range c.index-lines-index.result ≡ None = subst (λ (text : List ℕ). failure_range text ≡ None) c.as_slice.ensures taken in
    first_bad lines c.loop-index.ranges.items c.loop-index.index line c.bad_line.result at c.loop-index.invariant bad c.bad_line.ensures
