use Rattle.std.proofs.Common.{◌≡◌, ◌∙◌, ℕ, List, length, arith, sym, ap}
use Rattle.esm_journal.specs.File.{eight_at}
use Rattle.esm_journal.proofs.Heads.{too_short, other_header, differ}
use Rattle.esm_journal.proofs.found.read_file.Goals as goal
use Rattle.esm_journal.proofs.found.read_file.Goals.{then-head-lt8-via-then-head-lt8, then-head-lt8-via-else-head-lt8+then-ne}

pub returns-then-head-lt8-clause-refused : goal.returns-then-head-lt8-clause-refused
returns-then-head-lt8-clause-refused g c = λ h.
    let settled = c.settle.ensures.only_read in
    let is = c.in_ok-head.ensures.head (settled.honesty ∙ h) in
    let content = g.D.Disk.content c.args.disk.now in
    let same = settled.same h in
    let size : c.in_ok-head.head.size ≡ length content = is.size ∙ ap (λ (l : List ℕ). length l) same in
    let first : c.in_ok-head.head.first ≡ eight_at content 0 = is.first ∙ ap (λ l. eight_at l 0) same in
    elim c.then-head-lt8.branch [
      | then-head-lt8-via-then-head-lt8 w ↦ (too_short c.args.header content c.requires (omega (arith, w.if-head-lt8.true, size)), first)
      | then-head-lt8-via-else-head-lt8+then-ne w ↦ (other_header c.args.header content c.requires (omega (arith, w.if-head-lt8.false, size)) (λ e. differ c.in_ok-head.head.first c.args.header (sym w.ne.ensures ∙ w.if-ne.true) (first ∙ e)), first)
    ]
