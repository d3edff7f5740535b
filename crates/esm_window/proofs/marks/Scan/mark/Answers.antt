use Rattle.esm_window.proofs.Scans.{member_ends}
use Rattle.esm_window.proofs.marks.Scan.mark.Goals as goal

pub returns-then-found-clause-found : goal.returns-then-found-clause-found
returns-then-found-clause-found c = λ more.
    let ends = member_ends c.args.body.now c.in-Keyed.start c.in-Keyed.colon c.args.place c.args.self.found more c.in_ok-found-in-Keyed.found c.in_ok-found-in-Keyed.ensures in
    rw c.in-Keyed.is (rw c.if-found.true at ends)

pub returns-else-found-clause-found : goal.returns-else-found-clause-found
returns-else-found-clause-found c = λ more.
    let ends = member_ends c.args.body.now c.in-Keyed.start c.in-Keyed.colon c.args.place c.args.self.found more c.in_ok-found-in-Keyed.found c.in_ok-found-in-Keyed.ensures in
    rw c.in-Keyed.is (rw c.if-found.false at ends)
