use Rattle.std.proofs.Common.{subst, sym}
use Rattle.esm_io.specs.Meanings.{disk as meaning}
use Rattle.esm_runner.specs.Files.{AreRefused}
use Rattle.esm_runner.proofs.Openings.{lines_refused, opened_files, pair_read}
use Rattle.esm_runner.proofs.files.open_failures.Goals as goal

pub invariant_of-result : goal.invariant_of-result
invariant_of-result g c =
    let m = meaning g.D.Disk in
    let o = c.args.opened in
    opened_files m o.journal.value o.spare.value c.args.failures c.of-before.result.value o.pair o.said c.in-Ok.lines c.new.result
    c.requires c.of-before.ensures c.new.ensures c.in-Ok.ensures.opened c.in-Ok.ensures.fresh.0 c.in-Ok.ensures.only_read c.in-Ok.ensures.kept

pub returns-in-Err-clause-refused : goal.returns-in-Err-clause-refused
returns-in-Err-clause-refused g c =
    let m = meaning g.D.Disk in
    let o = c.args.opened in
    let one = c.into_disks-journal.result.0 in
    let other = c.into_disks-journal.result.1 in
    let back = c.in-Err.refused.back in
    subst (AreRefused m o.journal.value o.spare.value c.args.failures one other back) (sym c.refusal.ensures)
    (lines_refused m o.journal.value o.spare.value c.args.failures one other back o.pair o.said c.in-Err.refused.why c.requires
    (pair_read m o.journal.value o.spare.value one other o.pair c.into_disks-journal.ensures.first c.into_disks-journal.ensures.second c.requires.read)
    c.in-Err.ensures.back c.in-Err.ensures.refused)
