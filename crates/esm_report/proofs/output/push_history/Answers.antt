use Rattle.std.proofs.Common.{◌≡◌, reverse, arith}
use Rattle.std.proofs.lemmas.Grind.{common_steps}
use Rattle.esm_report.specs.Report.{shard_lines}
use Rattle.esm_report.specs.Totals.{total_lines}
use Rattle.esm_report.proofs.Telling.{lines_are}
use Rattle.esm_report.proofs.output.push_history.Goals as goal

pub returns : goal.returns
returns c = λ s same.
    let lines : total_lines c.args.said.now c.in_ok-totals.totals ≡ shard_lines s (reverse c.args.trace.now) = lines_are c.args.said.now c.in_ok-totals.totals s (reverse c.args.trace.now) same c.in_ok-totals.ensures in
    grind (arith, common_steps, lines)
