use Rattle.std.proofs.Common.{◌∙◌, ◌++◌, ◌+◌, ap, take, drop, List, ℕ}
use Rattle.esm_event.proofs.Appending.{then}
use Rattle.esm_ddb.proofs.Loops.{rest_is}
use Rattle.esm_ddb.specs.FailureLine.{table_part}
use Rattle.esm_ddb.proofs.failure_line.push_renamed.Goals as goal

pub returns-clause-text : goal.returns-clause-text
returns-clause-text c =
    let old = c.args.out.now.items in
    let front = take c.args.at c.args.line.now in
    let rest = drop (c.args.at + 19) c.args.line.now in
    let more = then c.extend_from_slice.new.self.items c.extend_from_slice-2.new.self.items c.extend_from_slice-3.new.self.items table_part rest c.in_ok-extend_from_slice-2.ensures.items
    (c.in_ok-extend_from_slice-3.ensures.items ∙ ap (λ (t : List ℕ). c.extend_from_slice-2.new.self.items ++ t) (rest_is c.args.line.now (c.args.at + 19))) in
    then old c.extend_from_slice.new.self.items c.extend_from_slice-3.new.self.items front (table_part ++ rest) c.in_ok-extend_from_slice.ensures.items more
