use Rattle.std.proofs.Common.{◌++◌, sym, ap, subst, ◌∙◌}
use Rattle.esm_record.specs.Input.{Input}
use Rattle.esm_record.specs.Parsing.{add_parsed}
use Rattle.esm_record.specs.Splitting.{Stands}
use Rattle.esm_record.proofs.Parses.{add_judged}
use Rattle.esm_record.proofs.Steps.{on_ok}
use Rattle.esm_record.proofs.splitter.Splitter.end_line.Goals as goal

pub returns-clause-stands : goal.returns-clause-stands
returns-clause-stands c = on_ok c.take_line.result (λ step input before stands.
    let P : Input → Type 0 = λ i. Stands i before c.take_line.new.items.items c.take_line.new.self in
    let line = c.args.self.now.begun.items ++ c.args.rest.now in
    subst P (ap (add_parsed input) c.in_ok-parsed.ensures.said ∙ sym (add_judged c.args.self.now.kind input line))
    (step input before (record { items = stands.items; bad = stands.bad; lines = stands.lines; seen = stands.seen }))) c.take_line.ensures.stands
