use Rattle.std.proofs.Common.{◌∙◌, ℕ, List, ◌++◌, ap, sym, subst}
use Rattle.std.specs.List.{concat}
use Rattle.esm_ddb.specs.States.{state_of}
use Rattle.esm_ddb.specs.Translating.{Stands}
use Rattle.esm_ddb.specs.Translation.{add_line, line_feed}
use Rattle.esm_ddb.proofs.Blocks.{given_after, given_before}
use Rattle.esm_ddb.proofs.Steps.{on_ok}
use Rattle.esm_ddb.proofs.parallel.end_begun.Goals as goal

pub returns-clause-stands : goal.returns-clause-stands
returns-clause-stands c = on_ok c.push_piece.result (λ pushed t before stands.
    let given : List ℕ = concat c.args.pieces.now.items in
    let P : List ℕ → Type 0 = λ out. Stands t (before ++ given) out (state_of c.args.reading.now) in
    let begins = subst P (sym c.new-out.ensures.items) (given_before t before given (state_of c.args.reading.now) stands) in
    given_after (add_line c.args.reading.now.source line_feed t (c.args.reading.now.begun.items ++ c.args.rest.now)) before given
    c.end_line.new.out.items (concat c.push_piece.new.pieces.items) (state_of c.end_line.new.self) (pushed ∙ ap (λ (l : List ℕ). given ++ l) c.from_vec.ensures)
    (c.in_ok-end_line.ensures.stands t (before ++ given) begins)) c.push_piece.ensures
