use Rattle.std.proofs.Common.{◌∙◌, List, ℕ, sym, subst}
use Rattle.esm_model.specs.declared.limits.TheConstants.{MAX_LINE}
use Rattle.esm_book.specs.Decided.{IsLineWithin}
use Rattle.esm_redrive_core.specs.RedriveView.{all_messages}
use Rattle.esm_redrive_core.proofs.Telling.{lines_told}
use Rattle.esm_redrive_core.proofs.decisions.RedriveCoreDecisions.owed_line_bound.Goals as goal

pub returns-then-owes_line-clause-within : goal.returns-then-owes_line-clause-within
returns-then-owes_line-clause-within c =
    let v = c.args.self.now in
    subst (λ (lines : List (List ℕ)). IsLineWithin lines MAX_LINE) (sym (lines_told (all_messages v) v.owed)) (c.owes_line.ensures.yes c.if-owes_line.true)

pub returns-else-owes_line-clause-none : goal.returns-else-owes_line-clause-none
returns-else-owes_line-clause-none c =
    let v = c.args.self.now in
    lines_told (all_messages v) v.owed ∙ c.owes_line.ensures.no c.if-owes_line.false
