use Rattle.std.proofs.Common.{◌≡◌, [], sym, ap, ◌∙◌}
use Rattle.std.specs.Prelude.{reverse}
use Rattle.std.proofs.lemmas.List.{reverse-reverse}
use Rattle.esm_journal_state.specs.Pieces.{pieces_after}
use Rattle.esm_journal_state.proofs.piece.pieces_of.Goals as goal

pub returns : goal.returns
returns c =
    let ended : c.loop-group.group-iterator ≡ [] = c.in-None.ensures.steps.0 in
    let all : reverse c.loop-group.pieces.items ≡ pieces_after [] c.args.named.entries =
    sym (ap (λ es. pieces_after (reverse c.loop-group.pieces.items) es) ended) ∙ c.loop-group.invariant in
    sym (reverse-reverse c.loop-group.pieces.items) ∙ ap reverse all
