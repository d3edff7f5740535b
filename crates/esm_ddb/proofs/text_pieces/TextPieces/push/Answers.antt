use Rattle.std.proofs.Common.{◌∙◌, ap, ◌++◌, drop}
use Rattle.std.specs.List.{concat}
use Rattle.esm_ddb.proofs.Pieces.{pushed}
use Rattle.esm_ddb.proofs.text_pieces.TextPieces.push.Goals as goal
use Rattle.esm_ddb.proofs.text_pieces.TextPieces.push.Goals.{in-Ok, in-Err}

pub returns : goal.returns
returns c = elim c.match-push_back.branch [
  | in-Ok w ↦
      let grown = pushed (drop c.self.inside.at c.self.inside.first) c.args.piece c.self.inside.others.items in
      rw w.result-is (ap (λ l. drop c.self.inside.at c.self.inside.first ++ concat l) w.in-Ok.ensures.items ∙ grown ∙ ap (λ l. l ++ c.args.piece) c.self.view_is)
  | in-Err w ↦ rw w.result-is tt
]
