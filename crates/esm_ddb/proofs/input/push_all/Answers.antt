use Rattle.std.proofs.Common.{◌∙◌, ◌++◌, sym, ap}
use Rattle.esm_ddb.proofs.Pieces.{pushed}
use Rattle.esm_ddb.proofs.input.push_all.Goals as goal

pub loop-piece-preserved : goal.loop-piece-preserved
loop-piece-preserved c =
    c.in_ok-push.ensures ∙ ap (λ l. l ++ c.in-Some.piece) c.loop-piece.invariant ∙ sym (pushed c.args.text.now c.in-Some.piece c.loop-piece.yielded)
