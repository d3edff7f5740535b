use Rattle.std.proofs.Common.{◌∙◌, [], ap}
use Rattle.std.specs.List.{concat}
use Rattle.esm_ddb.proofs.Pieces.{pushed}
use Rattle.esm_ddb.proofs.text_pieces.push_piece.Goals as goal

pub returns : goal.returns
returns c = ap concat c.in_ok-push.ensures.items ∙ pushed [] c.args.piece c.args.pieces.now.items
