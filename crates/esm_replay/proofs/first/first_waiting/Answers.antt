use Rattle.std.proofs.Common.{◌∙◌, List, ap, subst, sym}
use Rattle.std.specs.List.{All}
use Rattle.std.proofs.lemmas.Result.{IfOk-weaker}
use Rattle.esm_replay.specs.Records.{setting_with}
use Rattle.esm_replay.specs.Waiting.{NamedPiece, seen_pieces, IsPlaced}
use Rattle.esm_replay.proofs.FirstPieces.{first_seen, first_placed}
use Rattle.esm_replay.proofs.first.first_waiting.Goals as goal

pub returns-clause-pieces : goal.returns-clause-pieces
returns-clause-pieces c =
    IfOk-weaker c.pieces_in.result _ _
    (λ w e told ranges are config calls. ap (λ (ps : List NamedPiece). seen_pieces ps) e ∙ first_seen config calls told ranges c.args.records.now c.in_ok-rows.rows c.len.ensures.ordered (c.in_ok-rows.ensures told ranges are config calls))
    c.pieces_in.ensures

pub returns-clause-placed : goal.returns-clause-placed
returns-clause-placed c =
    IfOk-weaker c.pieces_in.result _ _
    (λ w e told ranges are config calls. subst (λ (ps : List NamedPiece). All (IsPlaced (setting_with config calls told ranges c.args.records.now) c.args.records.now) ps) (sym e)
    (first_placed config calls told ranges c.args.records.now c.in_ok-rows.rows c.len.ensures.ordered (c.in_ok-rows.ensures told ranges are config calls)))
    c.pieces_in.ensures
