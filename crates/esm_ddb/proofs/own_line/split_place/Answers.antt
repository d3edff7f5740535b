use Rattle.std.proofs.Common.{◌≡◌, true, arith}
use Rattle.esm_model.specs.Sequence.{is_sequence}
use Rattle.esm_ddb.specs.Change.{is_view_type}
use Rattle.esm_ddb.proofs.OwnPieces.{place_passed}
use Rattle.esm_ddb.proofs.own_line.split_place.Goals as goal

pub returns-then-is_view_type : goal.returns-then-is_view_type
returns-then-is_view_type c =
    let seq : is_sequence c.in_ok-seq.seq.now ≡ true = cc in
    let view : is_view_type c.in_ok-view.view.now ≡ true = cc in
    place_passed c.args.text.now c.in_ok-begun.begun.now c.in_ok-seq.seq.now c.in_ok-seq.behind_seq.now c.in_ok-sized.sized.now c.in_ok-size.behind_size.now c.in_ok-viewed.viewed.now c.in_ok-view.view.now
    c.in_ok-view.rest.now c.in_ok-size.size
    c.in_ok-begun.ensures c.in_ok-seq.ensures c.in_ok-sized.ensures c.in_ok-size.ensures c.in_ok-viewed.ensures c.in_ok-view.ensures seq (omega arith) view
