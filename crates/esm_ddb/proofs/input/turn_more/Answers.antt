use Rattle.std.proofs.Common.{◌≡◌, ◌==◌, sym, subst}
use Rattle.std.specs.List.{concat}
use Rattle.esm_ddb.specs.TurnedSoFar.{StandsSo, end_by}
use Rattle.esm_ddb.proofs.TurnedPieces.{more_read}
use Rattle.esm_ddb.proofs.input.turn_more.Goals as goal

pub returns-clause-stands : goal.returns-clause-stands
returns-clause-stands g c = λ s first was.
    let same : c.end_of.result ≡ end_by (c.in-Ok.count == 0) c.in_ok-turned.turned.bad = c.end_of.ensures in
    subst (StandsSo g.S.Source.faults g.S.Source.left s first c.read_bytes.new.source c.turn_piece.new.translator c.push_all.new.text) (sym same)
    (more_read g.S.Source.faults g.S.Source.left s first c.args.source.now c.read_bytes.new.source c.args.translator.now c.turn_piece.new.translator c.args.text.now c.push_all.new.text was
    c.in-Ok.count _ c.deref.result.now c.read_bytes.new.buffer.items (concat c.in_ok-turned.turned.pieces.items) c.in_ok-turned.turned.bad
    c.deref.ensures.value c.deref.ensures.len c.in-Ok.ensures.within c.in_ok-push_all.ensures c.in-Ok.ensures.taken c.in-Ok.ensures.end c.read_bytes.ensures.count
    c.in_ok-turned.ensures.text c.in_ok-turned.ensures.bad c.in_ok-turned.ensures.fed c.in_ok-turned.ensures.finished c.turn_piece.ensures.source)
