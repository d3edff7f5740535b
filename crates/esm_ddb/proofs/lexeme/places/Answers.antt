use Rattle.std.proofs.Common.{◌∙◌, sym, ap}
use Rattle.esm_window.specs.Layout.{next}
use Rattle.esm_ddb.specs.Lexemes.{begins, mode_of}
use Rattle.esm_ddb.proofs.Places.{all_noted, all_places, noted}
use Rattle.esm_ddb.proofs.lexeme.places.Goals as goal

pub loop-place-preserved : goal.loop-place-preserved
loop-place-preserved c =
    let text = c.args.text.now in
    let l = c.loop-place in
    let starts = c.begins.ensures ∙ ap (begins (mode_of l.mode)) c.kind_of-kind.ensures in
    let mode = c.after-mode.ensures ∙ ap (next (mode_of l.mode)) c.kind_of-kind.ensures in
    rw (c.in_ok-note.ensures, starts, mode) (sym (noted text l.found.items (mode_of l.mode) l.place c.loop-place-test.true) ∙ l.invariant)

pub returns : goal.returns
returns c =
    let text = c.args.text.now in
    let l = c.loop-place in
    sym (all_noted text l.found.items (mode_of l.mode) l.place c.loop-place-test.false) ∙ l.invariant ∙ all_places text
