use Rattle.std.proofs.Common.{◌≡◌, true, false, sym, ◌∙◌, subst}
use Rattle.esm_model.specs.declared.setup.Setup.{Setup}
use Rattle.esm_workers.specs.Hands.{meanings, GoesOnFrom, TellsOf}
use Rattle.esm_workers.proofs.Read.{read_on}
use Rattle.esm_workers.proofs.Whole.{tells_short}
use Rattle.esm_workers.proofs.running.read_then_call.Goals as goal
use Rattle.esm_workers.proofs.running.read_then_call.Goals.{then-read_short, else-read_short}

pub returns-clause-read : goal.returns-clause-read
returns-clause-read g c =
    let author = g.T.Kept.author in
    let may_follow = g.T.Kept.may_follow in
    let setup = c.args.turn.setup in
    let book = c.read_alone-book.result.0 in
    let after = c.call_behind-book.result.book in
    let h = g.T.Kept.history book in
    let h' = g.T.Kept.history after in
    let one = c.read_alone-book.result.1 in
    let two = c.call_behind-book.result.short in
    let all = c.if-read_short.result in
    let less : all ≡ false → (one ≡ false) × (two ≡ false) = λ long. elim c.if-read_short.branch [
      | then-read_short w ↦ absurd (let both : true ≡ false = sym w.if-read_short.true ∙ (sym w.result-is ∙ long) in cc)
      | else-read_short w ↦ (w.if-read_short.false, sym w.result-is ∙ long)
    ] in
    let on : GoesOnFrom author may_follow setup 0 h h' = subst (λ (u : Setup). GoesOnFrom author may_follow u 0 h h') c.read_alone-book.ensures.setup c.call_behind-book.ensures.goes_on in
    read_on author may_follow setup (g.W.Reading.read setup c.args.reader c.read_alone-book.new.reader) h h' (g.T.Kept.mark book) (g.T.Kept.mark after) (g.T.Kept.change book) (g.T.Kept.change after) one all
    c.read_alone-book.ensures.read on c.call_behind-book.ensures.marked c.call_behind-book.ensures.change (λ long. (less long).0)

pub returns-clause-tells : goal.returns-clause-tells
returns-clause-tells g c =
    let m = meanings g.T.Kept g.T.Pooled g.C.Clock g.F.Caller in
    let setup = c.args.turn.setup in
    let after = c.call_behind-book.result in
    let h = g.T.Kept.history after.book in
    let mark = g.T.Kept.mark after.book in
    let one = c.read_alone-book.result.1 in
    let two = c.call_behind-book.result.short in
    let all = c.if-read_short.result in
    let less : all ≡ false → (one ≡ false) × (two ≡ false) = λ long. elim c.if-read_short.branch [
      | then-read_short w ↦ absurd (let both : true ≡ false = sym w.if-read_short.true ∙ (sym w.result-is ∙ long) in cc)
      | else-read_short w ↦ (w.if-read_short.false, sym w.result-is ∙ long)
    ] in
    subst (λ (u : Setup). TellsOf m u c.args.batchers h mark all c.args.callers.items after.callers.items) c.read_alone-book.ensures.setup
    (tells_short m (g.T.Kept.setup c.read_alone-book.result.0) c.args.batchers h mark two all c.args.callers.items after.callers.items (λ long. (less long).1) c.call_behind-book.ensures.tells)
