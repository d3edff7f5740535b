use Rattle.std.proofs.Common.{subst, sym}
use Rattle.std.specs.Prelude.{IfOk}
use Rattle.std.proofs.lemmas.Result.{IfOk-weaker}
use Rattle.esm_io.specs.Meanings.{disk as meaning}
use Rattle.esm_folder.specs.Opened.{IsJudged}
use Rattle.esm_folder.specs.Upkeep.{IsShowEnd}
use Rattle.esm_folder.proofs.Ends.{show_judged, show_refused}
use Rattle.esm_folder.proofs.showing.show.Goals as goal

pub returns-in-Ok-clause-end : goal.returns-in-Ok-clause-end
returns-in-Ok-clause-end g c =
    let m = meaning g.D.Disk in
    let p = c.in-Ok.pair in
    let end = IsShowEnd m c.args.journal c.args.spare c.ended.result.journal c.ended.result.spare in
    subst (λ r. IfOk r end) (sym c.ended.ensures.end)
    (IfOk-weaker c.show_payloads-end.result (IsJudged c.payloads.result.now) end
    (λ e h. show_judged m c.args.journal c.args.spare c.ended.result.journal c.ended.result.spare p.payloads (λ honest. (p.epoch, c.in-Ok.ensures.opened honest.0 honest.1)) e
    (subst (λ l. IsJudged l e) c.payloads.ensures.payloads h))
    c.show_payloads-end.ensures)

pub returns-in-Err-clause-end : goal.returns-in-Err-clause-end
returns-in-Err-clause-end g c =
    let m = meaning g.D.Disk in
    let back = c.in-Err.refused.back in
    subst (λ r. IfOk r (IsShowEnd m c.args.journal c.args.spare back.0 back.1)) (sym c.end_of_file.ensures)
    (show_refused m c.args.journal c.args.spare back.0 back.1 c.in-Err.refused.why (c.in-Err.ensures.first_back, c.in-Err.ensures.second_back) c.in-Err.ensures.refused)
