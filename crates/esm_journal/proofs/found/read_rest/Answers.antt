use Rattle.std.proofs.Common.{◌∙◌, arith, sym}
use Rattle.std.proofs.lemmas.Result.{err_from_is_err_and}
use Rattle.esm_journal.specs.File.{epoch_in}
use Rattle.esm_journal.proofs.Heads.{rest_says, file_found}
use Rattle.esm_journal.proofs.Runs.{refused_more}
use Rattle.esm_journal.proofs.found.read_rest.Goals as goal

pub returns-in_err-payloads-clause-refused : goal.returns-in_err-payloads-clause-refused
returns-in_err-payloads-clause-refused g c =
    let p = err_from_is_err_and c.from_residual.result c.from_residual.ensures.1 in
    let content = g.D.Disk.content c.args.disk.now in
    rw (p.1, p.2) (refused_more _ _ _ _ _ _ c.in_err-payloads.field-0.0 c.in_err-payloads.ensures.refused (λ first none. none)
    (λ place bad h. let is = c.requires h in let size = is.size in rest_says content (omega arith) (sym is.seal ∙ c.if-head-ne1.false) ∙ bad h (epoch_in content))
    (λ rose. rose))

pub returns-clause-found : goal.returns-clause-found
returns-clause-found g c = λ h.
    let is = c.requires h in
    let size = is.size in
    let content = g.D.Disk.content c.args.disk.now in
    file_found content c.args.head.now c.in_ok-payloads.payloads.items c.in_ok-payloads.end is is.fits (omega arith) c.if-head-ne1.false
    (c.in_ok-payloads.ensures.entries h) (c.in_ok-payloads.ensures.closed h) (let within = c.in_ok-payloads.ensures.within in omega arith) c.in_ok-payloads.ensures.short
