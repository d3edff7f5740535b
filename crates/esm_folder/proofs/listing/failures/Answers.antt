use Rattle.std.proofs.Common.{subst, sym}
use Rattle.std.specs.Prelude.{IfOk}
use Rattle.std.proofs.lemmas.Result.{IfOk-weaker}
use Rattle.esm_io.specs.Meanings.{disk as meaning}
use Rattle.esm_folder.specs.Opened.{IsListed}
use Rattle.esm_folder.specs.Upkeep.{IsFailuresEnd}
use Rattle.esm_folder.proofs.Ends.{failures_listed, failures_refused}
use Rattle.esm_folder.proofs.listing.failures.Goals as goal

pub returns-in-Ok-clause-end : goal.returns-in-Ok-clause-end
returns-in-Ok-clause-end g c =
    let m = meaning g.D.Disk in
    let end = IsFailuresEnd m c.args.disk c.into_disk.result in
    IfOk-weaker c.list_payloads-end.result (IsListed c.payloads.result.now) end
    (λ e h. failures_listed m c.args.disk c.into_disk.result c.in-Ok.journal.payloads c.in-Ok.ensures.opened e (subst (λ l. IsListed l e) c.payloads.ensures.payloads h))
    c.list_payloads-end.ensures

pub returns-in-Err-clause-end : goal.returns-in-Err-clause-end
returns-in-Err-clause-end g c =
    let m = meaning g.D.Disk in
    let back = c.in-Err.refused.back in
    subst (λ r. IfOk r (IsFailuresEnd m c.args.disk back)) (sym c.end_of_file.ensures)
    (failures_refused m c.args.disk back c.in-Err.refused.why c.in-Err.ensures.back c.in-Err.ensures.refused)
