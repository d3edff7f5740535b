use Rattle.std.proofs.Common.{◌∙◌, ap, refl, subst, sym}
use Rattle.std.specs.Prelude.{IfOk}
use Rattle.std.proofs.lemmas.Result.{IfOk-weaker, on_err_weaker}
use Rattle.esm_journal.specs.Reads.{IsOnlyRead}
use Rattle.esm_journal.specs.State.{JournalState}
use Rattle.esm_run.specs.Serve.{IsServeEnd}
use Rattle.esm_run.specs.World.{door_of, serve_tells}
use Rattle.esm_run.proofs.Serves.{is_opened, refused_file, refused_payloads, unserved}
use Rattle.esm_run.proofs.registry_file.serve_file.Goals as goal

pub returns-in-Err-clause-end : goal.returns-in-Err-clause-end
returns-in-Err-clause-end g c =
    let o = serve_tells g.C.Clock g.L.Conn.Link g.D.Disk in
    let door = door_of g.L.Door.faults g.L.Door.closed c.args.door.now c.args.door.now in
    subst (λ r. IfOk r (IsServeEnd o c.args.disk c.in-Err.refused.back door c.args.requests)) (sym c.end_of_file.ensures)
    (refused_file o c.args.disk c.in-Err.refused.back door c.args.requests c.in-Err.refused.why (unserved o.disk c.args.disk c.in-Err.refused.back door c.in-Err.ensures.back refl refl)
    c.in-Err.ensures.refused)

pub returns-in-Err-open-clause-end : goal.returns-in-Err-open-clause-end
returns-in-Err-open-clause-end g c =
    let o = serve_tells g.C.Clock g.L.Conn.Link g.D.Disk in
    let door = door_of g.L.Door.faults g.L.Door.closed c.args.door.now c.args.door.now in
    let back = c.into_disk.ensures ∙ ap (λ (j : JournalState g.row.D.Denot). j.disk) c.in-Err-open.ensures.back in
    subst (λ r. IfOk r (IsServeEnd o c.args.disk c.into_disk.result door c.args.requests)) (sym c.end_of_payloads.ensures)
    (refused_payloads o c.args.disk c.into_disk.result door c.args.requests c.in-Ok.journal.payloads c.in-Err-open.refused.why
    (unserved o.disk c.args.disk c.into_disk.result door (subst (IsOnlyRead o.disk c.args.disk) (sym back) c.in-Ok.ensures.only_read) refl refl)
    c.in-Ok.ensures.opened c.in-Err-open.ensures.bad)

pub returns-in-Ok-open-clause-end : goal.returns-in-Ok-open-clause-end
returns-in-Ok-open-clause-end g c =
    let o = serve_tells g.C.Clock g.L.Conn.Link g.D.Disk in
    let door = door_of g.L.Door.faults g.L.Door.closed c.args.door.now c.serve_registry.new.door in
    IfOk-weaker c.serve_registry.result.end _ (IsServeEnd o c.args.disk c.serve_registry.result.disk door c.args.requests)
    (λ e ends. ends c.args.disk (is_opened o.disk c.args.disk c.in-Ok.journal c.in-Ok-open.registry c.in-Ok-open.ensures.journal c.in-Ok-open.ensures.kept c.in-Ok.ensures.fresh.0
    c.in-Ok.ensures.opened c.in-Ok.ensures.kept c.in-Ok.ensures.only_read))
    c.serve_registry.ensures.end

pub returns-in-Ok-open-clause-cut : goal.returns-in-Ok-open-clause-cut
returns-in-Ok-open-clause-cut g c =
    let o = serve_tells g.C.Clock g.L.Conn.Link g.D.Disk in
    on_err_weaker c.serve_registry.result.end
    (λ cut. cut c.args.disk (is_opened o.disk c.args.disk c.in-Ok.journal c.in-Ok-open.registry c.in-Ok-open.ensures.journal c.in-Ok-open.ensures.kept c.in-Ok.ensures.fresh.0
    c.in-Ok.ensures.opened c.in-Ok.ensures.kept c.in-Ok.ensures.only_read))
    c.serve_registry.ensures.cut
