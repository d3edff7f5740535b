use Rattle.std.proofs.Common.{◌∙◌, ap, subst, sym}
use Rattle.std.proofs.lemmas.Result.{IfOk-weaker, IfErr-weaker}
use Rattle.esm_io.specs.Meanings.{disk as meaning}
use Rattle.esm_journal.specs.Reads.{IsOnlyRead}
use Rattle.esm_journal.specs.State.{JournalState}
use Rattle.esm_registry.specs.Lists.{mapping_at}
use Rattle.esm_mapping.specs.Named.{IsNamedById, WhyNotById}
use Rattle.esm_mapping.specs.Refusals.{IsNamedOf, WhyNotOf}
use Rattle.esm_mapping.proofs.Ids.{has_mappings, named_by_id, refused_file, refused_payloads, why_not_by_id}
use Rattle.esm_mapping.proofs.registered.read_registered.Goals as goal

-- the file was not opened

pub returns-in-Err-clause-why : goal.returns-in-Err-clause-why
returns-in-Err-clause-why g c =
    let m = meaning g.D.Disk in
    let back = c.in-Err.refused.back in
    subst (WhyNotById m c.args.id.now c.args.registry back) (sym c.error_of_file.ensures)
    (refused_file m c.args.id.now c.args.registry back c.in-Err.refused.why c.in-Err.ensures.refused)

-- its payloads are none of a registry's

pub returns-in-Err-open-clause-why : goal.returns-in-Err-open-clause-why
returns-in-Err-open-clause-why g c =
    let m = meaning g.D.Disk in
    subst (WhyNotById m c.args.id.now c.args.registry c.into_disk-in-Err-open.result) (sym c.error_of_payloads.ensures)
    (refused_payloads m c.args.id.now c.args.registry c.into_disk-in-Err-open.result c.in-Ok.journal.payloads c.in-Err-open.refused.why c.in-Ok.ensures.opened c.in-Err-open.ensures.bad)

pub returns-in-Err-open-clause-only_read : goal.returns-in-Err-open-clause-only_read
returns-in-Err-open-clause-only_read g c =
    let m = meaning g.D.Disk in
    let back = c.into_disk-in-Err-open.ensures ∙ ap (λ (j : JournalState g.row.D.Denot). j.disk) c.in-Err-open.ensures.back in
    subst (IsOnlyRead m c.args.registry) (sym back) c.in-Ok.ensures.only_read

-- the registry was opened

pub returns-in-Ok-open-clause-named : goal.returns-in-Ok-open-clause-named
returns-in-Ok-open-clause-named g c =
    let m = meaning g.D.Disk in
    let registry = c.in-Ok-open.registry in
    let has = has_mappings m c.args.registry c.in-Ok.journal registry c.in-Ok-open.ensures.journal c.in-Ok-open.ensures.kept c.in-Ok.ensures.opened in
    IfOk-weaker c.find_mapping-named.result (IsNamedOf (mapping_at c.args.id.now registry.mappings.list)) (IsNamedById m c.args.id.now c.args.registry)
    (named_by_id m c.args.id.now c.args.registry registry has) c.find_mapping-named.ensures.named

pub returns-in-Ok-open-clause-why : goal.returns-in-Ok-open-clause-why
returns-in-Ok-open-clause-why g c =
    let m = meaning g.D.Disk in
    let registry = c.in-Ok-open.registry in
    let has = has_mappings m c.args.registry c.in-Ok.journal registry c.in-Ok-open.ensures.journal c.in-Ok-open.ensures.kept c.in-Ok.ensures.opened in
    IfErr-weaker c.find_mapping-named.result (WhyNotOf (mapping_at c.args.id.now registry.mappings.list)) (WhyNotById m c.args.id.now c.args.registry c.into_disk.result)
    (why_not_by_id m c.args.id.now c.args.registry c.into_disk.result registry has) c.find_mapping-named.ensures.why

pub returns-in-Ok-open-clause-only_read : goal.returns-in-Ok-open-clause-only_read
returns-in-Ok-open-clause-only_read g c =
    let m = meaning g.D.Disk in
    let disk = λ (j : JournalState g.row.D.Denot). j.disk in
    let same = c.into_disk.ensures ∙ ap disk c.into_journal.ensures ∙ ap disk c.in-Ok-open.ensures.journal in
    subst (IsOnlyRead m c.args.registry) (sym same) c.in-Ok.ensures.only_read
