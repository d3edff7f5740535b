use Rattle.std.proofs.Common.{subst, sym}
use Rattle.std.specs.Prelude.{IfOk}
use Rattle.std.proofs.lemmas.Result.{IfOk-weaker}
use Rattle.esm_io.specs.Meanings.{disk as meaning}
use Rattle.esm_folder.specs.Opened.{IsJudgedMigration}
use Rattle.esm_folder.specs.Upkeep.{IsMigrateEnd}
use Rattle.esm_folder.proofs.Ends.{migrate_judged, migrate_refused}
use Rattle.esm_folder.proofs.Versions.{IsOpenedAnew, migrated_or_found, migrating_opened}
use Rattle.esm_folder.proofs.migrating.migrate.Goals as goal

pub returns-in-Ok-clause-end : goal.returns-in-Ok-clause-end
returns-in-Ok-clause-end g c =
    let m = meaning g.D.Disk in
    let p = c.in-Ok.migrated.pair in
    let was = c.in-Ok.migrated.was in
    let end = IsMigrateEnd m c.args.journal c.args.spare c.ended.result.journal c.ended.result.spare in
    let opened : IsOpenedAnew m c.args.journal c.args.spare c.ended.result.journal c.ended.result.spare p was = record {
      version = λ honest. c.in-Ok.ensures.migrated.version honest.0 honest.1;
      found = λ honest. c.in-Ok.ensures.migrated.found honest.0 honest.1;
      bytes = λ honest. c.in-Ok.ensures.migrated.bytes honest.0 honest.1;
      keeps = λ honest. c.in-Ok.ensures.migrated.kept honest.0 honest.1;
      first_read = c.in-Ok.ensures.migrated.first_read;
      second_read = c.in-Ok.ensures.migrated.second_read;
      first = c.ended.ensures.journal;
      second = c.ended.ensures.spare;
    } in
    subst (λ r. IfOk r end) (sym c.ended.ensures.end)
    (IfOk-weaker c.judge-end.result (IsJudgedMigration c.payloads.result.now was) end
    (λ e h. migrate_judged m c.args.journal c.args.spare c.ended.result.journal c.ended.result.spare p.payloads was
    (migrated_or_found m c.args.journal c.args.spare c.ended.result.journal c.ended.result.spare p was opened) e
    (subst (λ l. IsJudgedMigration l was e) c.payloads.ensures.payloads h))
    c.judge-end.ensures)

pub returns-in-Err-clause-end : goal.returns-in-Err-clause-end
returns-in-Err-clause-end g c =
    let m = meaning g.D.Disk in
    let back = c.in-Err.refused.back in
    subst (λ r. IfOk r (IsMigrateEnd m c.args.journal c.args.spare back.0 back.1)) (sym c.end_of_file.ensures)
    (migrate_refused m c.args.journal c.args.spare back.0 back.1 c.in-Err.refused.why c.in-Err.ensures.refused.first_back c.in-Err.ensures.refused.second_back c.in-Err.ensures.refused.refused)

pub returns-in-Ok-clause-images : goal.returns-in-Ok-clause-images
returns-in-Ok-clause-images g c =
    let m = meaning g.D.Disk in
    let opened : IsOpenedAnew m c.args.journal c.args.spare c.ended.result.journal c.ended.result.spare c.in-Ok.migrated.pair c.in-Ok.migrated.was = record {
      version = λ honest. c.in-Ok.ensures.migrated.version honest.0 honest.1;
      found = λ honest. c.in-Ok.ensures.migrated.found honest.0 honest.1;
      bytes = λ honest. c.in-Ok.ensures.migrated.bytes honest.0 honest.1;
      keeps = λ honest. c.in-Ok.ensures.migrated.kept honest.0 honest.1;
      first_read = c.in-Ok.ensures.migrated.first_read;
      second_read = c.in-Ok.ensures.migrated.second_read;
      first = c.ended.ensures.journal;
      second = c.ended.ensures.spare;
    } in
    migrating_opened m c.args.journal c.args.spare c.ended.result.journal c.ended.result.spare c.in-Ok.migrated.pair c.in-Ok.migrated.was opened
    (λ honest settled version. c.in-Ok.ensures.migrated.images honest.0 honest.1 version settled.0 settled.1)

pub returns-in-Err-clause-images : goal.returns-in-Err-clause-images
returns-in-Err-clause-images g c = record {
  version_1 = λ honest settled version. c.in-Err.ensures.refused.images honest.0 honest.1 version settled.0 settled.1;
  version_2 = λ honest version. c.in-Err.ensures.refused.unwritten honest.0 honest.1 version;
}
