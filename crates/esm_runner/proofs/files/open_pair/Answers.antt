use Rattle.std.proofs.Common.{subst}
use Rattle.esm_io.specs.Meanings.{disk as meaning}
use Rattle.esm_journal_state.specs.Bad.{IsFirstBad}
use Rattle.esm_journal_state.specs.declared.error.SaysError.TheVariants as judged
use Rattle.esm_runner.proofs.Openings.{bad_refused, pair_read}
use Rattle.esm_runner.proofs.files.open_pair.Goals as goal

pub returns-in-Err-BadPayload-clause-refused : goal.returns-in-Err-BadPayload-clause-refused
returns-in-Err-BadPayload-clause-refused g c =
    let m = meaning g.D.Disk in
    let p = c.in-Ok.pair in
    let index = c.in-Err-BadPayload.index in
    let bad : IsFirstBad c.payloads.result.now (judged.BadPayload index) = rw c.in-Err-BadPayload.field-0-is at c.in-Err-BadPayload.ensures.bad in
    bad_refused m c.args.journal c.args.spare c.into_disks.result.0 c.into_disks.result.1 p index
    (λ honest. c.in-Ok.ensures.opened honest.0 honest.1)
    (subst (λ l. IsFirstBad l (judged.BadPayload index)) c.payloads.ensures.payloads bad)
    (pair_read m c.args.journal c.args.spare c.into_disks.result.0 c.into_disks.result.1 p c.into_disks.ensures.first c.into_disks.ensures.second (c.in-Ok.ensures.first_read, c.in-Ok.ensures.second_read))
