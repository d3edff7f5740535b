use Rattle.std.proofs.Common.{◌∙◌, arith, subst, sym}
use Rattle.std.specs.Prelude.{◌≢◌, IfOk}
use Rattle.esm_io.specs.Meanings.{disk as meaning}
use Rattle.esm_journal_state.specs.Bad.{IsFirstBad}
use Rattle.esm_folder.specs.Upkeep.{IsCompactEnd}
use Rattle.esm_folder.proofs.Rewrites.{are_compacted, bad_end, read_of_opened, whatever_error}
use Rattle.esm_folder.proofs.OpenedDisks.{are_kept_read, compacting_read}
use Rattle.esm_folder.proofs.compacting.compact_pair.Goals as goal

pub returns-in-Err : goal.returns-in-Err
returns-in-Err g c =
    let m = meaning g.D.Disk in
    let p = c.args.pair in
    let read = read_of_opened m c.ended-in-Err.result.journal c.ended-in-Err.result.spare p c.ended-in-Err.ensures.journal c.ended-in-Err.ensures.spare in
    let other : p.epoch ≢ 18446744073709551615 = omega (arith, c.epoch.ensures, c.if-epoch.false) in
    let bad : IsFirstBad p.payloads c.in-Err.why = subst (λ l. IsFirstBad l c.in-Err.why) c.payloads.ensures.payloads c.in-Err.ensures.bad in
    record {
      end = λ journal spare o. subst (λ r. IfOk r (IsCompactEnd m journal spare c.ended-in-Err.result.journal c.ended-in-Err.result.spare)) (sym (c.ended-in-Err.ensures.end ∙ c.end_of_payloads.ensures))
          (bad_end m journal spare c.ended-in-Err.result.journal c.ended-in-Err.result.spare p c.in-Err.why o other bad (read journal spare o));
      images = λ journal spare o. compacting_read m journal spare c.ended-in-Err.result.journal c.ended-in-Err.result.spare (read journal spare o);
      unwritten = λ journal spare o. whatever_error _ c.ended-in-Err.result.end (read journal spare o);
      kept = λ journal spare o. are_kept_read m journal spare c.ended-in-Err.result.journal c.ended-in-Err.result.spare (read journal spare o);
    }

pub rewrite-requires-clause-compacted : goal.rewrite-requires-clause-compacted
rewrite-requires-clause-compacted g c =
    are_compacted c.payloads.result.now c.args.pair.payloads c.in-Ok.list.items c.deref.result.now c.payloads.ensures.payloads (sym c.deref.ensures.value)
    c.in-Ok.ensures.good c.in-Ok.ensures.listed c.in-Ok.ensures.same c.in-Ok.ensures.fine
