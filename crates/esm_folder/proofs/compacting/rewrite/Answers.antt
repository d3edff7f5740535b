use Rattle.std.proofs.Common.{◌∙◌, Err, ap, arith, rules}
use Rattle.std.specs.Prelude.{◌≢◌}
use Rattle.esm_io.specs.Meanings.{disk as meaning}
use Rattle.esm_journal.specs.Pair.{first_disk, second_disk}
use Rattle.esm_folder.specs.Opened.{IsOverwritten}
use Rattle.esm_folder.proofs.Rewrites.{IsTakenOver, compacted_end, compacting_over, error_is_not_ok, fault_end, has_compacted, kept_over, ok_has_no_error, read_of_opened, rose_over, taken_over, whatever_error}
use Rattle.esm_folder.proofs.OpenedDisks.{are_kept_read, compacting_read}
use Rattle.esm_folder.proofs.compacting.rewrite.Goals as goal

pub returns-in-Ok : goal.returns-in-Ok
returns-in-Ok g c =
    let m = meaning g.D.Disk in
    let p = c.args.pair in
    let q = c.rewrite.new.self in
    let list = c.args.list.now in
    let order = taken_over p q c.in-Ok.ensures.told.changed_over c.in-Ok.ensures.told.replaced in
    let over : IsOverwritten m p list q.used c.ended.result.journal c.ended.result.spare = record {
      journal_is = c.ended.ensures.journal ∙ order.0;
      spare_is = c.ended.ensures.spare ∙ order.1;
      honesty = c.in-Ok.ensures.told.honesty;
      never_falls = c.in-Ok.ensures.told.count.never_falls;
      any_moment = λ used spare. c.in-Ok.ensures.any_moment used spare c.requires.up;
    } in
    let t : IsTakenOver m p q list c.ended.result.journal c.ended.result.spare = record {
      payloads = c.in-Ok.ensures.told.written;
      epoch = c.in-Ok.ensures.told.next_epoch;
      bytes = c.in-Ok.ensures.told.bytes;
      up = c.in-Ok.ensures.told.up;
      spare_is = c.in-Ok.ensures.told.replaced;
      keeps = c.in-Ok.ensures.kept;
      first = c.ended.ensures.journal;
      second = c.ended.ensures.spare;
    } in
    let other : p.epoch ≢ 18446744073709551615 = omega (arith, c.requires.below_greatest) in
    record {
      end = λ journal spare o. compacted_end m journal spare c.ended.result.journal c.ended.result.spare _ _ c.ended.result.end c.ended.ensures.end
          (has_compacted m journal spare c.ended.result.journal c.ended.result.spare p q list _ _ c.requires.compacted o t over other (search rules) (search rules));
      images = λ journal spare o. compacting_over m journal spare c.ended.result.journal c.ended.result.spare q.used p list c.file_beside_new.ensures.opens c.requires.compacted o over;
      unwritten = λ journal spare o. ok_has_no_error _ _ c.ended.result.end c.ended.ensures.end;
      kept = λ journal spare o. kept_over m journal spare c.ended.result.journal c.ended.result.spare q.used p list o over;
    }

pub returns-in-Err-DiskFault : goal.returns-in-Err-DiskFault
returns-in-Err-DiskFault g c =
    let m = meaning g.D.Disk in
    let p = c.args.pair in
    let q = c.rewrite.new.self in
    let list = c.args.list.now in
    let over : IsOverwritten m p list q.spare c.ended-in-Err-DiskFault.result.journal c.ended-in-Err-DiskFault.result.spare = record {
      journal_is = c.ended-in-Err-DiskFault.ensures.journal ∙ ap first_disk c.in-Err-DiskFault.ensures.told.not_written;
      spare_is = c.ended-in-Err-DiskFault.ensures.spare ∙ ap second_disk c.in-Err-DiskFault.ensures.told.not_written;
      honesty = c.in-Err-DiskFault.ensures.told.honesty;
      never_falls = c.in-Err-DiskFault.ensures.told.count.never_falls;
      any_moment = λ used spare. c.in-Err-DiskFault.ensures.any_moment used spare c.requires.up;
    } in
    record {
      end = λ journal spare o. fault_end m journal spare c.ended-in-Err-DiskFault.result.journal c.ended-in-Err-DiskFault.result.spare c.ended-in-Err-DiskFault.result.end c.ended-in-Err-DiskFault.ensures.end
          (rose_over m journal spare c.ended-in-Err-DiskFault.result.journal c.ended-in-Err-DiskFault.result.spare q.spare p list o over (c.in-Err-DiskFault.ensures.told.cause (ap Err c.in-Err-DiskFault.field-0-is)));
      images = λ journal spare o. compacting_over m journal spare c.ended-in-Err-DiskFault.result.journal c.ended-in-Err-DiskFault.result.spare q.spare p list c.file_beside_new.ensures.opens c.requires.compacted o over;
      unwritten = λ journal spare o. ok_has_no_error _ _ c.ended-in-Err-DiskFault.result.end c.ended-in-Err-DiskFault.ensures.end;
      kept = λ journal spare o. kept_over m journal spare c.ended-in-Err-DiskFault.result.journal c.ended-in-Err-DiskFault.result.spare q.spare p list o over;
    }

pub returns-in-Err-OutOfMemory : goal.returns-in-Err-OutOfMemory
returns-in-Err-OutOfMemory g c =
    let m = meaning g.D.Disk in
    let p = c.args.pair in
    let q = c.rewrite.new.self in
    let same = c.in-Err-OutOfMemory.ensures.told.no_memory (ap Err c.in-Err-OutOfMemory.field-0-is) in
    let read = read_of_opened m c.ended-in-Err-OutOfMemory.result.journal c.ended-in-Err-OutOfMemory.result.spare p (c.ended-in-Err-OutOfMemory.ensures.journal ∙ ap first_disk same) (c.ended-in-Err-OutOfMemory.ensures.spare ∙ ap second_disk same) in
    record {
      end = λ journal spare o. error_is_not_ok _ _ c.ended-in-Err-OutOfMemory.result.end c.ended-in-Err-OutOfMemory.ensures.end;
      images = λ journal spare o. compacting_read m journal spare c.ended-in-Err-OutOfMemory.result.journal c.ended-in-Err-OutOfMemory.result.spare (read journal spare o);
      unwritten = λ journal spare o. whatever_error _ c.ended-in-Err-OutOfMemory.result.end (read journal spare o);
      kept = λ journal spare o. are_kept_read m journal spare c.ended-in-Err-OutOfMemory.result.journal c.ended-in-Err-OutOfMemory.result.spare (read journal spare o);
    }
