use Rattle.std.proofs.Common.{subst, sym}
use Rattle.std.specs.Prelude.{IfOk}
use Rattle.esm_io.specs.Meanings.{disk as meaning}
use Rattle.esm_folder.specs.Opened.{IsOpenedPair}
use Rattle.esm_folder.specs.Upkeep.{AreOnlyRead, IsCompactEnd}
use Rattle.esm_folder.proofs.Rewrites.{whatever_error}
use Rattle.esm_folder.proofs.OpenedDisks.{are_kept_read, compacting_read}
use Rattle.esm_folder.proofs.Ends.{compact_refused}
use Rattle.esm_folder.proofs.compacting.compact.Goals as goal

pub returns-in-Ok : goal.returns-in-Ok
returns-in-Ok g c =
    let m = meaning g.D.Disk in
    let opened : IsOpenedPair m c.args.journal c.args.spare c.in-Ok.pair = record {
      opens = λ honest. c.in-Ok.ensures.opened honest.0 honest.1;
      keeps = λ honest. c.in-Ok.ensures.kept honest.0 honest.1;
      only_read = (c.in-Ok.ensures.first_read, c.in-Ok.ensures.second_read);
    } in
    record {
      end = c.compact_pair.ensures.end c.args.journal c.args.spare opened;
      images = c.compact_pair.ensures.images c.args.journal c.args.spare opened;
      unwritten = c.compact_pair.ensures.unwritten c.args.journal c.args.spare opened;
      kept = c.compact_pair.ensures.kept c.args.journal c.args.spare opened;
    }

pub returns-in-Err : goal.returns-in-Err
returns-in-Err g c =
    let m = meaning g.D.Disk in
    let back = c.in-Err.refused.back in
    let read : AreOnlyRead m c.args.journal c.args.spare back.0 back.1 = (c.in-Err.ensures.first_back, c.in-Err.ensures.second_back) in
    record {
      end = subst (λ r. IfOk r (IsCompactEnd m c.args.journal c.args.spare back.0 back.1)) (sym c.end_of_file.ensures)
          (compact_refused m c.args.journal c.args.spare back.0 back.1 c.in-Err.refused.why read c.in-Err.ensures.refused);
      images = compacting_read m c.args.journal c.args.spare back.0 back.1 read;
      unwritten = whatever_error _ c.end_of_file.result read;
      kept = are_kept_read m c.args.journal c.args.spare back.0 back.1 read;
    }
