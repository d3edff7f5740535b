use Rattle.std.proofs.Common.{refl, sym, ◌∙◌, []}
use Rattle.esm_io.specs.Meanings.{disk, destination}
use Rattle.esm_book.specs.Decided.{added}
use Rattle.esm_book.specs.Meanings.{decisions}
use Rattle.esm_book.proofs.Lists.{none_in}
use Rattle.esm_book.proofs.Growing.{grown_none}
use Rattle.esm_book.proofs.Writings.{writes_none, writes_named, writes_after}
use Rattle.esm_book.proofs.writing.write_out.Goals as goal

pub returns-then-owed_count-eq0-clause-came : goal.returns-then-owed_count-eq0-clause-came
returns-then-owed_count-eq0-clause-came g c =
    let k = decisions g.C.Decisions in
    let m = disk g.D.Disk in
    let n = destination g.T.Dest in
    let core = c.args.core.now in
    let pair = c.args.pair.now in
    let dest = c.args.dest.now in
    record {
      writes = writes_named k m n (k.history core) (k.owed core) core pair pair dest dest [] [] []
          (writes_none k m n core pair pair dest dest [] []
          (grown_none k m n g.met.D.Disk.only_now pair pair dest dest c.requires.up c.requires.usable c.payloads.ensures.kept refl (record { lines = refl; failed = refl; honesty = refl; faults = refl; moment = refl; images = λ _ _ since. since })));
      settled = none_in (k.owed core) (sym c.owed_count.ensures ∙ c.if-owed_count-eq0.true);
      up = c.requires.up;
      usable = c.requires.usable;
    }

pub returns-in-Ok-clause-came : goal.returns-in-Ok-clause-came
returns-in-Ok-clause-came g c =
    let k = decisions g.C.Decisions in
    let m = disk g.D.Disk in
    let n = destination g.T.Dest in
    let core = c.args.core.now in
    let new = c.write_owed.new in
    record {
      writes = writes_after k m n (k.history core) (k.owed core) new.core c.args.pair.now c.reserve_owed.new.pair new.pair c.args.dest.now c.reserve_owed.new.dest new.dest (added (k.history core) (k.history new.core)) [] []
          (grown_none k m n g.met.D.Disk.only_now c.args.pair.now c.reserve_owed.new.pair c.args.dest.now c.reserve_owed.new.dest c.requires.up c.requires.usable c.payloads.ensures.kept c.reserve_owed.ensures.pair c.reserve_owed.ensures.dest)
          c.in-Ok.ensures.written;
      settled = c.in-Ok.ensures.settled;
      up = c.in-Ok.ensures.up;
      usable = c.in-Ok.ensures.usable;
    }

pub returns-in-Err-Disk-clause-came : goal.returns-in-Err-Disk-clause-came
returns-in-Err-Disk-clause-came g c =
    let k = decisions g.C.Decisions in
    let m = disk g.D.Disk in
    let n = destination g.T.Dest in
    let core = c.args.core.now in
    let new = c.write_owed.new in
    record {
      writes = writes_after k m n (k.history core) (k.owed core) new.core c.args.pair.now c.reserve_owed.new.pair new.pair c.args.dest.now c.reserve_owed.new.dest new.dest (added (k.history core) (k.history new.core)) _ _
          (grown_none k m n g.met.D.Disk.only_now c.args.pair.now c.reserve_owed.new.pair c.args.dest.now c.reserve_owed.new.dest c.requires.up c.requires.usable c.payloads.ensures.kept c.reserve_owed.ensures.pair c.reserve_owed.ensures.dest)
          (rw c.in-Err-Disk.field-0-is at c.in-Err-Disk.ensures.stopped);
      failed = rw c.in-Err-Disk.field-0-is at c.in-Err-Disk.ensures.failed;
      left = c.in-Err-Disk.ensures.left;
      writing = rw c.in-Err-Disk.field-0-is at c.in-Err-Disk.ensures.writing;
    }

pub returns-in-Err-Dest-clause-came : goal.returns-in-Err-Dest-clause-came
returns-in-Err-Dest-clause-came g c =
    let k = decisions g.C.Decisions in
    let m = disk g.D.Disk in
    let n = destination g.T.Dest in
    let core = c.args.core.now in
    let new = c.write_owed.new in
    record {
      writes = writes_after k m n (k.history core) (k.owed core) new.core c.args.pair.now c.reserve_owed.new.pair new.pair c.args.dest.now c.reserve_owed.new.dest new.dest (added (k.history core) (k.history new.core)) _ _
          (grown_none k m n g.met.D.Disk.only_now c.args.pair.now c.reserve_owed.new.pair c.args.dest.now c.reserve_owed.new.dest c.requires.up c.requires.usable c.payloads.ensures.kept c.reserve_owed.ensures.pair c.reserve_owed.ensures.dest)
          (rw c.in-Err-Dest.field-0-is at c.in-Err-Dest.ensures.stopped);
      failed = rw c.in-Err-Dest.field-0-is at c.in-Err-Dest.ensures.failed;
      left = c.in-Err-Dest.ensures.left;
      writing = rw c.in-Err-Dest.field-0-is at c.in-Err-Dest.ensures.writing;
    }
