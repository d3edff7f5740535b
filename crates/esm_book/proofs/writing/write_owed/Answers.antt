use Rattle.std.proofs.Common.{refl, ◌∙◌, [], take}
use Rattle.std.proofs.lemmas.Result.{err_from_is_err_and}
use Rattle.esm_io.specs.Meanings.{disk, destination}
use Rattle.esm_book.specs.Decided.{added}
use Rattle.esm_book.specs.Meanings.{decisions}
use Rattle.esm_book.proofs.Growing.{grown_none}
use Rattle.esm_book.proofs.Writings.{writes_none, writes_named, writes_then}
use Rattle.esm_book.proofs.writing.write_owed.Goals as goal

pub owed-init : goal.owed-init
owed-init g c =
    let k = decisions g.C.Decisions in
    let m = disk g.D.Disk in
    let n = destination g.T.Dest in
    let core = c.args.core.now in
    let pair = c.args.pair.now in
    let dest = c.args.dest.now in
    record {
      payable = c.requires.payable;
      ready = c.requires.ready;
      so_far = writes_named k m n (k.history core) (k.owed core) core pair pair dest dest [] [] []
          (writes_none k m n core pair pair dest dest [] []
          (grown_none k m n g.met.D.Disk.only_now pair pair dest dest c.requires.ready.up c.requires.ready.usable c.payloads.ensures.kept refl (record { lines = refl; failed = refl; honesty = refl; faults = refl; moment = refl; images = λ _ _ since. since })));
      origin = refl;
    }

pub owed-preserved : goal.owed-preserved
owed-preserved g c =
    let k = decisions g.C.Decisions in
    let m = disk g.D.Disk in
    let n = destination g.T.Dest in
    let first = c.args.core.now in
    let mid = c.owed.core in
    let step = c.in_ok-write_first.ensures in
    record {
      payable = step.payable;
      ready = step.ready;
      so_far = writes_then k m n (k.history first) (k.owed first) mid c.write_first.new.core c.args.pair.now c.owed.pair c.write_first.new.pair c.args.dest.now c.owed.dest c.write_first.new.dest
          (added (k.history first) (k.history mid)) (take 1 (k.owed mid)) [] [] c.owed.invariant.so_far step.written;
      origin = c.write_first.ensures.origin ∙ c.owed.invariant.origin;
    }

pub returns-in_err-write_first-clause-stopped : goal.returns-in_err-write_first-clause-stopped
returns-in_err-write_first-clause-stopped g c =
    let k = decisions g.C.Decisions in
    let m = disk g.D.Disk in
    let n = destination g.T.Dest in
    let first = c.args.core.now in
    let mid = c.owed.core in
    let p = err_from_is_err_and c.from_residual.result c.from_residual.ensures.1 in
    rw (p.1, p.2) (writes_then k m n (k.history first) (k.owed first) mid c.write_first.new.core c.args.pair.now c.owed.pair c.write_first.new.pair c.args.dest.now c.owed.dest c.write_first.new.dest
    (added (k.history first) (k.history mid)) [] _ _ c.owed.invariant.so_far c.in_err-write_first.ensures.stopped)
