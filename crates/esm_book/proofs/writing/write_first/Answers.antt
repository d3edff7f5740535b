use Rattle.std.proofs.Common.{[], take}
use Rattle.esm_io.specs.Meanings.{disk, destination}
use Rattle.esm_book.specs.Meanings.{decisions}
use Rattle.esm_book.proofs.Appending.{appended_none}
use Rattle.esm_book.proofs.Writings.{writes_none}
use Rattle.esm_book.proofs.writing.write_first.Goals as goal

pub returns-in-Err-clause-stopped : goal.returns-in-Err-clause-stopped
returns-in-Err-clause-stopped g c =
    let k = decisions g.C.Decisions in
    let m = disk g.D.Disk in
    let n = destination g.T.Dest in
    let pair = c.args.pair.now in
    writes_none k m n c.args.core.now pair pair c.args.dest.now c.deliver_first.new.dest [] (take 1 (k.owed c.args.core.now))
    (record { appended = appended_none k m g.met.D.Disk.only_now pair c.requires.ready.up c.payloads.ensures.kept pair.room; delivered = c.in-Err.ensures.not_delivered })
