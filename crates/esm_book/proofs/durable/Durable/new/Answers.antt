use Rattle.esm_io.specs.Meanings.{disk, destination}
use Rattle.esm_book.specs.Meanings.{decisions}
use Rattle.esm_book.proofs.Keeping.{kept_first}
use Rattle.esm_book.proofs.durable.Durable.new.Goals as goal

pub invariant_of-result : goal.invariant_of-result
invariant_of-result g c =
    let k = decisions g.C.Decisions in
    let m = disk g.D.Disk in
    let n = destination g.T.Dest in
    rw (c.of-found.ensures, c.of-found_dest.ensures)
    (kept_first k m n g.met.D.Disk.only_now c.args.core c.args.pair c.args.dest c.requires.empty c.requires.settled c.requires.up c.requires.usable c.payloads.ensures.kept, tt)
