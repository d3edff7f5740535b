use Rattle.esm_io.specs.Meanings.{disk, destination}
use Rattle.esm_stream_book.proofs.Endings.{all_delivered}
use Rattle.esm_stream_book.proofs.stream_book.Book.came.Goals as goal

-- nothing of records that come goes to the destination
pub unreachable-requires : goal.unreachable-requires
unreachable-requires g c =
    let m = disk g.D.Disk in
    let n = destination g.T.Dest in
    all_delivered m n c.self.inside.durable c.carry.new.durable _ tt (rw c.in-Err-DestFault.field-0-is at c.in-Err-DestFault.ensures)
