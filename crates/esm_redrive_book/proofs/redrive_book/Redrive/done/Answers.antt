use Rattle.esm_io.specs.Meanings.{disk, destination}
use Rattle.esm_redrive_core.specs.declared.decisions.RedriveCall.TheVariants as call
use Rattle.esm_redrive_book.proofs.Ending.{all_delivered}
use Rattle.esm_redrive_book.proofs.redrive_book.Redrive.done.Goals as goal

-- of a call that ends nothing goes to the dead-letter file
pub unreachable-requires-in-Err-DestFault : goal.unreachable-requires-in-Err-DestFault
unreachable-requires-in-Err-DestFault g c =
    let m = disk g.D.Disk in
    let n = destination g.T.Dest in
    all_delivered m n c.self.inside.durable c.carry.new.durable (call.Done c.args.job c.args.reply c.args.moment) tt (rw c.in-Err-DestFault.field-0-is at c.in-Err-DestFault.ensures)
