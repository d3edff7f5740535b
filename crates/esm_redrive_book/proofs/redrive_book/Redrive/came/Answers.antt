use Rattle.std.proofs.Common.{sym, subst}
use Rattle.esm_io.specs.Meanings.{disk, destination}
use Rattle.esm_redrive_core.specs.declared.decisions.RedriveCall.TheVariants as call
use Rattle.esm_redrive_core.specs.Refusing.{IsFirstChange}
use Rattle.esm_redrive_book.specs.Books.{BookState}
use Rattle.esm_redrive_book.proofs.Ending.{all_delivered}
use Rattle.esm_redrive_book.proofs.Standing.{taken_unchanged, failed_unchanged}
use Rattle.esm_redrive_book.proofs.redrive_book.Redrive.came.Goals as goal

-- of messages that come nothing goes to the dead-letter file
pub unreachable-requires : goal.unreachable-requires
unreachable-requires g c =
    let m = disk g.D.Disk in
    let n = destination g.T.Dest in
    all_delivered m n c.self.inside.durable c.carry.new.durable (call.Came c.args.items c.args.moment) tt (rw c.in-Err-DestFault.field-0-is at c.in-Err-DestFault.ensures)

pub returns-in-Ok-clause-is_changed : goal.returns-in-Ok-clause-is_changed
returns-in-Ok-clause-is_changed g c = λ change first.
    absurd (taken_unchanged change c.in-Ok.ensures (subst (λ (b : BookState g.row.D.Denot g.row.T.Denot). IsFirstChange b.core c.args.items.items change) (sym c.self.view_is) first))

pub returns-in-Err-DiskFault-clause-is_changed : goal.returns-in-Err-DiskFault-clause-is_changed
returns-in-Err-DiskFault-clause-is_changed g c = λ change first.
    let some = rw c.in-Err-DiskFault.field-0-is at c.in-Err-DiskFault.ensures in
    absurd (failed_unchanged change some (subst (λ (b : BookState g.row.D.Denot g.row.T.Denot). IsFirstChange b.core c.args.items.items change) (sym c.self.view_is) first))
