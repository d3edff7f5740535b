use Rattle.esm_io.specs.Meanings.{disk}
use Rattle.esm_journal.proofs.Runs.{still}
use Rattle.esm_journal.proofs.ahead.bytes_at.Goals as goal

-- no call of the disk was made
pub returns-in_err-bytes-clause-only_read : goal.returns-in_err-bytes-clause-only_read
returns-in_err-bytes-clause-only_read g c =
    still (disk g.D.Disk) g.met.D.Disk.only_now c.args.disk.now
