use Rattle.esm_journal.proofs.Pairs.{beside_short}
use Rattle.esm_journal.proofs.pair_reading.read_taken.Goals as goal

pub returns-then-size-lt-LEAST_SIZE-clause-refused : goal.returns-then-size-lt-LEAST_SIZE-clause-refused
returns-then-size-lt-LEAST_SIZE-clause-refused g c = λ h.
    beside_short c.args.head.now.first c.in_ok-found.found.epoch c.in_ok-found.found.payloads.items (g.D.Disk.content c.args.disk.now) c.args.size c.requires.first (c.in_ok-found.ensures.found h) c.if-size-lt-LEAST_SIZE.true
