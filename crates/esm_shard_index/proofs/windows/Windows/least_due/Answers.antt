use Rattle.esm_shard_index.proofs.WindowLeast.{least_of}
use Rattle.esm_shard_index.proofs.windows.Windows.least_due.Goals as goal

pub returns : goal.returns
returns c =
    rw (← c.self.view_is) (rw c.first_due.ensures.due (least_of (record { opened = c.self.inside.opened; tries = c.self.inside.tries; states = c.self.inside.states.entries; last = c.self.inside.last }) c.args.shut c.first_due.ensures.ordered))
