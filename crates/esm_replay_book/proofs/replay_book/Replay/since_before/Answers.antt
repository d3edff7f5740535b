use Rattle.esm_replay_core.specs.View.{setting_of}
use Rattle.esm_replay_book.specs.Books.{payloads_in}
use Rattle.esm_replay_book.specs.Keeping.{entries_left}
use Rattle.esm_replay_book.proofs.Going.{opens_first}
use Rattle.esm_replay_book.proofs.Standing.{left_so}
use Rattle.esm_replay_book.proofs.replay_book.Replay.since_before.Goals as goal

pub returns : goal.returns
returns g c =
    rw (← c.self.view_is) (λ honest spare only other_only one other i j.
    let b = c.self.inside.durable in
    opens_first _ b.found.epoch b.found.payloads b.found_dest b.dest _ (payloads_in (setting_of b.core) (entries_left b)) one other (left_so b c.self.invariant.0) (c.since_before.ensures honest spare only other_only one other i j))
