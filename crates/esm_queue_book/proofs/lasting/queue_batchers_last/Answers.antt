use Rattle.esm_queue_book.proofs.AfterOthers.{AreLaws, calls_last, rests_last, runs_last}
use Rattle.esm_queue_book.proofs.Ending.{finished_last, spent_last}
use Rattle.esm_queue_book.proofs.lasting.queue_batchers_last.Goals as goal

pub returns : goal.returns
returns c =
    let laws : AreLaws = record { legal = c.kept_queue_is_legal.ensures; calls = c.queue_calls_kept_over.ensures } in
    record { calls = calls_last laws; rests = rests_last; runs = runs_last laws; finished = finished_last; spent = spent_last laws }
