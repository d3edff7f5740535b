use Rattle.esm_verdict.proofs.WithinLemmas.{read_within}
use Rattle.esm_verdict.proofs.stream.read_stream.Goals as goal

pub returns-in_ok-reading-in-Answered-3-clause-within : goal.returns-in_ok-reading-in-Answered-3-clause-within
returns-in_ok-reading-in-Answered-3-clause-within c =
    let read = c.in_ok-reading-in-Answered-3 in
    read_within c.args.batch.now _ read.reading read.ensures
