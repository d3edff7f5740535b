use Rattle.esm_registry.proofs.CountFacts.{raised_at}
use Rattle.esm_registry.proofs.counts.raise.Goals as goal

pub returns-clause-raised : goal.returns-clause-raised
returns-clause-raised c =
    raised_at c.args.counts.now c.insert.new.self c.args.pair c.count_of-count.result c.count_of-count.ensures c.in_ok-insert.ensures.updates
