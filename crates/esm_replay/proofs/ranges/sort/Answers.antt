use Rattle.std.proofs.Common.{rules}
use Rattle.std.proofs.lemmas.List.Sorted.{ranks_by, answers_always}
use Rattle.esm_replay.specs.Ranges.{start_of, starts_before}
use Rattle.esm_replay.proofs.Orders.{start_total}
use Rattle.esm_replay.proofs.ranges.sort.Goals as goal

pub returns-clause-sorted : goal.returns-clause-sorted
returns-clause-sorted c = c.sort_unstable_by.ensures.sorted starts_before (ranks_by start_total start_of) (answers_always _ _ _ (λ f a r g called. search rules))
