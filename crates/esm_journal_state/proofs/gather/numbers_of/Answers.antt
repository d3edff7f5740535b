use Rattle.std.proofs.Common.{◌≡◌, arith}
use Rattle.std.proofs.lemmas.Grind.{common_steps}
use Rattle.std.proofs.lemmas.Map.Keys.{IsStrictlyIncreasing-from_sorted}
use Rattle.esm_journal_state.proofs.gather.numbers_of.Goals as goal

pub returns-clause-rising : goal.returns-clause-rising
returns-clause-rising c =
    let whole : c.loop-number.list.items ≡ c.args.numbers.now.keys = grind (arith, common_steps) in
    rw whole (IsStrictlyIncreasing-from_sorted c.args.numbers.now.keys c.len.ensures.ordered)
