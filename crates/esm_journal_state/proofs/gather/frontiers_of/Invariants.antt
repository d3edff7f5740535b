use Rattle.esm_journal_state.specs.View.{number_with}
use Rattle.esm_journal_state.proofs.Frontiers.{AreFrontiers}
use Rattle.esm_journal_state.proofs.gather.frontiers_of.Given as goal

abbrev pub invariant-loop-place : goal.invariant-loop-place
invariant-loop-place l = AreFrontiers l.fates.entries l.place-iterator (number_with l.frontiers l.hand)
