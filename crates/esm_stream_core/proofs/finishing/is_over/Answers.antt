use borrow.Author.Count.{below_more}
use Rattle.std.proofs.Common.{ℕ, arith, rules}
use Rattle.esm_ledger.specs.Ledger.{past_of, setting_of}
use Rattle.esm_stream_core.specs.Quiet.{IsQuiet}
use Rattle.esm_stream_core.proofs.finishing.is_over.Goals as goal

pub loop-batcher-init : goal.loop-batcher-init
loop-batcher-init c = λ k low. absurd (omega (arith, low))

pub loop-batcher-preserved : goal.loop-batcher-preserved
loop-batcher-preserved c = below_more (λ (k : ℕ). IsQuiet (setting_of c.args.ledger.now) (past_of c.args.ledger.now) k) c.loop-batcher.batcher c.loop-batcher.invariant (c.has_left.ensures.none (search rules))

pub returns-clause-over : goal.returns-clause-over
returns-clause-over c = λ _ k low. c.loop-batcher.invariant k (omega (arith, low))
