use Rattle.std.proofs.Common.{true}
use Rattle.esm_stream_core.specs.Quiet.{IsWanting}
use Rattle.esm_stream_book.proofs.PoolingFinished.{IsFinished}
use Rattle.esm_stream_book.proofs.PoolingRead.{shut_read}
use Rattle.esm_stream_book.proofs.PoolingSteps.{still_told}
use Rattle.esm_stream_book.proofs.pooled.BookPooled.is_over.Goals as goal

pub returns-clause-over : goal.returns-clause-over
returns-clause-over g c = λ is k low.
    let told = still_told g.row.D.coded g.row.T.coded g.T.Dest.lines c.args.self.now k c.trouble-trouble.ensures.sound (λ s h. IsFinished s h k)
    (record { shut = shut_read c.args.self.now true c.requires.shut; quiet = c.is_over.ensures.over is k low }) in
    record { shut = told.shut; quiet = told.quiet }

pub returns-clause-left : goal.returns-clause-left
returns-clause-left g c = λ is.
    let left = c.is_over.ensures.left is in
    (left.0, left.1, still_told g.row.D.coded g.row.T.coded g.T.Dest.lines c.args.self.now left.0 c.trouble-trouble.ensures.sound (λ s h. IsWanting s h left.0) left.2)
