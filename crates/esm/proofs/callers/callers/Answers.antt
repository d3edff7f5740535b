use Rattle.std.proofs.Common.{length-append, arith}
use Rattle.std.proofs.lemmas.List.Elements.{All-push}
use Rattle.esm.specs.Callers.{IsCaller, answerer}
use Rattle.esm.proofs.callers.callers.Goals as goal

pub loop-batcher-preserved : goal.loop-batcher-preserved
loop-batcher-preserved g c =
    rw c.in_ok-push.ensures.items (record {
      count = simp length-append (omega arith);
      each = All-push (λ x. IsCaller c.args.functions c.args.timeout (answerer x)) c.loop-batcher.callers.items c.in_ok-caller.caller
          c.loop-batcher.invariant.each c.in_ok-caller.ensures;
    })
