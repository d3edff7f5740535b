use Rattle.std.proofs.Common.{◌≡◌, [], length-append, arith}
use Rattle.std.proofs.lemmas.List.Elements.{All-push}
use Rattle.esm_gen.specs.declared.function.FunctionCaller.{FunctionCaller}
use Rattle.esm_gen.proofs.function.function_callers.Goals as goal

pub loop-batcher-preserved : goal.loop-batcher-preserved
loop-batcher-preserved c =
    rw c.in_ok-push.ensures.items (record {
      count = simp length-append (omega arith);
      unused = All-push (λ (f : FunctionCaller). f.log ≡ []) c.loop-batcher.callers.items c.in_ok-caller.caller
          c.loop-batcher.invariant.unused c.in_ok-caller.ensures;
    })
