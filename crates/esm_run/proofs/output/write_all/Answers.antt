use Rattle.std.proofs.Common.{◌≡◌, ℕ, List, ◌-◌, length, take, drop, subst, ap, arith}
use Rattle.std.proofs.lemmas.List.{take_rest, length-drop}
use Rattle.esm_io.specs.Told.{Grows}
use Rattle.esm_run.proofs.Results.{on_err}
use Rattle.esm_run.proofs.Writing.{written_more, cut_short}
use Rattle.esm_run.proofs.output.write_all.Goals as goal

pub returns-in_err-count-clause-cut_short : goal.returns-in_err-count-clause-cut_short
returns-in_err-count-clause-cut_short g c = on_err c.from_residual.result _
    (cut_short (g.K.Sink.faults c.args.out.now) (g.K.Sink.faults c.loop-at.out) (g.K.Sink.faults c.write.new.self)
    (g.K.Sink.written c.args.out.now) (g.K.Sink.written c.loop-at.out) (g.K.Sink.written c.write.new.self) c.args.text.now c.loop-at.at
    c.loop-at.invariant.2 c.in_err-count.ensures.cause c.loop-at.invariant.1 c.in_err-count.ensures.untaken)

pub loop-at-preserved : goal.loop-at-preserved
loop-at-preserved g c =
    let text : List ℕ = c.args.text.now in
    let rest : take (length text - c.loop-at.at) (drop c.loop-at.at text) ≡ drop c.loop-at.at text = take_rest text c.loop-at.at in
    let short : length (drop c.loop-at.at text) ≡ length text - c.loop-at.at = length-drop c.loop-at.at text in
    let part : length (take (length text - c.loop-at.at) (drop c.loop-at.at text)) ≡ length (drop c.loop-at.at text) = ap (λ (l : List ℕ). length l) rest in (
      omega (arith, short, part, c.in_ok-count.ensures.within),
      written_more (g.K.Sink.written c.args.out.now) (g.K.Sink.written c.loop-at.out) (g.K.Sink.written c.write.new.self) text c.loop-at.at c.in_ok-count.count
          c.loop-at.invariant.1
          (subst (λ l. Grows (g.K.Sink.written c.loop-at.out) (g.K.Sink.written c.write.new.self) (take c.in_ok-count.count l)) rest c.in_ok-count.ensures.taken),
      omega arith,
    )
