use Rattle.std.proofs.Common.{take, sym, subst, arith}
use Rattle.std.proofs.Math.Seq.{take-add}
use Rattle.esm_io.specs.Talks.{Writes}
use Rattle.esm_api.proofs.TalkLemmas.{Writes_then}
use Rattle.esm_api.proofs.receive.send.Goals as goal

pub loop-sent-preserved : goal.loop-sent-preserved
loop-sent-preserved g c =
    let bytes = c.args.bytes.now in
    let n = c.in_ok-sent.field-0 in
    let taken = subst (λ rest. Writes (g.L.Link.told c.loop-sent.link) (g.L.Link.told c.write.new.self) (take n rest)) c.split_at.ensures.back c.in_ok-sent.ensures.taken in
    record {
      within = omega (arith, c.in_ok-sent.ensures.within, c.split_at.ensures.back_len);
      written = subst (Writes (g.L.Link.told c.args.link.now) (g.L.Link.told c.write.new.self)) (sym (take-add c.loop-sent.sent n bytes))
          (Writes_then _ _ _ _ _ c.loop-sent.invariant.written taken);
      not_fallen = omega (arith, c.loop-sent.invariant.not_fallen, c.write.ensures.count.never_falls);
      counted = c.write.ensures.count.greatest;
    }
