use Rattle.std.proofs.Common.{ap, sym, subst, refl}
use Rattle.std.specs.Option.{IsSome}
use Rattle.esm_model.specs.Kept.{meaning}
use Rattle.esm_turn.proofs.Closing.{closes, closes_at}
use Rattle.esm_turn.proofs.turn.Turn.close.Goals as goal

pub unwrap-value-requires : goal.unwrap-value-requires
unwrap-value-requires g c =
    let m = meaning g.T.Kept in
    let e = closes m _ _ _ _ _ _ c.args.self c.args.seats.items c.take.result c.close_with-closed.ensures.values.2 c.join_all-all.ensures.free (ap (λ v. v.setup) c.self.view_is) (ap (λ v. v.seats) c.self.view_is) c.requires.all c.join_all-all.ensures.all c.take.ensures.value in
    subst IsSome (sym e.1) refl

pub returns : goal.returns
returns g c =
    let m = meaning g.T.Kept in
    let e = closes_at m _ _ _ _ _ _ c.args.self c.args.seats.items c.take.result c.unwrap-value.result c.close_with-closed.ensures.values.2 c.join_all-all.ensures.free (ap (λ v. v.setup) c.self.view_is) (ap (λ v. v.seats) c.self.view_is) c.requires.all c.join_all-all.ensures.all c.take.ensures.value c.unwrap-value.ensures in
    record {
      setup = e.ends.setup_is;
      legal = e.ends.legal;
      begins = λ k d lt. (e.each k d lt).begins;
      mine = λ k d lt. (e.each k d lt).mine;
      others = e.ends.others;
      marked = λ k d lt. (e.each k d lt).marked;
      change = λ k d lt. (e.each k d lt).change;
    }
