use Rattle.std.proofs.Common.{◌≡◌, ◌+◌, false, [], ap, sym, ◌∙◌, subst}
use Rattle.esm_model.specs.declared.setup.Setup.{Setup}
use Rattle.esm_model.specs.Kept.{entries_of, IsLegal}
use Rattle.esm_model.specs.GoingOn.{OwnFollowShut}
use Rattle.esm_workers.specs.Hands.{meanings, HasBegun, GoesOnFrom, TellsOf}
use Rattle.esm_workers.proofs.behind.call_behind.Goals as goal

pub returns-in-Ok-clause-tells : goal.returns-in-Ok-clause-tells
returns-in-Ok-clause-tells g c =
    let m = meanings g.T.Kept g.T.Pooled g.C.Clock g.F.Caller in
    let seen = g.T.Kept.history c.args.book in
    let told = g.T.Kept.change c.args.book in
    let same : c.in-Ok.turn.setup ≡ g.T.Kept.setup c.args.book = c.in-Ok.ensures.setup in
    let begun : HasBegun m c.in-Ok.turn seen told c.in-Ok.seats.items = record {
      begun = c.in-Ok.ensures.seats;
      legal = subst (λ (u : Setup). IsLegal (m.may_follow u) seen) (sym same) c.requires.legal;
      given = c.requires.moments;
      unused = λ n lt. ap (λ (u : Setup). entries_of (m.author u) n seen) same ∙ c.requires.unused n lt;
    } in
    let behind = c.call_at.result in
    subst (λ (u : Setup). TellsOf m u c.args.batchers (g.T.Kept.history behind.book) (g.T.Kept.mark behind.book) behind.short c.args.callers.items behind.callers.items) same (c.call_at.ensures.tells seen told begun)

pub returns-in-Ok-clause-goes_on : goal.returns-in-Ok-clause-goes_on
returns-in-Ok-clause-goes_on g c =
    let m = meanings g.T.Kept g.T.Pooled g.C.Clock g.F.Caller in
    let seen = g.T.Kept.history c.args.book in
    let told = g.T.Kept.change c.args.book in
    let same : c.in-Ok.turn.setup ≡ g.T.Kept.setup c.args.book = c.in-Ok.ensures.setup in
    let begun : HasBegun m c.in-Ok.turn seen told c.in-Ok.seats.items = record {
      begun = c.in-Ok.ensures.seats;
      legal = subst (λ (u : Setup). IsLegal (m.may_follow u) seen) (sym same) c.requires.legal;
      given = c.requires.moments;
      unused = λ n lt. ap (λ (u : Setup). entries_of (m.author u) n seen) same ∙ c.requires.unused n lt;
    } in
    subst (λ (u : Setup). GoesOnFrom m.author m.may_follow u 0 seen (g.T.Kept.history c.call_at.result.book)) same (c.call_at.ensures.goes_on seen told begun)

pub returns-in-Ok-clause-later : goal.returns-in-Ok-clause-later
returns-in-Ok-clause-later g c = λ k.
    let m = meanings g.T.Kept g.T.Pooled g.C.Clock g.F.Caller in
    let seen = g.T.Kept.history c.args.book in
    let told = g.T.Kept.change c.args.book in
    let same : c.in-Ok.turn.setup ≡ g.T.Kept.setup c.args.book = c.in-Ok.ensures.setup in
    let begun : HasBegun m c.in-Ok.turn seen told c.in-Ok.seats.items = record {
      begun = c.in-Ok.ensures.seats;
      legal = subst (λ (u : Setup). IsLegal (m.may_follow u) seen) (sym same) c.requires.legal;
      given = c.requires.moments;
      unused = λ n lt. ap (λ (u : Setup). entries_of (m.author u) n seen) same ∙ c.requires.unused n lt;
    } in
    let up : g.T.Kept.mark c.args.book ≡ false = sym c.marked.ensures ∙ c.if-marked.false in
    subst (λ (u : Setup). OwnFollowShut (m.author u) (k + 1) [] (g.T.Kept.history c.call_at.result.book)) same (c.call_at.ensures.later seen told begun (c.requires.shut up) k)

pub returns-in-Ok-clause-change : goal.returns-in-Ok-clause-change
returns-in-Ok-clause-change g c =
    let m = meanings g.T.Kept g.T.Pooled g.C.Clock g.F.Caller in
    let seen = g.T.Kept.history c.args.book in
    let told = g.T.Kept.change c.args.book in
    let same : c.in-Ok.turn.setup ≡ g.T.Kept.setup c.args.book = c.in-Ok.ensures.setup in
    let begun : HasBegun m c.in-Ok.turn seen told c.in-Ok.seats.items = record {
      begun = c.in-Ok.ensures.seats;
      legal = subst (λ (u : Setup). IsLegal (m.may_follow u) seen) (sym same) c.requires.legal;
      given = c.requires.moments;
      unused = λ n lt. ap (λ (u : Setup). entries_of (m.author u) n seen) same ∙ c.requires.unused n lt;
    } in
    c.call_at.ensures.change seen told begun
