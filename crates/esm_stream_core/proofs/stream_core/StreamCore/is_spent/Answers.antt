use Rattle.std.proofs.Common.{◌≡◌, ◌∙◌, reverse, ap, arith}
use Rattle.std.proofs.lemmas.Bool.Decides.{nat_tests}
use Rattle.esm_model.specs.Entries.{calls_begun}
use Rattle.esm_stream_core.specs.CoreView.{CoreView}
use Rattle.esm_stream_core.proofs.Leaving.{left_in}
use Rattle.esm_stream_core.proofs.stream_core.StreamCore.is_spent.Goals as goal

pub returns-clause-spent : goal.returns-clause-spent
returns-clause-spent c = λ is.
    let x = c.self.inside in
    let begun : x.ledger.begun ≡ calls_begun c.args.self.now.past =
    (left_in x.ledger (reverse x.coming.items) (reverse x.owed.items) x.standing c.self.invariant.kept.stands).begun ∙ ap (λ (v : CoreView). calls_begun v.past) c.self.view_is in
    let calls : x.ledger.calls ≡ c.args.self.now.setting.calls = ap (λ (v : CoreView). v.setting.calls) c.self.view_is in
    let same = c.from.ensures in
    grind (arith, nat_tests, is, begun, calls, same)

pub returns-clause-going : goal.returns-clause-going
returns-clause-going c = λ is.
    let x = c.self.inside in
    let begun : x.ledger.begun ≡ calls_begun c.args.self.now.past =
    (left_in x.ledger (reverse x.coming.items) (reverse x.owed.items) x.standing c.self.invariant.kept.stands).begun ∙ ap (λ (v : CoreView). calls_begun v.past) c.self.view_is in
    let calls : x.ledger.calls ≡ c.args.self.now.setting.calls = ap (λ (v : CoreView). v.setting.calls) c.self.view_is in
    let same = c.from.ensures in
    grind (arith, nat_tests, is, begun, calls, same)
