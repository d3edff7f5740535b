use Rattle.std.proofs.Common.{◌≡◌, List, [], ℕ, refl, sym, subst}
use Rattle.std.specs.Prelude.{IsNone, ◌↔◌}
use Rattle.std.proofs.lemmas.Option.{IfSome_then}
use Rattle.esm_ledger.proofs.Readings.{lane_known, open_absent, grouped_here}
use Rattle.esm_ledger.proofs.ledger.Ledger.front.Goals as goal

pub front-requires : goal.front-requires
front-requires c = record { known = lane_known c.args.self.now c.args.lane c.in-Some.kept.now c.requires.kept.rests c.in-Some.ensures.at c.requires.known }

pub returns-in-None-clause-none : goal.returns-in-None-clause-none
returns-in-None-clause-none c = (λ _. open_absent c.args.self.now c.args.lane c.requires.kept.rests c.in-None.ensures.none, λ _. refl)

pub returns-in-Some-clause-none : goal.returns-in-Some-clause-none
returns-in-Some-clause-none c =
    let g = grouped_here c.args.self.now c.args.lane c.in-Some.kept.now c.requires.kept c.requires.settled c.in-Some.ensures.at c.requires.known in
    subst (λ (os : List ℕ). IsNone c.front.result ↔ (os ≡ [])) (sym g.opens) c.front.ensures.none

pub returns-in-Some-clause-front : goal.returns-in-Some-clause-front
returns-in-Some-clause-front c =
    let g = grouped_here c.args.self.now c.args.lane c.in-Some.kept.now c.requires.kept c.requires.settled c.in-Some.ensures.at c.requires.known in
    IfSome_then c.front.result c.front.ensures.front (λ f is. g.front f.places.now f.fresh f.tries is)
