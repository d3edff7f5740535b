use Rattle.std.proofs.Common.{sym, ap, ◌∙◌}
use Rattle.std.specs.Prelude.{option_map}
use Rattle.matchit.specs.Router.{RouteOf}
use Rattle.esm_api.specs.declared.route.Route.{Route}
use Rattle.esm_api.proofs.RouteLemmas.{route_is}
use Rattle.esm_api.proofs.route.at.Goals as goal

pub returns-in-Ok : goal.returns-in-Ok
returns-in-Ok c =
    ap (option_map (λ (e : RouteOf Route). e.value)) (sym (rw c.requires at c.in-Ok.ensures.found)) ∙ route_is c.args.path.now

pub returns-in-Err : goal.returns-in-Err
returns-in-Err c =
    ap (option_map (λ (e : RouteOf Route). e.value)) (sym (rw c.requires at c.in-Err.ensures.missing)) ∙ route_is c.args.path.now
