-- The routes that the router of paths holds. Only this crate's proofs cite this.
use Rattle.std.specs.Prelude.{[], ◌∷◌, ◌++◌, codes, Result, Ok}
use Rattle.matchit.specs.Rows.{RowsOf, param_token}
use Rattle.matchit.specs.Route.{Scan}
use Rattle.matchit.specs.Router.{RouteOf, InsertsRead}
use Rattle.matchit.specs.declared.error.InsertError.{InsertError}
use Rattle.esm_api.specs.declared.route.Route.{Route}
use Rattle.esm_api.specs.declared.route.Route.TheVariants.{Mappings, Mapping}
use Rattle.esm_api.specs.Plan.{mappings_path}

abbrev pub mapping_row : RouteOf Route
mapping_row = record { pattern = mappings_path ++ 47 ∷ param_token ∷ []; text = mappings_path ++ codes "/{uuid}"; names = (35, 39) ∷ []; value = Mapping }

abbrev pub slash_row : RouteOf Route
slash_row = record { pattern = mappings_path ++ 47 ∷ []; text = mappings_path ++ 47 ∷ []; names = []; value = Mappings }

abbrev pub mappings_row : RouteOf Route
mappings_row = record { pattern = mappings_path; text = mappings_path; names = []; value = Mappings }

abbrev pub routes : RowsOf (RouteOf Route)
routes = (mapping_row.pattern, mapping_row) ∷ (slash_row.pattern, slash_row) ∷ (mappings_row.pattern, mappings_row) ∷ []

-- a route was inserted
abbrev pub Inserts : Result Scan InsertError → Route → RowsOf (RouteOf Route) → RowsOf (RouteOf Route) → Type 0
Inserts scan route old new = InsertsRead scan route old new (Ok tt)
