use Rattle.std.proofs.Common.{◌≡◌, ◌<◌, List, [], ◌∷◌, ◌++◌, length, slice_set, ap, ◌∙◌}
use Rattle.std.proofs.lemmas.Result.{on_ok_weaker}
use Rattle.esm_lanes.specs.declared.standing.Standing.TheVariants.{Fresh}
use Rattle.esm_lanes.specs.Piece.{Lane, open_at, after_add}
use Rattle.esm_lanes.proofs.Pieces.{open_at-added}
use Rattle.esm_lanes.proofs.lanes.Lanes.add.Goals as goal

pub returns-clause-places : goal.returns-clause-places
returns-clause-places c =
    let lanes = c.self.inside.lanes.items in
    let same : lanes ≡ c.args.self.now = c.self.view_is in
    let known : c.args.lane < length lanes = rw same c.requires.known in
    let put : c.add.new.self ≡ after_add Fresh c.args.place c.index_mut.result.now → open_at (slice_set lanes c.args.lane c.add.new.self) c.args.lane ≡ open_at c.args.self.now c.args.lane ++ c.args.place ∷ []
    = λ e. open_at-added Fresh c.args.place lanes c.args.lane c.index_mut.result.now c.add.new.self known c.index_mut.ensures.value e ∙ ap (λ (ls : List Lane). open_at ls c.args.lane ++ c.args.place ∷ []) same in
    on_ok_weaker c.add.result put c.add.ensures.ok
