use Rattle.std.proofs.Common.{◌∙◌, List, ap}
use Rattle.esm_replay.specs.Waiting.{NamedPiece, Waiting, put_ahead, without_front}
use Rattle.esm_replay.proofs.Fronts.{ended_so, stays_placed, filled_after}
use Rattle.esm_replay.proofs.waiting.Waiting.end_call.Goals as goal

pub invariant_of-self : goal.invariant_of-self
invariant_of-self c =
    let left = c.put-2.ensures.items ∙ ap (λ (ps : List NamedPiece). put_ahead c.args.parts.first.shard c.args.parts.first.named ps) (c.put.ensures.items ∙ ap (λ (ps : List NamedPiece). put_ahead c.args.parts.rest.shard c.args.parts.rest.named ps) c.drop_first.ensures.items) in
    filled_after c.args.count c.args.parts c.self.inside.pieces.items _ c.self.invariant left

pub returns-clause-ended : goal.returns-clause-ended
returns-clause-ended c =
    let left = c.put-2.ensures.items ∙ ap (λ (ps : List NamedPiece). put_ahead c.args.parts.first.shard c.args.parts.first.named ps) (c.put.ensures.items ∙ ap (λ (ps : List NamedPiece). put_ahead c.args.parts.rest.shard c.args.parts.rest.named ps) (c.drop_first.ensures.items ∙ ap (λ (w : Waiting). without_front c.args.count w.pieces) c.self.view_is)) in
    ended_so c.args.count c.args.parts c.args.self.now.pieces _ c.requires.within left

pub returns-clause-placed : goal.returns-clause-placed
returns-clause-placed c =
    let left = c.put-2.ensures.items ∙ ap (λ (ps : List NamedPiece). put_ahead c.args.parts.first.shard c.args.parts.first.named ps) (c.put.ensures.items ∙ ap (λ (ps : List NamedPiece). put_ahead c.args.parts.rest.shard c.args.parts.rest.named ps) (c.drop_first.ensures.items ∙ ap (λ (w : Waiting). without_front c.args.count w.pieces) c.self.view_is)) in
    stays_placed c.args.count c.args.parts c.args.self.now.pieces _ left
