use Rattle.std.proofs.Common.{List, ℕ, [], ◌++◌, sym, subst, refl, ap₂, ◌∙◌}
use Rattle.std.specs.List.{concat}
use Rattle.esm_ddb.specs.States.{state_of}
use Rattle.esm_ddb.specs.Translating.{HasRead}
use Rattle.esm_ddb.proofs.Blocks.{block_alone}
use Rattle.esm_ddb.proofs.block.turn_block.Goals as goal

pub returns : goal.returns
returns c =
    let P : List ℕ → Type 0 = λ given. HasRead [] [] given (state_of c.new-reading.result) in
    let begins : P c.in_ok-out.out.items = subst P (sym c.in_ok-out.ensures.items) c.new-reading.ensures.read in
    block_alone c.args.lines.now c.read_more.new.out.items c.args.source.now (state_of c.read_more.new.self)
    (record { pieces = c.push_piece.new.pieces; good = c.read_more.new.self.good; bad = c.read_more.new.self.bad })
    (c.in_ok-read_more.ensures.read [] [] begins)
    (c.read_more.ensures.source ∙ c.new-reading.ensures.source ∙ c.in_ok-copy.ensures)
    (c.in_ok-push_piece.ensures ∙ ap₂ (λ (ps : List (List ℕ)) (l : List ℕ). concat ps ++ l) c.new-pieces.ensures.items c.from_vec.ensures) refl refl
