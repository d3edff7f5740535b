use Rattle.std.proofs.Common.{ℕ, List, ◌++◌, sym, subst, refl}
use Rattle.std.specs.List.{concat}
use Rattle.esm_ddb.specs.Blocks.{state_after}
use Rattle.esm_ddb.specs.States.{state_of}
use Rattle.esm_ddb.specs.Translating.{State, HasRead}
use Rattle.esm_ddb.proofs.Blocks.{appended, block_read}
use Rattle.esm_ddb.proofs.parallel.take_block.Goals as goal

pub returns-clause-read : goal.returns-clause-read
returns-clause-read c = λ bytes lines before whole alone read.
    let now : State = record (state_of c.args.reading.now) { good = c.in_ok-counted.counted.good; bad = c.in_ok-counted.counted.bad } in
    let P : List ℕ → Type 0 = λ given. HasRead (bytes ++ lines) before given now in
    subst P (sym (appended c.args.pieces.now.items c.args.block.pieces.items c.append.new.self.items c.in_ok-append.ensures.items))
    (block_read bytes lines before (concat c.args.pieces.now.items) (concat c.args.block.pieces.items)
    (state_of c.args.reading.now) (state_after c.args.reading.now.source c.args.block) now
    read c.requires.going c.requires.fresh whole alone refl refl c.in_ok-counted.ensures.good c.in_ok-counted.ensures.bad)
