-- What the lines of a block are turned into on their own, and how a bad line of a block is counted in the whole input.
-- Only this crate's proofs cite this.
use Rattle.std.specs.Prelude.{ℕ, ◌+◌, List, [], Option, Some, None}
use Rattle.std.specs.List.{concat}
use Rattle.esm_ddb.specs.Translating.{State, Stands}
use Rattle.esm_ddb.specs.Translation.{translation_so_far}
use Rattle.esm_ddb.specs.declared.block.Block.{Block}
use Rattle.esm_ddb.specs.declared.error.DdbLine.{DdbLine}
use Rattle.esm_ddb.specs.declared.source.Source.{Source}

-- the bad line of a block, counted in the whole input; `n` lines precede the block
abbrev pub behind : ℕ → Option DdbLine → Option DdbLine
behind n None = None
behind n (Some bad) = Some (record { line = n + bad.line; why = bad.why })

-- the state of a reader that has read the lines of the block alone
abbrev pub state_after : Source → Block → State
state_after s block = record { source = s; good = block.good; begun = []; bad = block.bad }

-- the block is what the ended lines of these bytes are turned into, up to the first bad one
abbrev pub IsTurnedBlock : Source → List ℕ → Block → Type 0
IsTurnedBlock s bytes block = Stands (translation_so_far s bytes) [] (concat block.pieces.items) (state_after s block)
