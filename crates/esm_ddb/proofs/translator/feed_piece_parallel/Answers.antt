use Rattle.std.proofs.Common.{List, ℕ, sym, subst}
use Rattle.std.specs.List.{concat}
use Rattle.esm_ddb.specs.States.{state_of}
use Rattle.esm_ddb.specs.Translating.{HasRead}
use Rattle.esm_ddb.proofs.translator.feed_piece_parallel.Goals as goal

pub returns-clause-read : goal.returns-clause-read
returns-clause-read g c = λ bytes before read.
    let P : List (List ℕ) → Type 0 = λ pieces. HasRead bytes before (concat pieces) (state_of c.args.reading.now) in
    c.in_ok-read_parallel.ensures.read bytes before (subst P (sym c.new-pieces.ensures.items) read)
