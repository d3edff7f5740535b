use Rattle.std.proofs.Common.{List, sym, subst}
use Rattle.esm_model.specs.declared.item.Item.{Item}
use Rattle.esm_record.specs.Splitting.{HasRead}
use Rattle.esm_record.proofs.lines.feed_piece_parallel.Goals as goal

pub returns-clause-read : goal.returns-clause-read
returns-clause-read g c = λ bytes before read.
    let P : List Item → Type 0 = λ given. HasRead bytes before given c.args.reading.now in
    c.in_ok-read_parallel.ensures.read bytes before (subst P (sym c.new-items.ensures.items) read)
