use Rattle.std.proofs.lemmas.Bool.Decides.{Decides-eqb}
use Rattle.std.proofs.lemmas.Slice.Eq.{strip_prefix_is}
use Rattle.esm_ddb.proofs.OwnParts.{part_passed}
use Rattle.esm_ddb.proofs.own_element.after_part.Goals as goal

pub returns : goal.returns
returns c =
    let s = c.args.text.now in
    let p = c.args.part.now in
    part_passed s p c.strip_prefix.result (strip_prefix_is Decides-eqb s p c.strip_prefix.result c.strip_prefix.ensures.cases)
