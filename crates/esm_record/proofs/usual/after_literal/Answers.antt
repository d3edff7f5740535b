use Rattle.std.proofs.lemmas.Bool.Decides.{Decides-eqb}
use Rattle.std.proofs.lemmas.Slice.Eq.{strip_prefix_is}
use Rattle.esm_record.proofs.UsualParts.{if_matched}
use Rattle.esm_record.proofs.usual.after_literal.Goals as goal

pub returns : goal.returns
returns c =
    let s = c.args.text.now in
    let p = c.args.literal.now in
    if_matched _ _ c.strip_prefix.result (strip_prefix_is Decides-eqb s p c.strip_prefix.result c.strip_prefix.ensures.cases)
