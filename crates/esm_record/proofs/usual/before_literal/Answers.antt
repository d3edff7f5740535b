use Rattle.std.proofs.lemmas.Bool.Decides.{Decides-eqb}
use Rattle.std.proofs.lemmas.Slice.Eq.{strip_suffix_is}
use Rattle.esm_record.proofs.UsualParts.{if_matched}
use Rattle.esm_record.proofs.usual.before_literal.Goals as goal

pub returns : goal.returns
returns c =
    let s = c.args.text.now in
    let p = c.args.literal.now in
    if_matched _ _ c.strip_suffix.result (strip_suffix_is Decides-eqb s p c.strip_suffix.result c.strip_suffix.ensures.cases)
