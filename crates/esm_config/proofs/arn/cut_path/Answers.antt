use Rattle.std.proofs.Common.{lit<}
use Rattle.std.proofs.lemmas.Str.Pattern.{split_once_first}
use Rattle.esm_config.specs.Arn.{is_slash}
use Rattle.esm_config.proofs.Cuts.{cut_is}
use Rattle.esm_config.proofs.arn.cut_path.Goals as goal

pub returns : goal.returns
returns c = cut_is is_slash c.args.text.now c.split_once.result (split_once_first 47 c.args.text.now c.split_once.result c.split_once.ensures.cases (lit< tt))
