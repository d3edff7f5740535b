use Rattle.esm_config.proofs.Cuts.{strip_is}
use Rattle.esm_config.proofs.arn.strip.Goals as goal

pub returns : goal.returns
returns c = strip_is c.args.prefix.now c.args.text.now c.strip_prefix.result c.strip_prefix.ensures.cases
