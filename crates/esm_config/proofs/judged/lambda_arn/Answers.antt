use Rattle.std.proofs.Common.{◌∙◌, append_assoc}
use Rattle.esm_config.proofs.judged.lambda_arn.Goals as goal

pub returns : goal.returns
returns c = simp append_assoc (c.from_vec.ensures ∙ c.in_ok-arn.ensures.ok)
