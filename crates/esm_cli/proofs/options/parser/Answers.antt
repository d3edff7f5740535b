use Rattle.std.proofs.Common.{◌∙◌, arith}
use Rattle.esm_cli.proofs.Getters.{made_more}
use Rattle.esm_cli.proofs.options.parser.Goals as goal

pub loop-option-preserved : goal.loop-option-preserved
loop-option-preserved c =
    c.in_ok-command.ensures.shape c.argument.ensures.local
    ∙ made_more c.args.options.now c.loop-option.option-index _ _ _ (omega arith) c.loop-option.invariant c.argument.ensures.rule
