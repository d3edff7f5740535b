use Rattle.std.proofs.Common.{arith}
use Rattle.esm_cli.proofs.Refused.{hyphenated_is}
use Rattle.esm_cli.proofs.options.hyphenated.Goals as goal

pub returns : goal.returns
returns c = hyphenated_is c.args.word.now c.parse_str.result c.ok.result (omega arith) c.ok.ensures.value c.parse_str.ensures.ok c.parse_str.ensures.bytes
