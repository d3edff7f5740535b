use Rattle.std.proofs.Common.{◌≤◌, ◌*◌, ◌/◌, arith}
use Rattle.std.proofs.Math.Nat.{mul-le-mul_left}
use Rattle.esm_record.proofs.line_blocks.share_of.Goals as goal

pub returns-clause-within : goal.returns-clause-within
returns-clause-within c =
    let most : c.args.bytes / c.args.threads * c.args.these ≤ c.args.bytes / c.args.threads * c.args.threads = mul-le-mul_left (c.args.bytes / c.args.threads) c.requires.of_them in
    omega (arith, most)
