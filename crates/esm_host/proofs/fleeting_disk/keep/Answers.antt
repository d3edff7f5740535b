use Rattle.std.proofs.Common.{arith, ◌+◌, ◌-◌}
use Rattle.esm_host.proofs.Kept.{kept_behind, kept_front}
use Rattle.esm_host.specs.declared.fleeting_disk.TheConstants.{KEPT}
use Rattle.esm_host.proofs.fleeting_disk.keep.Goals as goal

pub returns-then-at : goal.returns-then-at
returns-then-at c = kept_behind KEPT c.args.at c.args.kept.now c.args.from.now c.requires (omega (arith, c.if-at.true))

pub returns : goal.returns
returns c = kept_front KEPT c.args.at c.min-count.result (c.args.at + c.min-count.result - c.args.at) c.args.kept.now c.args.from.now c.copy_from_slice.new.self
    c.requires (omega (arith, c.if-at.false)) c.min-count.ensures (omega arith) c.copy_from_slice.ensures.after
