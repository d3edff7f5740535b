use Rattle.std.proofs.Common.{rules, arith}
use Rattle.std.proofs.lemmas.Grind.{common_steps}
use Rattle.esm_io.proofs.Crashed.{crash_is_image}
use Rattle.esm_io.proofs.mem_disk.MemDisk.crash.Goals as goal

pub returns-in-Ok-clause-image : goal.returns-in-Ok-clause-image
returns-in-Ok-clause-image c = crash_is_image c.args.choice c.args.self _ c.new-in-Ok.result.content c.self.view_is c.self.invariant (first_of (search rules, grind (arith, common_steps)))
