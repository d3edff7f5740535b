use Rattle.esm_next.proofs.Prefixes.{first_taken}
use Rattle.esm_next.proofs.prefix.cut.Goals as goal

pub returns-clause-some : goal.returns-clause-some
returns-clause-some c = first_taken c.args.limits.now c.args.now c.args.items.now c.fitting-count.result c.requires c.fitting-count.ensures
