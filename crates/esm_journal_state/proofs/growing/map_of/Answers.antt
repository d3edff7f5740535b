use Rattle.std.proofs.Common.{arith}
use Rattle.std.specs.BTreeMap as map
use Rattle.std.proofs.lemmas.Iterator.Adapters.{fact_from_collect, YieldsList-from_vec}
use Rattle.esm_journal_state.specs.Table.{pair_cmp}
use Rattle.esm_journal_state.proofs.growing.map_of.Goals as goal

pub returns : goal.returns
returns c =
    fact_from_collect (map.IsFromIterResult pair_cmp) c.collect.result c.collect.ensures.ran
    (YieldsList-from_vec c.args.fates.items (cc) (omega (arith, c.args.fates.ok)))
