use Rattle.std.proofs.lemmas.Map.Text.{btree_map_updates_str}
use Rattle.esm_verdict.proofs.index.Index.put.Goals as goal

pub returns : goal.returns
returns c = btree_map_updates_str c.args.id.now c.args.self.now.positions c.insert.new.self _ c.in_ok-insert.ensures.updates
