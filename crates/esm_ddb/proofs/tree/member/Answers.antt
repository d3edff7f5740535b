use Rattle.esm_ddb.proofs.Trees.{member_found, member_ordered}
use Rattle.esm_ddb.proofs.tree.member.Goals as goal

pub returns-clause-found : goal.returns-clause-found
returns-clause-found c = member_found c.args.name.now c.args.value.now c.get.result c.requires c.get.ensures

pub returns-clause-ordered : goal.returns-clause-ordered
returns-clause-ordered c = member_ordered c.args.name.now c.args.value.now c.get.result c.requires c.get.ensures
