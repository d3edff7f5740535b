use Rattle.esm_filter.proofs.FoundLemmas.{named_found, named_none}
use Rattle.esm_filter.proofs.found.named.Goals as goal

pub returns-in-Some : goal.returns-in-Some
returns-in-Some c = named_found c.args.name.now c.args.members.now.items c.as_slice.result.now c.in-Some.place c.index-member.result.now c.as_slice.ensures.value c.in-Some.ensures c.index-member.ensures

pub returns-in-None : goal.returns-in-None
returns-in-None c = named_none c.args.name.now c.args.members.now.items c.as_slice.result.now c.as_slice.ensures.value c.in-None.ensures
