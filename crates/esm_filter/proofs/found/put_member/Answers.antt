use Rattle.std.proofs.Common.{rules}
use Rattle.esm_filter.proofs.FoundLemmas.{with_member-push, with_member-set}
use Rattle.esm_filter.proofs.found.put_member.Goals as goal

pub returns-in-Some-clause-ok : goal.returns-in-Some-clause-ok
returns-in-Some-clause-ok c =
    with_member-set (c.args.name, c.args.value) c.args.members.now.items c.as_slice.result.now _ c.in-Some.place c.as_slice.ensures.value c.in-Some.ensures (search rules)

pub returns-in_ok-push-in-None-clause-ok : goal.returns-in_ok-push-in-None-clause-ok
returns-in_ok-push-in-None-clause-ok c =
    with_member-push (c.args.name, c.args.value) c.args.members.now.items c.as_slice.result.now _ c.as_slice.ensures.value c.in-None.ensures (search rules)
