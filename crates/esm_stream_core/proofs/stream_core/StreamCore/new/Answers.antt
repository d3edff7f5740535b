use Rattle.esm_stream_core.proofs.Openings.{core_new}
use Rattle.esm_stream_core.proofs.stream_core.StreamCore.new.Goals as goal

pub invariant_of-result : goal.invariant_of-result
invariant_of-result c =
    core_new c.in_ok-ledger.ledger c.args.criteria c.args.config c.args.calls c.args.found c.new-2.result c.new-3.result c.in_ok-ledger.ensures.kept c.in_ok-ledger.ensures.past c.in_ok-ledger.ensures.setting c.requires.states c.requires.criteria c.new-2.ensures.items c.new-3.ensures.items
