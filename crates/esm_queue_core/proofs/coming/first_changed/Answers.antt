use Rattle.std.proofs.Common.{sym, ◌∙◌}
use Rattle.esm_queue_core.proofs.Judging.{at_of}
use Rattle.esm_queue_core.proofs.coming.first_changed.Goals as goal

pub returns-then-differs-clause-found : goal.returns-then-differs-clause-found
returns-then-differs-clause-found c = record {
  message = c.index-items-j.result;
  at = at_of c.args.items.now c.loop-j.j c.index-items-j.result c.loop-j-test.true c.index-items-j.is;
  changed = sym c.differs.ensures ∙ c.if-differs.true;
  before = c.loop-j.invariant;
}
