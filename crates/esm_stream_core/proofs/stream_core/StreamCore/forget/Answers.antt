use Rattle.esm_stream_core.proofs.Paying.{core_forgotten}
use Rattle.esm_stream_core.proofs.stream_core.StreamCore.forget.Goals as goal

pub invariant_of-self : goal.invariant_of-self
invariant_of-self c = (core_forgotten c.self.inside c.clear.new.self c.clear-2.new.self c.forgotten-self-inside.result c.self.invariant c.clear.ensures.items c.clear-2.ensures.items c.forgotten-self-inside.ensures).core
