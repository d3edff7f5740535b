use Rattle.esm_invoke.proofs.HeadLemmas.{no_head_yet, never_without_saying}
use Rattle.esm_invoke.proofs.head.parse.Goals as goal

pub returns-in-None : goal.returns-in-None
returns-in-None c = never_without_saying c.args.bytes.now _ _ (rw c.in-Ok-Complete.field-0-is at c.in-Ok-Complete.ensures.complete) c.in-None.ensures

pub returns-in-Ok-Partial : goal.returns-in-Ok-Partial
returns-in-Ok-Partial c = no_head_yet c.args.bytes.now (rw c.in-Ok-Partial.field-0-is at c.in-Ok-Partial.ensures.partial)
