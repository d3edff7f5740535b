use Rattle.std.proofs.Common.{◌≡◌, length}
use Rattle.esm_model.specs.ValidMessage.{has_body_chars}
use Rattle.esm_record.proofs.queue.has_body_chars_beside.Given as goal

abbrev pub invariant-loop-first : goal.invariant-loop-first
invariant-loop-first l = has_body_chars l.rest ≡ has_body_chars l.fn.text

abbrev pub decreases-loop-first : goal.decreases-loop-first
decreases-loop-first l = length l.rest
