use Rattle.std.proofs.Common.{◌∙◌}
use Rattle.esm_record.proofs.Bodies.{plain_body}
use Rattle.esm_record.proofs.queue.has_body_chars.Goals as goal

pub returns-in-None : goal.returns-in-None
returns-in-None c = c.are_body_bytes.ensures ∙ plain_body c.args.text.now c.in-None.ensures
