use Rattle.std.proofs.Common.{ap, ◌∙◌, ◌++◌}
use Rattle.esm_journal.proofs.Replaced.{head_parts}
use Rattle.esm_journal.proofs.head.head_bytes.Goals as goal

pub returns : goal.returns
returns c = head_parts c.args.header c.to_be_bytes.result _ _ c.copy_from_slice.ensures.after c.copy_from_slice-2.ensures.after c.requires ∙ ap (λ l. c.args.header ++ l) c.to_be_bytes.ensures
