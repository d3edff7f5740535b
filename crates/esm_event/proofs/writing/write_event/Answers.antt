use Rattle.std.proofs.Common.{◌∙◌, sym}
use Rattle.esm_event.proofs.Elements.{head_alone}
use Rattle.esm_event.proofs.writing.write_event.Goals as goal

-- src/writing.rt:29:9
pub returns-then-is_empty-2 : goal.returns-then-is_empty-2
returns-then-is_empty-2 c =
    sym (c.parts-parts.ensures ∙ head_alone _ _ _ _ (sym c.if-is_empty.ensures) (sym c.if-is_empty-2.ensures))
