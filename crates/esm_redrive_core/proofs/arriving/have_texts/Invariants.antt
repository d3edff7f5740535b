use Rattle.std.proofs.Common.{take}
use Rattle.std.specs.List.{All}
use Rattle.esm_redrive.specs.ReadsBack.{IsUtf8Message}
use Rattle.esm_redrive_core.proofs.arriving.have_texts.Given as goal

abbrev pub invariant-loop-place : goal.invariant-loop-place
invariant-loop-place l = All IsUtf8Message (take l.place l.items)
