use Rattle.std.proofs.Common.{◌≡◌, [], take}
use Rattle.esm_stream_core.proofs.LineBounds.{lines_in}
use Rattle.esm_stream_core.proofs.reading.line_bound.Given as goal

abbrev pub invariant-loop-entry : goal.invariant-loop-entry
invariant-loop-entry l = lines_in (take l.entry-index l.owed) ≡ []
