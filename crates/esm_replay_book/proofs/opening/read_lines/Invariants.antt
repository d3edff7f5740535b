use Rattle.std.proofs.Common.{take}
use Rattle.esm_replay_book.specs.Opening.{GiveRanges}
use Rattle.esm_replay_book.proofs.opening.read_lines.Given as goal

abbrev pub invariant-loop-index : goal.invariant-loop-index
invariant-loop-index l = GiveRanges (take l.index l.lines) l.ranges.items
