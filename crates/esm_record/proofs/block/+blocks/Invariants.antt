use Rattle.std.proofs.Common.{◌+◌, ◌*◌}
use Rattle.esm_record.proofs.block.+blocks.Given as goal

abbrev pub decreases-parse_blocks : goal.decreases-parse_blocks
decreases-parse_blocks g l = 2 * l.threads

abbrev pub decreases-first : goal.decreases-first
decreases-first g l = 2 * l.few + 1

abbrev pub decreases-second : goal.decreases-second
decreases-second g l = 2 * l.others + 1
