use Rattle.std.proofs.Common.{◌+◌, ◌*◌}
use Rattle.esm_ddb.proofs.block.+blocks.Given as goal

abbrev pub decreases-turn_blocks : goal.decreases-turn_blocks
decreases-turn_blocks g l = 2 * l.threads

abbrev pub decreases-first : goal.decreases-first
decreases-first g l = 2 * l.few + 1

abbrev pub decreases-second : goal.decreases-second
decreases-second g l = 2 * l.others + 1
