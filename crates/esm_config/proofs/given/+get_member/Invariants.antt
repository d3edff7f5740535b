use Rattle.std.proofs.Common.{length}
use Rattle.esm_config.proofs.given.+get_member.Given as goal

abbrev pub decreases-get_member : goal.decreases-get_member
decreases-get_member l = length l.members.now
