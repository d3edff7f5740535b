use Rattle.std.proofs.Common.{◌∙◌, sym}
use Rattle.esm_config.proofs.Looking.{later_in}
use Rattle.esm_config.proofs.given.+get_member.Goals as goal

pub returns-else-eq : goal.returns-else-eq
returns-else-eq t c =
    c.get_member.ensures ∙ sym (later_in c.args.members.now c.first-item.result c.args.name.now c.in-len1-up.len_at_least c.first-item.is (sym c.eq.ensures ∙ c.if-eq.false))
