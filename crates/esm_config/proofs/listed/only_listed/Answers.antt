use Rattle.std.proofs.Common.{◌∙◌}
use Rattle.esm_config.proofs.Entries.{listed_members}
use Rattle.esm_config.proofs.listed.only_listed.Goals as goal

pub returns : goal.returns
returns c = c.has_only_listed.ensures ∙ listed_members c.args.members.now.entries
