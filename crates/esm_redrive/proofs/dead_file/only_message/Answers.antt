use Rattle.std.proofs.Common.{◌∙◌, arith}
use Rattle.esm_redrive.proofs.DeadLines.{last_is, none_is}
use Rattle.esm_redrive.proofs.dead_file.only_message.Goals as goal

pub returns-in-None : goal.returns-in-None
returns-in-None c = none_is c.args.items.items (omega (arith, c.args.items.ok, c.in-None.ensures.cases.0))

pub returns : goal.returns
returns c = c.message_of.ensures ∙ last_is c.args.items.items c.pop.new.self.items c.in-Some.item c.requires c.in-Some.ensures.items
