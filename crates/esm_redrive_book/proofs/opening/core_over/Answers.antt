use Rattle.std.proofs.Common.{Bool, length, subst}
use Rattle.esm_redrive.specs.DeadFile.{AreLetters, dead_ids}
use Rattle.esm_redrive_model.specs.RedriveSetting.{HaveSameIds}
use Rattle.esm_redrive_book.proofs.opening.core_over.Goals as goal

pub returns-clause-opened : goal.returns-clause-opened
returns-clause-opened c = record {
  good = c.in_ok-said.ensures.good;
  said = c.in_ok-said.said;
  tells = c.in_ok-said.ensures.told;
  order = c.in_ok-said.ensures.order;
  letters = subst (λ (b : Bool). AreLetters b c.args.lines.now (length c.args.lines.now)) c.is_fifo.ensures c.in_ok-dead.ensures.good;
  ids = c.in_ok-dead.dead;
  same_ids = subst (λ (b : Bool). HaveSameIds c.in_ok-dead.dead (dead_ids b c.args.lines.now)) c.is_fifo.ensures c.in_ok-dead.ensures.ids;
  is = c.in_ok-new.ensures;
}
