use Rattle.esm_redrive_model.proofs.WorkedRedrives as facts
use Rattle.esm_redrive_model.proofs.worked.redrives.Goals as goal

pub returns : goal.returns
returns c = record {
  one = facts.redrive_one;
  spent = facts.redrive_spent;
  near_one = facts.near_redrive_one;
  found = facts.redrive_found;
  near_found = facts.near_redrive_found;
  fifo = facts.redrive_fifo;
  near_fifo = facts.near_redrive_fifo;
}
