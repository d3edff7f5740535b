use Rattle.esm_queue_life.proofs.DeadLetters.{dead_letters_kept}
use Rattle.esm_queue_life.proofs.life.dead_letters_are_kept.Goals as goal

pub returns : goal.returns
returns c = dead_letters_kept c.read_again.ensures (record {
  one_end = c.each_has_one_end.ensures;
  lined = c.moves_are_lined.ensures;
  once = c.each_id_once.ensures;
  letters = c.lines_stay_letters.ensures;
})
