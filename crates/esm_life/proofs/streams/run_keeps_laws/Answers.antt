use Rattle.esm_io.specs.Meanings.{disk as meaning}
use Rattle.esm_life.proofs.StreamFiles.{keeps_laws}
use Rattle.esm_life.proofs.streams.run_keeps_laws.Goals as goal

pub returns : goal.returns
returns g c = keeps_laws (meaning g.D.Disk) (record {
  stays = c.fate_stays.ensures;
  earned = c.each_is_earned.ensures;
  not_called = c.none_is_called_again.ensures;
  in_order = c.keys_in_order.ensures;
  checkpoint_stays = c.recorded_checkpoint_stays.ensures;
  checkpoint_is = c.recorded_checkpoint_is_the_runs.ensures;
  knows = c.each_run_goes_on.ensures;
  once = c.each_fate_once.ensures;
  finds_tries = c.each_run_finds_tries.ensures;
})
