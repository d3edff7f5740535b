-- Worked examples, computed: which records make a call, and when.
use Rattle.std.proofs.Common.{refl}
use Rattle.esm_model.specs.WorkedBatches.{OneRecord, BatchingWindow, EarlyBatchIsNotLegal, FilteredData}
use Rattle.esm_model.proofs.WorkedWords.{worked_on_literals}
use Rattle.esm_model.proofs.WorkedLegal.{runs}

pub one_record : OneRecord
unfolding worked_on_literals
one_record = record { runs = runs _ _ _ _ _ _ refl refl refl refl refl; events = refl }

pub batching_window : BatchingWindow
unfolding worked_on_literals
batching_window = record {
  not_at_once = refl;
  not_yet = refl;
  after_window = runs _ _ _ _ _ _ refl refl refl refl refl;
  full = runs _ _ _ _ _ _ refl refl refl refl refl;
  at_the_end = runs _ _ _ _ _ _ refl refl refl refl refl;
}

pub early_batch : EarlyBatchIsNotLegal
early_batch legal = let early = batching_window.not_yet in let ready = legal.1.1.ready in cc

pub filtered_data : FilteredData
unfolding worked_on_literals
filtered_data = record { no_json = runs _ _ _ _ _ _ refl refl refl refl refl; passing = runs _ _ _ _ _ _ refl refl refl refl refl; by_key = runs _ _ _ _ _ _ refl refl refl refl refl }
