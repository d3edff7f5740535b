-- Worked examples, computed: batches that fail, whole or halved.
use Rattle.std.proofs.Common.{◌<◌, arith, ◌≡◌, [], ◌∷◌, refl}
use Rattle.esm_model.specs.Batches.{batch}
use Rattle.esm_model.specs.Worked.{lane_0, all_came}
use Rattle.esm_model.specs.WorkedSplits.{bisecting, after_call_1, after_call_3, BisectEight, ShortBatchIsNotLegal, LaterHalfIsNotLegal, ExhaustEight, BisectItemFailures, bisecting_thrice, BudgetAndRestart, FourthCallIsNotLegal}
use Rattle.esm_model.proofs.WorkedWords.{worked_on_literals}
use Rattle.esm_model.proofs.WorkedLegal.{is_legal_sound, runs}

pub bisect_eight : BisectEight
unfolding worked_on_literals
bisect_eight = runs _ _ _ _ _ _ refl refl refl refl refl

first_batch : batch bisecting (all_came 8 0) lane_0 0 ≡ 0 ∷ 1 ∷ 2 ∷ 3 ∷ 4 ∷ 5 ∷ 6 ∷ 7 ∷ []
unfolding worked_on_literals
first_batch = refl

second_batch : batch bisecting after_call_1 lane_0 0 ≡ 0 ∷ 1 ∷ 2 ∷ 3 ∷ []
unfolding worked_on_literals
second_batch = refl

pub short_batch : ShortBatchIsNotLegal
short_batch legal = let whole = first_batch in let short = legal.1.1.exact in cc

pub later_half : LaterHalfIsNotLegal
later_half legal = let first = second_batch in let later = legal.1.1.exact in cc

pub exhaust_eight : ExhaustEight
unfolding worked_on_literals
exhaust_eight = runs _ _ _ _ _ _ refl refl refl refl refl

pub bisect_item_failures : BisectItemFailures
unfolding worked_on_literals
bisect_item_failures = runs _ _ _ _ _ _ refl refl refl refl refl

pub budget_and_restart : BudgetAndRestart
unfolding worked_on_literals
budget_and_restart = record {
  first_run = is_legal_sound bisecting_thrice after_call_3 refl;
  checkpoint_left = refl;
  runs = runs _ _ _ _ _ _ refl refl refl refl refl;
  checkpoint_found = refl;
}

pub fourth_call : FourthCallIsNotLegal
fourth_call legal = let three : 3 < 3 = legal.1.1.call.calls_left in absurd (omega arith)
