-- Worked examples, computed: tries, and the delays between them.
use Rattle.std.proofs.Common.{◌≡◌, false, refl}
use Rattle.esm_model.specs.Batches.{is_ready}
use Rattle.esm_model.specs.Worked.{lane_0}
use Rattle.esm_model.specs.WorkedRetries.{retrying, after_try_1, RetryDelays, EarlyCallIsNotLegal, once, ThrottledCall, ladder, DelayLadder, TriesOutlast}
use Rattle.esm_model.proofs.WorkedWords.{worked_on_literals}
use Rattle.esm_model.proofs.WorkedLegal.{is_legal_sound, runs}

pub retry_delays : RetryDelays
unfolding worked_on_literals
retry_delays = record { runs = runs _ _ _ _ _ _ refl refl refl refl refl; second = refl; third = refl }

not_ready : is_ready retrying after_try_1 lane_0 249 ≡ false
unfolding worked_on_literals
not_ready = refl

pub early_call : EarlyCallIsNotLegal
early_call legal = let early = not_ready in let ready = legal.1.1.ready in cc

pub throttled_call : ThrottledCall
unfolding worked_on_literals
throttled_call = record { runs = runs _ _ _ _ _ _ refl refl refl refl refl; no_try = refl; second = refl }

pub delay_ladder : DelayLadder
unfolding worked_on_literals
delay_ladder = record { is_legal = is_legal_sound once ladder refl; calls_are = refl; after_1 = refl; after_2 = refl; after_3 = refl; after_4 = refl; after_5 = refl; after_6 = refl; after_7 = refl; after_8 = refl; after_9 = refl; after_10 = refl }

pub tries_outlast : TriesOutlast
unfolding worked_on_literals
tries_outlast = runs _ _ _ _ _ _ refl refl refl refl refl
