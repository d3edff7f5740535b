-- Worked examples: tries, and the delays between them.
use Rattle.std.specs.Prelude.{◌≡◌, ℕ, ◌+◌, List, [], ◌∷◌, map, codes, Some, None, false}
use Rattle.esm_model.specs.declared.entry.Fate.TheVariants.{Succeeded, Exhausted}
use Rattle.esm_model.specs.declared.entry.Reply.{Reply}
use Rattle.esm_model.specs.declared.entry.Reply.TheVariants.{Answered}
use Rattle.esm_model.specs.declared.entry.Entry.{Entry}
use Rattle.esm_model.specs.declared.entry.Entry.TheVariants.{Tried}
use Rattle.esm_model.specs.Setting.{Setting}
use Rattle.esm_model.specs.Batches.{delay_end}
use Rattle.esm_model.specs.Tries.{tries}
use Rattle.esm_model.specs.Step.{Legal}
use Rattle.esm_model.specs.Worked.{plain_mapping, setting_over, record_with, lane_0, began, ended, gave, failed_call, good_call, all_came, calls_in, Runs}

-- `retry-delays`: one record, two retries, three failures

abbrev pub retrying : Setting
retrying = setting_over (record plain_mapping { retries = Some 2 }) (record_with (codes "1") 0 ∷ [])

abbrev pub tried : ℕ → ℕ → Entry
tried count moment = Tried lane_0 (0 ∷ []) None count moment

abbrev pub after_try_1 : List Entry
after_try_1 = tried 1 0 ∷ failed_call (0 ∷ []) 0 (all_came 1 0)

abbrev pub after_try_2 : List Entry
after_try_2 = tried 2 250 ∷ failed_call (0 ∷ []) 250 after_try_1

-- the calls begin at 0, 250 and 750, each as soon as the delay is over, and the third failure gives the record up
pub record RetryDelays : Type 0 where
  pub runs : Runs retrying (gave (0 ∷ []) Exhausted 750 ∷ failed_call (0 ∷ []) 750 after_try_2) (began (0 ∷ []) 0 ∷ began (0 ∷ []) 250 ∷ began (0 ∷ []) 750 ∷ []) (Exhausted ∷ []) [] 1
  pub second : delay_end retrying after_try_1 lane_0 ≡ 250
  pub third : delay_end retrying after_try_2 lane_0 ≡ 750

-- a call may not begin before the delay is over
abbrev pub EarlyCallIsNotLegal : Type 0
EarlyCallIsNotLegal = ¬ Legal retrying (began (0 ∷ []) 249 ∷ after_try_1)

-- `throttled-call`: a call that was not run is called again, also without retries, and no try is counted

abbrev pub throttled : Reply
throttled = Answered 429 false []

abbrev pub once : Setting
once = setting_over (record plain_mapping { retries = Some 0 }) (record_with (codes "1") 0 ∷ [])

abbrev pub throttled_call : ℕ → List Entry → List Entry
throttled_call moment h = ended throttled moment ∷ began (0 ∷ []) moment ∷ h

pub record ThrottledCall : Type 0 where
  pub runs : Runs once (good_call (0 ∷ []) 250 (throttled_call 0 (all_came 1 0))) (began (0 ∷ []) 0 ∷ began (0 ∷ []) 250 ∷ []) (Succeeded ∷ []) [] 1
  pub no_try : tries once (throttled_call 0 (all_came 1 0)) 0 0 ≡ 0
  pub second : delay_end once (throttled_call 0 (all_came 1 0)) lane_0 ≡ 250

-- `delay-ladder`: ten such replies, each called as soon as the delay is over

-- throttled calls: the first at the moment, each other after the next of these delays in milliseconds
abbrev pub throttled_calls : ℕ → List ℕ → List Entry → List Entry
throttled_calls moment [] h = throttled_call moment h
throttled_calls moment (delay ∷ delays) h = throttled_calls (moment + delay) delays (throttled_call moment h)

abbrev pub ladder : List Entry
ladder = throttled_calls 0 (250 ∷ 500 ∷ 1000 ∷ 2000 ∷ 4000 ∷ 8000 ∷ 16000 ∷ 32000 ∷ 60000 ∷ []) (all_came 1 0)

abbrev pub alone_at : List ℕ → List Entry
alone_at moments = map (began (0 ∷ [])) moments

-- the moments of the ten calls: each is the end of the delay after the call before it
pub record DelayLadder : Type 0 where
  pub is_legal : Legal once ladder
  pub calls_are : calls_in ladder ≡ alone_at (0 ∷ 250 ∷ 750 ∷ 1750 ∷ 3750 ∷ 7750 ∷ 15750 ∷ 31750 ∷ 63750 ∷ 123750 ∷ [])
  pub after_1 : delay_end once (throttled_calls 0 [] (all_came 1 0)) lane_0 ≡ 250
  pub after_2 : delay_end once (throttled_calls 0 (250 ∷ []) (all_came 1 0)) lane_0 ≡ 750
  pub after_3 : delay_end once (throttled_calls 0 (250 ∷ 500 ∷ []) (all_came 1 0)) lane_0 ≡ 1750
  pub after_4 : delay_end once (throttled_calls 0 (250 ∷ 500 ∷ 1000 ∷ []) (all_came 1 0)) lane_0 ≡ 3750
  pub after_5 : delay_end once (throttled_calls 0 (250 ∷ 500 ∷ 1000 ∷ 2000 ∷ []) (all_came 1 0)) lane_0 ≡ 7750
  pub after_6 : delay_end once (throttled_calls 0 (250 ∷ 500 ∷ 1000 ∷ 2000 ∷ 4000 ∷ []) (all_came 1 0)) lane_0 ≡ 15750
  pub after_7 : delay_end once (throttled_calls 0 (250 ∷ 500 ∷ 1000 ∷ 2000 ∷ 4000 ∷ 8000 ∷ []) (all_came 1 0)) lane_0 ≡ 31750
  pub after_8 : delay_end once (throttled_calls 0 (250 ∷ 500 ∷ 1000 ∷ 2000 ∷ 4000 ∷ 8000 ∷ 16000 ∷ []) (all_came 1 0)) lane_0 ≡ 63750
  pub after_9 : delay_end once (throttled_calls 0 (250 ∷ 500 ∷ 1000 ∷ 2000 ∷ 4000 ∷ 8000 ∷ 16000 ∷ 32000 ∷ []) (all_came 1 0)) lane_0 ≡ 123750
  pub after_10 : delay_end once ladder lane_0 ≡ 183750

-- `tries-outlast`: the journal has the two tries of a first run, so the second run makes one call

abbrev pub tried_twice : Setting
tried_twice = record retrying { tries = record { shard = 0; place = 0; tries = 2; text = codes "1" } ∷ [] }

abbrev pub TriesOutlast : Type 0
TriesOutlast = Runs tried_twice (gave (0 ∷ []) Exhausted 0 ∷ failed_call (0 ∷ []) 0 (all_came 1 0)) (began (0 ∷ []) 0 ∷ []) (Exhausted ∷ []) [] 1
