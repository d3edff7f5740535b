-- Worked examples of what a batcher of a stream does next, computed.
use Rattle.std.proofs.Common.{◌≡◌, ℕ, ◌+◌, ◌≤◌, refl, ap, arith}
use Rattle.std.proofs.Math.Nat.{min-eq_left}
use Rattle.std.proofs.lemmas.Bool.{lt-ltb, le-ltb, lt-leb}
use Rattle.esm_model.specs.declared.moment.TheConstants.{MAX_MOMENT}
use Rattle.esm_model.specs.declared.book.Next.TheVariants as next
use Rattle.esm_model.proofs.WorkedWords.{worked_on_literals}
use Rattle.esm_next.specs.Following.{pause}
use Rattle.esm_worked.specs.WorkedNext.{OneRecordIsCalled, BothLanesCall, FinalCallIsFirst, BatchWaits, LaneWaits, NothingToDo, Finishes, Stops}

pub one_record_is_called : OneRecordIsCalled
unfolding worked_on_literals
one_record_is_called = refl

pub both_lanes_call : BothLanesCall
unfolding worked_on_literals
both_lanes_call = record { first = refl; second = refl }

pub final_call_is_first : FinalCallIsFirst
unfolding worked_on_literals
final_call_is_first = record { batch_is = refl; is_ready = refl; final_call = refl }

pub batch_waits : BatchWaits
unfolding worked_on_literals
batch_waits = record { before = λ m before. rw (le-ltb m 0 (omega arith)) (rw (lt-leb 1000 m before) refl); after = refl }

pub lane_waits : LaneWaits
unfolding worked_on_literals
lane_waits = record { first = λ m before. rw (lt-ltb m 250 before) refl; second = λ m before. rw (lt-ltb m 750 before) refl }

-- 20 milliseconds later, where that is a moment
pause-is : (m : ℕ) → m + 20 ≤ MAX_MOMENT → pause m ≡ next.Idle (m + 20)
pause-is m within = ap next.Idle (min-eq_left within)

pub nothing_to_do : NothingToDo
unfolding worked_on_literals
nothing_to_do = record { no_shard = pause-is; no_other_shard = pause-is; no_record = pause-is }

pub finishes : Finishes
unfolding worked_on_literals
finishes = record { no_shard = λ m. refl; no_other_shard = λ m. refl; no_record = λ m. refl; filtered = λ m. refl }

pub stops : Stops
unfolding worked_on_literals
stops = record { three_calls = λ m. refl; two_calls = λ m. refl }
