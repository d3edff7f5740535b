-- Worked examples, computed: the greatest age of a record.
use Rattle.std.proofs.Common.{◌≡◌, true, refl}
use Rattle.esm_model.specs.Step.{is_front_expired}
use Rattle.esm_model.specs.Worked.{lane_0, all_came}
use Rattle.esm_model.specs.WorkedAges.{aging, RecordAge, LateCallIsNotLegal, AgeEdge}
use Rattle.esm_model.proofs.WorkedWords.{worked_on_literals}
use Rattle.esm_model.proofs.WorkedLegal.{runs}

pub record_age : RecordAge
unfolding worked_on_literals
record_age = record { in_time = runs _ _ _ _ _ _ refl refl refl refl refl; too_old = runs _ _ _ _ _ _ refl refl refl refl refl }

front_expired : is_front_expired aging (all_came 1 60001) lane_0 60001 ≡ true
unfolding worked_on_literals
front_expired = refl

pub late_call : LateCallIsNotLegal
late_call legal = let expired = front_expired in let young = legal.1.1.call.front in cc

pub age_edge : AgeEdge
unfolding worked_on_literals
age_edge = runs _ _ _ _ _ _ refl refl refl refl refl
