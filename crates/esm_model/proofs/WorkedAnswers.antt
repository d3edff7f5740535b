-- Worked examples, computed: what answers report.
use Rattle.std.proofs.Common.{refl}
use Rattle.esm_model.specs.WorkedAnswers.{PartialFailure, ItemFailuresCounted, AnswerBodies, HostileBodies}
use Rattle.esm_model.proofs.WorkedWords.{worked_on_literals}
use Rattle.esm_model.proofs.WorkedLegal.{runs}

pub partial_failure : PartialFailure
unfolding worked_on_literals
partial_failure = record { runs = runs _ _ _ _ _ _ refl refl refl refl refl; second = refl }

pub item_failures_counted : ItemFailuresCounted
unfolding worked_on_literals
item_failures_counted = runs _ _ _ _ _ _ refl refl refl refl refl

pub answer_bodies : AnswerBodies
unfolding worked_on_literals
answer_bodies = record {
  null_list = runs _ _ _ _ _ _ refl refl refl refl refl;
  empty_list = runs _ _ _ _ _ _ refl refl refl refl refl;
  no_list = runs _ _ _ _ _ _ refl refl refl refl refl;
  null = runs _ _ _ _ _ _ refl refl refl refl refl;
  nothing = runs _ _ _ _ _ _ refl refl refl refl refl;
  empty_identifier = runs _ _ _ _ _ _ refl refl refl refl refl;
  unknown_identifier = runs _ _ _ _ _ _ refl refl refl refl refl;
  number = runs _ _ _ _ _ _ refl refl refl refl refl;
}

pub hostile_bodies : HostileBodies
unfolding worked_on_literals
hostile_bodies = record {
  number_identifier = runs _ _ _ _ _ _ refl refl refl refl refl;
  object = runs _ _ _ _ _ _ refl refl refl refl refl;
  list = runs _ _ _ _ _ _ refl refl refl refl refl;
  no_identifier = runs _ _ _ _ _ _ refl refl refl refl refl;
  deep = runs _ _ _ _ _ _ refl refl refl refl refl;
  other_key = runs _ _ _ _ _ _ refl refl refl refl refl;
}
