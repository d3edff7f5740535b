-- Worked examples of records that come, computed.
use Rattle.std.proofs.Common.{refl}
use Rattle.esm_model.proofs.WorkedWords.{worked_on_literals}
use Rattle.esm_worked.specs.WorkedArrivals.{FilteredData, ChangedStream, ChangedAfterTries}

pub filtered_data : FilteredData
unfolding worked_on_literals
filtered_data = record { no_json = refl; passing = refl; by_key = refl }

pub changed_stream : ChangedStream
changed_stream = record { other = refl; same = refl }

pub changed_after_tries : ChangedAfterTries
changed_after_tries = record { other = refl; same = refl }
