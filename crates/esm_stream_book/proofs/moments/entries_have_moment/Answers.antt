use Rattle.esm_ingest.specs.Parts.{parts_of}
use Rattle.esm_stream_core.specs.Calls.{moment_for}
use Rattle.esm_stream_book.specs.Calls.{next_now}
use Rattle.esm_stream_book.proofs.Timed.{ended_have, next_has, parts_have}
use Rattle.esm_stream_book.proofs.moments.entries_have_moment.Goals as goal

pub returns-clause-came : goal.returns-clause-came
returns-clause-came c = λ v items m. parts_have m (parts_of v.setting v.past items)

pub returns-clause-next : goal.returns-clause-next
returns-clause-next c = λ v batcher moment. next_has v.setting v.past batcher (moment_for v.past moment) (next_now v batcher moment)

pub returns-clause-ended : goal.returns-clause-ended
returns-clause-ended c = ended_have
