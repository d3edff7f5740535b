use Rattle.esm_trace.proofs.CallsTell.{calls_of_queue, stream_calls}
use Rattle.esm_trace.proofs.laws.calls_tell_replies.Goals as goal

pub returns-clause-stream : goal.returns-clause-stream
returns-clause-stream c = stream_calls

pub returns-clause-queue : goal.returns-clause-queue
returns-clause-queue c = calls_of_queue
