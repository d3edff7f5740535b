use Rattle.esm_stream_core.proofs.Payloads.{next_writable}
use Rattle.esm_stream_core.proofs.payload.next_may_be_written.Goals as goal

pub returns : goal.returns
returns c = next_writable c.legal_may_be_said.ensures c.payload_within.ensures c.lines_within.ensures
