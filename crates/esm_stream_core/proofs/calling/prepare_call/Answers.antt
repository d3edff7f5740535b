use Rattle.esm_stream_core.proofs.calling.prepare_call.Goals as goal

pub returns-clause-room : goal.returns-clause-room
returns-clause-room c = c.prepare_call.ensures.room 2 c.in_ok-prepare_entries.ensures.ok
