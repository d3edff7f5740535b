use Rattle.esm_stream_core.proofs.adding.shut.Goals as goal

pub ended_input-requires-clause-legal : goal.ended_input-requires-clause-legal
ended_input-requires-clause-legal c = (c.requires.whole c.if-whole.true).legal
