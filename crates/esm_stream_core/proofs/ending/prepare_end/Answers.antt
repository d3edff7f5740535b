use Rattle.std.proofs.Common.{◌+◌}
use Rattle.esm_stream_core.proofs.ending.prepare_end.Goals as goal

pub returns-in_ok-prepare_window-clause-room : goal.returns-in_ok-prepare_window-clause-room
returns-in_ok-prepare_window-clause-room c = c.prepare_window.ensures.room (c.args.dues + 1) c.in_ok-prepare_entries.ensures.ok
