use Rattle.std.proofs.Common.{refl}
use Rattle.esm_event.proofs.length.frame_bytes.Goals as goal

pub window_bytes-requires-clause-call : goal.window_bytes-requires-clause-call
window_bytes-requires-clause-call c = c.requires.window c.in-Some.call.now (rw c.in-Some.is refl)
