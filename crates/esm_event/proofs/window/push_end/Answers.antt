use Rattle.std.proofs.Common.{refl}
use Rattle.esm_event.proofs.window.push_end.Goals as goal

pub push_window-requires : goal.push_window-requires
push_window-requires c = c.requires c.in-Some.call.now (rw c.in-Some.is refl)
