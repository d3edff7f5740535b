use Rattle.std.proofs.Common.{codes}
use Rattle.esm_trace.specs.Trace.{numbers_text}
use Rattle.esm_trace.proofs.Cutting.{appended}
use Rattle.esm_trace.proofs.members.push_places.Goals as goal

pub returns : goal.returns
returns c =
    appended c.args.out.now.items c.push_bytes.new.out.items c.push_list.new.out.items c.push_bytes-2.new.out.items
    (codes ",\"places\":[") (numbers_text c.args.places.now) (codes "]")
    c.in_ok-push_bytes.ensures (rw c.as_slice.ensures at c.in_ok-push_list.ensures) c.in_ok-push_bytes-2.ensures
