use Rattle.esm_event.proofs.Appending.{then}
use Rattle.esm_event.specs.Elements.{identity_text}
use Rattle.esm_event.proofs.record.push_identity.Goals as goal

pub returns : goal.returns
unfolding identity_text
returns c =
    let old = c.args.out.now.items in
    let to_2 = then old c.push_bytes.new.out.items c.push_padded.new.out.items _ _ c.in_ok-push_bytes.ensures c.in_ok-push_padded.ensures in
    then old c.push_padded.new.out.items c.push_bytes-2.new.out.items _ _ to_2 c.in_ok-push_bytes-2.ensures
