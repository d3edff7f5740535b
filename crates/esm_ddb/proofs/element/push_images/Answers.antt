use Rattle.esm_event.proofs.Appending.{then}
use Rattle.esm_ddb.proofs.element.push_images.Goals as goal

pub returns : goal.returns
returns c =
    let old = c.args.out.now.items in
    let to_2 = then old c.push_bytes.new.out.items c.push_bytes-2.new.out.items _ _ c.in_ok-push_bytes.ensures (rw c.requires at c.in_ok-push_bytes-2.ensures) in
    let to_3 = then old c.push_bytes-2.new.out.items c.push_image.new.out.items _ _ to_2 c.in_ok-push_image.ensures in
    then old c.push_image.new.out.items c.push_image-2.new.out.items _ _ to_3 c.in_ok-push_image-2.ensures
