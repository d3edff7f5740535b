use Rattle.esm_event.proofs.Appending.{then}
use Rattle.esm_ddb.specs.Turned.{record_line}
use Rattle.esm_ddb.proofs.turned.push_record.Goals as goal

pub returns : goal.returns
unfolding record_line
returns c =
    let old = c.args.out.now.items in
    then old c.push_place.new.out.items c.push_content.new.out.items _ _ (rw c.as_bytes.ensures.value at c.in_ok-push_place.ensures) (rw (c.requires.keys, c.requires.payload) at c.in_ok-push_content.ensures)
