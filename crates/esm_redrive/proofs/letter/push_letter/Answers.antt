use Rattle.esm_event.proofs.Appending.{then}
use Rattle.esm_redrive_model.specs.DeadLetter.{dead_letter}
use Rattle.esm_redrive.proofs.letter.push_letter.Goals as goal

pub returns-clause-text : goal.returns-clause-text
unfolding dead_letter
returns-clause-text c =
    let old = c.args.out.now.items in
    let to_2 = then old c.push_bytes.new.out.items c.push_text.new.out.items _ _ c.in_ok-push_bytes.ensures c.in_ok-push_text.ensures.text in
    let to_3 = then old c.push_text.new.out.items c.push_bytes-2.new.out.items _ _ to_2 c.in_ok-push_bytes-2.ensures in
    let to_4 = then old c.push_bytes-2.new.out.items c.push_text-2.new.out.items _ _ to_3 c.in_ok-push_text-2.ensures.text in
    let to_5 = then old c.push_text-2.new.out.items c.push_bytes-3.new.out.items _ _ to_4 c.in_ok-push_bytes-3.ensures in
    let to_6 = then old c.push_bytes-3.new.out.items c.push_decimal.new.out.items _ _ to_5 c.in_ok-push_decimal.ensures in
    let to_7 = then old c.push_decimal.new.out.items c.push_group.new.out.items _ _ to_6 c.in_ok-push_group.ensures.text in
    then old c.push_group.new.out.items c.push_bytes-4.new.out.items _ _ to_7 c.in_ok-push_bytes-4.ensures
