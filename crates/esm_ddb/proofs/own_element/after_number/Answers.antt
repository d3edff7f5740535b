use Rattle.esm_ddb.proofs.OwnParts.{number_last}
use Rattle.esm_ddb.proofs.own_element.after_number.Goals as goal

pub returns : goal.returns
returns c =
    number_last c.args.text.now c.in_ok-key.key.now c.in_ok-behind_key.behind_key.now c.in_ok-seq.seq.now c.in_ok-behind_seq.behind_seq.now c.after_part-3.result
    c.in_ok-key.ensures c.in_ok-behind_key.ensures c.in_ok-seq.ensures c.in_ok-behind_seq.ensures c.after_part-3.ensures
