use Rattle.esm_ddb.proofs.OwnPieces.{images_passed}
use Rattle.esm_ddb.proofs.own_line.split_images.Goals as goal

pub returns : goal.returns
returns c =
    images_passed c.args.text.now c.in_ok-keys.keys.now c.in_ok-behind_keys.behind_keys.now c.in_ok-behind_new.behind_new.now c.in_ok-rest.rest.now c.front_of.result.now
    c.in_ok-keys.ensures c.in_ok-behind_keys.ensures c.in_ok-behind_new.ensures c.in_ok-rest.ensures c.front_of.ensures
