use Rattle.esm_ddb.proofs.OwnItems.{image_last, no_image}
use Rattle.esm_ddb.proofs.own_item.after_image.Goals as goal

pub returns-in-Some : goal.returns-in-Some
returns-in-Some c = image_last c.args.name.now c.args.text.now c.in-Some.image.now c.after_item.result c.in-Some.ensures c.after_item.ensures

pub returns-in-None : goal.returns-in-None
returns-in-None c = no_image c.args.name.now c.args.text.now
