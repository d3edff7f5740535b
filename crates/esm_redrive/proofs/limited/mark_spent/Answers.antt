use Rattle.std.proofs.Common.{◌<◌, length, get_or, refl, ◌∙◌, arith}
use Rattle.std.proofs.lemmas.List.Elements.{All-get_or}
use Rattle.esm_redrive.specs.Limited.{is_spent}
use Rattle.esm_redrive.proofs.Limits.{marked_more, sized_more}
use Rattle.esm_redrive.proofs.limited.mark_spent.Goals as goal

pub loop-place-init : goal.loop-place-init
loop-place-init c = record { sized = refl; marked = λ i low. refl; spare = refl }

pub mark_one-requires : goal.mark_one-requires
mark_one-requires c =
    let init = c.args.spent.now.moments in
    let low : get_or c.args.places.now c.loop-place.place-index 0 < length init = All-get_or (λ i. i < length init) c.args.places.now c.loop-place.place-index 0 c.loop-place-test.true c.requires in
    let sized = c.loop-place.invariant.sized in
    omega (arith, low, sized)

pub loop-place-preserved : goal.loop-place-preserved
loop-place-preserved c =
    let n = c.loop-place.place-index in
    let places = c.args.places.now in
    let p = get_or places n 0 in
    let init = c.args.spent.now.moments in
    let q = c.args.queue.now.state in
    let inv = c.loop-place.invariant in
    let low : p < length init = All-get_or (λ i. i < length init) places n 0 c.loop-place-test.true c.requires in
    record {
      sized = sized_more (is_spent c.args.max_receives q p) p c.args.show c.loop-place.spent.moments c.mark_one.new.spent.moments c.mark_one.ensures.set ∙ inv.sized;
      marked = marked_more c.args.max_receives c.args.show n q places init c.loop-place.spent.moments c.mark_one.new.spent.moments c.loop-place-test.true low inv.sized inv.marked c.mark_one.ensures.set;
      spare = c.mark_one.ensures.spare ∙ inv.spare;
    }
