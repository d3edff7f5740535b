use Rattle.std.proofs.Common.{◌++◌, ap, ◌∙◌}
use Rattle.esm_event.proofs.Elements.{next_element}
use Rattle.esm_event.proofs.writing.push_following.Goals as goal

pub returns : goal.returns
returns c =
    let written = rw c.requires at c.in_ok-push_element.ensures in
    written ∙ ap (λ text. c.args.out.now.items ++ text) (next_element c.args.source.now c.args.item.now)
