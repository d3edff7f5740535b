use Rattle.std.proofs.Common.{List, ℕ, ap, ◌∙◌}
use Rattle.std.specs.BTreeSet.{contains_text}
use Rattle.esm_redrive_model.specs.RedriveSetting.{stands_among}
use Rattle.esm_redrive.proofs.PayloadIds.{stands_in}
use Rattle.esm_redrive.proofs.dead_file.DeadIds.contains.Goals as goal

pub returns : goal.returns
returns c =
    let ids = c.self.inside.ids in
    c.contains.ensures
    ∙ (ap (λ (bs : List ℕ). contains_text ids bs) c.as_str.ensures
    ∙ (stands_in ids c.args.id.now ∙ ap (λ (found : List (List ℕ)). stands_among found c.args.id.now) c.self.view_is))
