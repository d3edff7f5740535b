use Rattle.std.proofs.Common.{drop, ap, ◌∙◌}
use Rattle.std.proofs.lemmas.List.{drop_min}
use Rattle.uuid.specs.Text.{parsed_hyphenated}
use Rattle.esm_api.proofs.plan.id_in.Goals as goal

pub returns : goal.returns
returns c =
    c.hyphenated.ensures
    ∙ ap parsed_hyphenated (c.split_at.ensures.back ∙ ap (λ n. drop n c.args.path.now) c.min.ensures ∙ drop_min 34 c.args.path.now)
