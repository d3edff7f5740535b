use Rattle.std.proofs.Common.{nat_eq, ap, ◌∙◌}
use Rattle.std.specs.List.{starts_with, ends_with}
use Rattle.std.proofs.lemmas.Str.Pattern.{starts_text, ends_text}
use Rattle.serde_json.specs.Data as json
use Rattle.esm_filter.proofs.ViewLemmas.{but_passes}
use Rattle.esm_filter.proofs.leaf.text_passes.Goals as goal

pub returns-in-AnythingBut : goal.returns-in-AnythingBut
returns-in-AnythingBut c =
    rw c.in-AnythingBut.is
    (but_passes (json.string c.args.text.now) c.in-AnythingBut.scalars.items c.deref.result.now c.text_equals_any.result c.deref.ensures.value c.text_equals_any.ensures)

pub returns-in-Prefix : goal.returns-in-Prefix
returns-in-Prefix c =
    rw c.in-Prefix.is
    (starts_text c.starts_with.result c.as_str-in-Prefix.result.now c.args.text.now c.starts_with.ensures.cases ∙ ap (starts_with nat_eq c.args.text.now) c.as_str-in-Prefix.ensures.value)

pub returns-in-Suffix : goal.returns-in-Suffix
returns-in-Suffix c =
    rw c.in-Suffix.is
    (ends_text c.ends_with.result c.as_str-in-Suffix.result.now c.args.text.now c.ends_with.ensures.cases ∙ ap (ends_with nat_eq c.args.text.now) c.as_str-in-Suffix.ensures.value)
