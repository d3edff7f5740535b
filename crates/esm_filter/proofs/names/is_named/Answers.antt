use Rattle.std.proofs.Common.{sym, ◌∙◌}
use Rattle.esm_filter.specs.Named.{named_in}
use Rattle.esm_filter.specs.View.{fields_view}
use Rattle.esm_filter.proofs.ViewLemmas.{any_view}
use Rattle.esm_filter.proofs.names.is_named.Goals as goal

pub returns : goal.returns
returns c = c.one_names.ensures ∙ sym (any_view (named_in c.args.name.now) (λ p. fields_view p.items) c.args.patterns.now)
