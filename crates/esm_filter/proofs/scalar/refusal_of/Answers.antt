use Rattle.std.proofs.Common.{sym, ap, ◌∙◌, length, ◌==◌, if◌then◌else◌}
use Rattle.serde_json.specs.View.{view}
use Rattle.serde_json.specs.declared.value.Value.{Value}
use Rattle.serde_json.proofs.Views.{view-Array, view-Object}
use Rattle.esm_model.specs.Pattern.{empty, bad_test, refusal_of}
use Rattle.esm_filter.specs.ReadOutcome.{refusal_view}
use Rattle.esm_filter.proofs.ReadLemmas.{list_refusal, object_refusal}
use Rattle.esm_filter.proofs.scalar.refusal_of.Goals as goal

pub returns-in-Array : goal.returns-in-Array
returns-in-Array c =
    list_refusal c.in-Array.items.items (refusal_view c.empty_or_bad.result) (c.empty_or_bad.ensures ∙ ap (λ vs. if length vs == 0 then empty else bad_test) c.as_slice.ensures.value)
    ∙ ap refusal_of (sym (view-Array c.in-Array.items)) ∙ ap (λ (v : Value). refusal_of (view v)) (sym c.in-Array.is)

pub returns-in-Object : goal.returns-in-Object
returns-in-Object c =
    object_refusal c.in-Object.members.entries (refusal_view c.empty_or_bad-in-Object.result) (c.empty_or_bad-in-Object.ensures ∙ ap (λ n. if n == 0 then empty else bad_test) c.len.ensures.len)
    ∙ ap refusal_of (sym (view-Object c.in-Object.members)) ∙ ap (λ (v : Value). refusal_of (view v)) (sym c.in-Object.is)
