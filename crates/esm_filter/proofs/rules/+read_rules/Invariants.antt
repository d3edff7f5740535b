use Rattle.std.proofs.Common.{◌≡◌, drop}
use Rattle.serde_json.specs.View.{items_view, members_view}
use Rattle.esm_model.specs.Pattern.{read_fields, read_choices}
use Rattle.esm_filter.proofs.ReadLemmas.{then_fields, then_choices}
use Rattle.esm_filter.proofs.rules.+read_rules.Given as goal

abbrev pub invariant-read_fields-loop-name : goal.invariant-read_fields-loop-name
invariant-read_fields-loop-name l = read_fields l.outer (members_view l.members.entries) ≡ then_fields l.fields.items (read_fields l.outer (members_view l.name-iterator))

abbrev pub invariant-read_choices-loop-item : goal.invariant-read_choices-loop-item
invariant-read_choices-loop-item l = read_choices l.outer (items_view l.item-items) ≡ then_choices l.choices.items (read_choices l.outer (items_view (drop l.item-index l.item-items)))
