use Rattle.std.proofs.Common.{◌≡◌, ◌∙◌, ap, sym, subst, false, option_map}
use Rattle.serde_json.specs.Data.{Members, member}
use Rattle.serde_json.specs.View.{view}
use Rattle.serde_json.specs.Written.{members_have_float}
use Rattle.esm_config.specs.Member.{and_members, members_of}
use Rattle.esm_config.specs.Names.{name_of}
use Rattle.esm_config.specs.Text.{criteria, response_types, seconds, settings_of, whole}
use Rattle.esm_config.specs.declared.param.Param.TheVariants as param
use Rattle.esm_config.proofs.Members.{and_float, and_with_some, at_some, at_value, five_more}
use Rattle.esm_config.proofs.NoFloat.{settings_float}
use Rattle.esm_config.proofs.to_json.settings.Goals as goal

pub returns-clause-members : goal.returns-clause-members
returns-clause-members c =
    let k = c.args.config.now in
    let b = members_of c.args.before.items in
    let m1 = members_of c.in_ok-m1.m1.items in
    let m2 = members_of c.in_ok-m2.m2.items in
    let m3 = members_of c.in_ok-m3.m3.items in
    let m4 = members_of c.in_ok-m4.m4.items in
    let m5 = members_of c.in_ok-kind_settings.field-0.items in
    let e1 = at_value b m1 param.BatchSize (view c.from.result) (whole k.batch_size) c.in_ok-m1.ensures c.from.ensures in
    let e2 = at_value m1 m2 param.MaximumBatchingWindowInSeconds (view c.seconds-window.result) (seconds k.window_ms) c.in_ok-m2.ensures c.seconds-window.ensures in
    let filters = c.in_ok-filters.ensures ∙ ap criteria c.as_slice.ensures in
    let e3 = at_some m2 m3 param.FilterCriteria (option_map view c.in_ok-filters.filters) (criteria k.filters) c.in_ok-m3.ensures filters in
    let e4 = at_value m3 m4 param.FunctionResponseTypes (view c.in_ok-types.types) (response_types k.item_failures) c.in_ok-m4.ensures c.in_ok-types.ensures in
    five_more b m1 m2 m3 m4 m5 _ _ _ _ _ e1 e2 e3 e4 c.in_ok-kind_settings.ensures
    ∙ ap (λ m. and_members b (member (name_of param.BatchSize) (whole k.batch_size) (member (name_of param.MaximumBatchingWindowInSeconds) (seconds k.window_ms) m)))
    (and_with_some param.FilterCriteria (criteria k.filters) _)

pub returns-clause-no_float : goal.returns-clause-no_float
returns-clause-no_float c =
    λ h. subst (λ (m : Members). members_have_float m ≡ false) (sym (returns-clause-members c))
    (and_float (members_of c.args.before.items) (settings_of c.args.config.now) h (settings_float c.args.config.now))
