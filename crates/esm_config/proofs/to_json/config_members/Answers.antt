use Rattle.std.proofs.Common.{◌≡◌, ◌∙◌, ap, sym, subst, false}
use Rattle.serde_json.specs.Data.{Members, boolean, no_members, string}
use Rattle.serde_json.specs.View.{view}
use Rattle.serde_json.specs.Written.{members_have_float}
use Rattle.esm_config.specs.Member.{and_members, members_of}
use Rattle.esm_config.specs.Text.{config_members, settings_of}
use Rattle.esm_config.specs.declared.param.Param.TheVariants as param
use Rattle.esm_config.proofs.Members.{at_value, three_more, two_more}
use Rattle.esm_config.proofs.NoFloat.{config_float}
use Rattle.esm_config.proofs.to_json.config_members.Goals as goal

pub returns-clause-members : goal.returns-clause-members
returns-clause-members c =
    let k = c.args.config.now in
    let b = members_of c.new.result.items in
    let m1 = members_of c.in_ok-m1.m1.items in
    let m2 = members_of c.in_ok-m2.m2.items in
    let m3 = members_of c.in_ok-m3.m3.items in
    let all = members_of c.in_ok-settings.field-0.items in
    let source = c.in_ok-source.ensures ∙ ap string c.as_str.ensures in
    let e1 = at_value b m1 param.EventSourceArn (view c.in_ok-source.source) (string k.source_arn) c.in_ok-m1.ensures source in
    let function = c.in_ok-function.ensures ∙ ap string c.as_str-2.ensures in
    let e2 = at_value m1 m2 param.FunctionName (view c.in_ok-function.function) (string k.function_arn) c.in_ok-m2.ensures function in
    let e3 = at_value m2 m3 param.Enabled (view c.from.result) (boolean k.enabled) c.in_ok-m3.ensures c.from.ensures in
    let none : b ≡ no_members = ap members_of c.new.ensures.items in
    two_more b m3 all _ (settings_of k) (three_more b m1 m2 m3 _ _ _ e1 e2 e3) c.in_ok-settings.ensures.members
    ∙ ap (λ m. and_members m (config_members k)) none

pub returns-clause-no_float : goal.returns-clause-no_float
returns-clause-no_float c =
    subst (λ (m : Members). members_have_float m ≡ false) (sym (returns-clause-members c)) (config_float c.args.config.now)
