use Rattle.std.proofs.Common.{◌≡◌, ◌∙◌, sym, ap, ◌+◌, List, [], ◌∷◌, ◌++◌, drop, codes}
use Rattle.serde_json.specs.Data.{string}
use Rattle.serde_json.specs.View.{view}
use Rattle.serde_json.specs.declared.value.Value.{Value}
use Rattle.esm_config.specs.Text.{one_member, pattern_items}
use Rattle.esm_config.proofs.Lists.{all_items, more_items, then_items}
use Rattle.esm_config.proofs.values.pattern_items.Goals as goal

pub loop-text-preserved : goal.loop-text-preserved
loop-text-preserved c =
    let pushed : c.push.new.self.items ≡ c.loop-text.items.items ++ c.in_ok-pattern.field-0 ∷ [] = c.in_ok-push.ensures.items in
    let made : view c.in_ok-pattern.field-0 ≡ one_member (codes "Pattern") (string c.text-item.result) =
    c.in_ok-pattern.ensures ∙ ap (λ t. one_member (codes "Pattern") (string t)) c.as_str.ensures in
    c.loop-text.invariant
    ∙ (more_items c.args.texts.now c.loop-text.text-index c.text-item.result c.loop-text.items.items c.in_ok-pattern.field-0 c.loop-text-test.true c.text-item.is made
    ∙ ap (λ (vs : List Value). then_items vs (pattern_items (drop (c.loop-text.text-index + 1) c.args.texts.now))) (sym pushed))

pub returns : goal.returns
returns c = sym (c.loop-text.invariant ∙ all_items c.args.texts.now c.loop-text.text-index c.loop-text.items.items c.loop-text-test.false)
