use Rattle.std.proofs.Common.{◌≡◌, ◌∙◌, false, true, arith, sym}
use Rattle.std.proofs.lemmas.Grind.{common_steps}
use Rattle.serde_json.specs.View.{view}
use Rattle.esm_mapping.specs.Expected.{is_expected}
use Rattle.esm_mapping.proofs.Texts.{disabled_text, refused_kind, refused_latest}
use Rattle.esm_mapping.proofs.given_text.configured.Goals as goal

pub returns-then-not-is_expected-clause-why : goal.returns-then-not-is_expected-clause-why
returns-then-not-is_expected-clause-why c =
    let other : is_expected c.args.expected c.args.config.kind ≡ false = grind (arith, common_steps) in
    refused_kind c.args.expected c.args.text.now (view c.args.value.now) c.args.config c.requires.read c.requires.fields other

pub returns-then-is_latest-clause-why : goal.returns-then-is_latest-clause-why
returns-then-is_latest-clause-why c =
    let kind : is_expected c.args.expected c.args.config.kind ≡ true = grind (arith, common_steps) in
    refused_latest c.args.expected c.args.text.now (view c.args.value.now) c.args.config c.requires.read c.requires.fields kind (sym c.is_latest.ensures ∙ c.if-is_latest.true)

pub returns-then-not-config-clause-why : goal.returns-then-not-config-clause-why
returns-then-not-config-clause-why c =
    let kind : is_expected c.args.expected c.args.config.kind ≡ true = grind (arith, common_steps) in
    let disabled : c.args.config.enabled ≡ false = grind (arith, common_steps) in
    disabled_text c.args.expected c.args.text.now (view c.args.value.now) c.args.config c.requires.read c.requires.fields kind (sym c.is_latest.ensures ∙ c.if-is_latest.false) disabled
