use Rattle.std.proofs.Common.{◌∙◌, map, sym}
use Rattle.std.specs.String.{string_bytes}
use Rattle.clap.proofs.WalkLemmas.{list_any-map}
use Rattle.esm_cli.specs.Clap.{values_found}
use Rattle.esm_cli.specs.Spelling.{is_stray_dash}
use Rattle.esm_cli.proofs.Refused.{stray_none, unsaid}
use Rattle.esm_cli.proofs.words.read.Goals as goal

pub returns-then-has_stray_dash-clause-bad : goal.returns-then-has_stray_dash-clause-bad
returns-then-has_stray_dash-clause-bad c =
    λ bad. stray_none (map string_bytes c.args.words.now) (sym (list_any-map is_stray_dash string_bytes c.args.words.now) ∙ sym c.if-has_stray_dash.ensures)

pub returns-clause-bad : goal.returns-clause-bad
returns-clause-bad c =
    let words = map string_bytes c.args.words.now in
    let named = c.in-Some.ensures.named in
    let o = c.in_ok-options.ensures.spelled in
    λ bad. unsaid words c.in-Some.verb named.0 o.0 (values_found c.in_ok-options.options.matches) c.in_ok-options.options.flags named.1 o.1 o.2 o.3 (c.command.ensures.bad bad)
