use Rattle.std.proofs.Common.{◌∙◌, sym, ap, map}
use Rattle.std.specs.String.{string_bytes}
use Rattle.clap.specs.Words.{app_of}
use Rattle.clap.proofs.WalkLemmas.{list_any-map}
use Rattle.esm_cli.specs.Clap.{app}
use Rattle.esm_cli.specs.Spelling.{is_stray_dash}
use Rattle.esm_cli.specs.Tables.{listing, options_of}
use Rattle.esm_cli.proofs.OneCommand.{named_well}
use Rattle.esm_cli.proofs.Getters.{same_flags, same_values}
use Rattle.esm_cli.proofs.Spelled.{given_by, refused_by}
use Rattle.esm_cli.proofs.options.read_options.Goals as goal

pub returns-in-Ok-clause-spelled : goal.returns-in-Ok-clause-spelled
returns-in-Ok-clause-spelled c =
    let words = map string_bytes c.args.words.now in
    let clean = list_any-map is_stray_dash string_bytes c.args.words.now in
    let m = c.in-Ok.matches in
    let made = c.in_ok-command.ensures.made ∙ ap (λ os. app (listing os)) c.options.ensures in
    let g = given_by (listing (options_of c.args.verb)) words (app_of c.in_ok-command.command) m (sym clean ∙ c.requires) made c.in-Ok.ensures.matches c.in-Ok.ensures.kinds in (
      g.0,
      g.1,
      same_values c.args.verb g.0 m _ g.1 g.2,
      same_flags c.args.verb g.0 m _ c.flags-flags.result g.1 g.2 c.flags-flags.ensures.read_first c.flags-flags.ensures.trace,
    )

pub returns-in-Err-clause-bad : goal.returns-in-Err-clause-bad
returns-in-Err-clause-bad c =
    let words = map string_bytes c.args.words.now in
    let made = c.in_ok-command.ensures.made ∙ ap (λ os. app (listing os)) c.options.ensures in
    λ bad. refused_by (listing (options_of c.args.verb)) words (app_of c.in_ok-command.command) c.in-Err.error (named_well c.args.verb) made c.in-Err.ensures.kinds (c.refusal.ensures (cc))
