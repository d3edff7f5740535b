use Rattle.std.proofs.Common.{◌≡◌, take}
use Rattle.clap.specs.Words.{app_of}
use Rattle.esm_cli.specs.Tables.{listing}
use Rattle.esm_cli.specs.Clap.{app}
use Rattle.esm_cli.proofs.options.parser.Given as goal

abbrev pub invariant-loop-option : goal.invariant-loop-option
invariant-loop-option l = app_of l.command ≡ app (listing (take l.option-index l.options))
