-- Which commands are built: all of them today. Words that spell a command which is not built are refused as bad words, like
-- words that spell none. This product's own.
use Rattle.std.specs.Prelude.{◌≡◌, ℕ, Bool, true, List}
use Rattle.esm_cli.specs.Words.{spells}
use Rattle.esm_cli.specs.declared.command.Command.{Command}
use Rattle.esm_cli.specs.declared.command.Command.TheVariants.{Init, Run, Show, Failures, Gen, Compact, Serve, Migrate, Ddb, Redrive, Replay}

abbrev pub is_built : Command → Bool
is_built Init = true
is_built (Run r) = true
is_built Show = true
is_built Failures = true
is_built (Gen records) = true
is_built Compact = true
is_built (Serve requests) = true
is_built Migrate = true
is_built (Ddb config calls timeout traced) = true
is_built (Redrive config receives calls visibility timeout traced) = true
is_built (Replay config calls timeout traced) = true

-- the words spell the command, and it is built
abbrev pub SpellsBuilt : List (List ℕ) → Command → Type 0
SpellsBuilt words c = spells words c × (is_built c ≡ true)
