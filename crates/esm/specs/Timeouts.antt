-- The time that one call of a function has, by the words of the command. This product's own.
use Rattle.std.specs.Prelude.{◌≡◌, ℕ, List}
use Rattle.esm_cli.specs.Words.{spells}
use Rattle.esm_cli.specs.declared.command.Command.{Command}
use Rattle.esm_cli.specs.declared.command.Command.TheVariants.{Run, Ddb, Redrive, Replay}
use Rattle.esm_cli.specs.declared.table.TheConstants.{TIMEOUT}

-- in seconds: that of the command's options, and the longest if it takes none
abbrev pub timeout_of : Command → ℕ
timeout_of (Run r) = r.timeout
timeout_of (Ddb config calls timeout trace) = timeout
timeout_of (Redrive config max_receives calls visibility timeout trace) = timeout
timeout_of (Replay config calls timeout trace) = timeout
timeout_of _ = TIMEOUT.greatest

-- `seconds` is the time under the command that the words spell; any number is, if they spell none
abbrev pub IsTimeout : List (List ℕ) → ℕ → Type 0
IsTimeout words seconds = (c : Command) → spells words c → seconds ≡ timeout_of c
