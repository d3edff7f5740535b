-- Words spell one command at most.
use Rattle.std.proofs.Common.{◌≡◌, ℕ, List, subst}
use Rattle.esm_cli.specs.Words.{spells}
use Rattle.esm_cli.specs.declared.command.Command.{Command}
use Rattle.esm_run.specs.Built.{SpellsBuilt}

-- the law of the words
abbrev pub OneCommand : Type 0
OneCommand = (words : List (List ℕ)) (c d : Command) → spells words c → spells words d → c ≡ d

-- what holds of the command that they spell holds of each that they spell
pub by_command : (P : Command → Type 0) (words : List (List ℕ)) (c : Command) → OneCommand → SpellsBuilt words c → P c → (d : Command) → SpellsBuilt words d → P d
by_command P words c one spelled p d also = subst P (one words c d spelled.0 also.0) p

-- two outcomes of a command have one status
abbrev pub OneStatus : (ℕ → Type 0) → Type 0
OneStatus outcome = (a b : ℕ) → outcome a → outcome b → a ≡ b
