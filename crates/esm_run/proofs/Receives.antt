-- How often a message may be received, as the words of a redrive say it.
use Rattle.std.proofs.Common.{◌≤◌, ℕ, Bool, List, Option, Some, None}
use Rattle.esm_cli.specs.Words.{IsNumberFrom, spells}
use Rattle.esm_cli.specs.declared.command.Command.TheVariants.{Redrive}
use Rattle.esm_cli.specs.declared.table.TheConstants.{MAX_RECEIVES}
use Rattle.esm_redrive.specs.declared.limited.TheConstants.{MAX_RECEIVES as GREATEST}

number_within : (o : Option (List ℕ)) (n : ℕ) → IsNumberFrom MAX_RECEIVES o n → (1 ≤ n) × (n ≤ GREATEST)
number_within (Some text) n is = (is.1, is.2)
number_within None n is = absurd (cc)

pub receives_within : (words : List (List ℕ)) (config : List ℕ) (receives calls visibility timeout : ℕ) (traced : Bool) → spells words (Redrive config receives calls visibility timeout traced) → (1 ≤ receives) × (receives ≤ GREATEST)
receives_within words config receives calls visibility timeout traced spelled = number_within _ receives spelled.2.1
