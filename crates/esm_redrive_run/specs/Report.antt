-- The line of a redrive's messages, from the fates that its code has. Only this crate's proofs cite this.
use Rattle.std.specs.Prelude.{ℕ, List, ◌++◌, codes, get_or, Option, None}
use Rattle.std.specs.Option.{option_or}
use Rattle.esm_model.specs.declared.entry.Fate.{Fate}
use Rattle.esm_model.specs.declared.entry.Fate.TheVariants.{Succeeded, Filtered, Exhausted}
use Rattle.esm_report.specs.Counts.{told_fate, number_part, fated_count, fate_count}
use Rattle.esm_redrive_run.specs.declared.report.Deletions.{Deletions}

-- the found fate of the message at the place, or else the given one
abbrev pub message_fate : Deletions → ℕ → Option Fate
message_fate d i = option_or (told_fate d.found.now i) (get_or d.given.now i None)

-- the text of `count` messages, by their fates
unfoldable pub redrive_counts : ℕ → (ℕ → Option Fate) → List ℕ
redrive_counts count fates =
    number_part (codes "queue messages ") count
    ++ number_part (codes " deleted ") (fated_count count fates)
    ++ number_part (codes " succeeded ") (fate_count count fates Succeeded)
    ++ number_part (codes " filtered ") (fate_count count fates Filtered)
    ++ number_part (codes " moved ") (fate_count count fates Exhausted)
