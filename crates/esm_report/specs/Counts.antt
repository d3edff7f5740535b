-- How many messages of a queue have each fate after a history, and the line that says so.
use Rattle.std.specs.Prelude.{ℕ, ◌≡◌, List, ◌++◌, codes, length, get_or, filter, is_some, Option, None, option_map}
use Rattle.std.specs.Option.{option_or}
use Rattle.esm_model.specs.declared.entry.Fate.{Fate}
use Rattle.esm_model.specs.declared.entry.Fate.TheVariants.{Succeeded, Filtered}
use Rattle.esm_model.specs.declared.entry.Entry.{Entry}
use Rattle.esm_model.specs.declared.setup.FoundDeletion.{FoundDeletion}
use Rattle.esm_model.specs.Fates.{below, given, is_fate}
use Rattle.esm_model.specs.Numbers.{decimal}
use Rattle.esm_journal_state.specs.SaidLists.{SaidLists, deletion_told}
use Rattle.esm_report.specs.declared.deletions.Deletions.{Deletions}

-- a list of fates by place has exactly those that the history gave
pub record AreGiven (fates : List (Option Fate)) (h : List Entry) : Type 0 where
  pub at_each : (i : ℕ) → get_or fates i None ≡ given h 0 i

-- the fate with which the journal says that the message at the place is deleted, if it says so
abbrev pub told_fate : SaidLists → ℕ → Option Fate
told_fate said i = option_map (λ (f : FoundDeletion). f.fate) (deletion_told said i)

-- the fate of the message at the place by the journal, or else by the history
abbrev pub message_fate : Deletions → ℕ → Option Fate
message_fate d i = option_or (told_fate d.found.now i) (get_or d.given.now i None)

-- words and a number
abbrev pub number_part : List ℕ → ℕ → List ℕ
number_part words n = words ++ decimal n

-- how many of the first `count` messages have a fate, and how many have this one
abbrev pub fated_count : ℕ → (ℕ → Option Fate) → ℕ
fated_count count fates = length (filter (λ i. is_some (fates i)) (below count))

abbrev pub fate_count : ℕ → (ℕ → Option Fate) → Fate → ℕ
fate_count count fates f = length (filter (λ i. is_fate f (fates i)) (below count))

-- the text of `count` messages, by their fates
unfoldable pub counts_text : ℕ → (ℕ → Option Fate) → List ℕ
counts_text count fates =
    number_part (codes "queue messages ") count
    ++ number_part (codes " deleted ") (fated_count count fates)
    ++ number_part (codes " succeeded ") (fate_count count fates Succeeded)
    ++ number_part (codes " filtered ") (fate_count count fates Filtered)
