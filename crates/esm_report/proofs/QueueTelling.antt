-- The line of a history's messages is that of its report.
use Rattle.std.proofs.Common.{◌≡◌, ℕ, List, ◌++◌, refl, sym, ap, ◌∙◌, append_assoc, get_or, Option, None}
use Rattle.std.proofs.Math.Path.{fun_ext}
use Rattle.std.specs.Prelude.{codes}
use Rattle.std.specs.Option.{option_or}
use Rattle.esm_model.specs.declared.entry.Fate.{Fate}
use Rattle.esm_model.specs.declared.entry.Fate.TheVariants.{Succeeded, Filtered}
use Rattle.esm_model.specs.declared.entry.Entry.{Entry}
use Rattle.esm_model.specs.Fates.{given}
use Rattle.esm_model.specs.Numbers.{decimal}
use Rattle.esm_journal_state.specs.SaidLists.{SaidLists}
use Rattle.esm_report.specs.Report.{line}
use Rattle.esm_queue_model.specs.QueueSetting.{QueueSetting}
use Rattle.esm_queue_model.specs.QueueEntries.{queue_count, deletion_fate, deleted_count, deleted_with}
use Rattle.esm_queue_model.specs.QueueStep.{LegalQueue}
use Rattle.esm_queue_model.specs.QueueReport.{queue_text}
use Rattle.esm_report.specs.Counts.{AreGiven, told_fate, number_part, counts_text}
use Rattle.esm_report.proofs.Deleted.{deleted_are_fated}

-- a setting with the deletions that the journal told finds them
fate_is : (said : SaidLists) (s : QueueSetting) (h : List Entry) (i : ℕ) → s.deletions ≡ said.deletions → deletion_fate s h i ≡ option_or (told_fate said i) (given h 0 i)
fate_is said s h i same = rw same refl

-- the fate of the message at the place by what the journal told and by a list, as `message_fate` has it
abbrev fate_by : SaidLists → List (Option Fate) → ℕ → Option Fate
fate_by said fates i = option_or (told_fate said i) (get_or fates i None)

fates_agree : (said : SaidLists) (fates : List (Option Fate)) (s : QueueSetting) (h : List Entry) → s.deletions ≡ said.deletions → AreGiven fates h → fate_by said fates ≡ deletion_fate s h
fates_agree said fates s h same are =
    fun_ext (λ i. ap (option_or (told_fate said i)) (are.at_each i) ∙ sym (fate_is said s h i same))

joined : (a b c d e f g : List ℕ) → a ++ (b ++ c) ++ (d ++ e) ++ (f ++ g) ≡ a ++ b ++ c ++ d ++ e ++ f ++ g
joined a b c d e f g = simp append_assoc refl

text_is : (s : QueueSetting) (h : List Entry) → LegalQueue s h → counts_text (queue_count h) (deletion_fate s h) ≡ queue_text s h
unfolding counts_text
text_is s h legal =
    ap
    (λ (n : ℕ). number_part (codes "queue messages ") (queue_count h) ++ number_part (codes " deleted ") n ++ number_part (codes " succeeded ") (deleted_with s h Succeeded) ++ number_part (codes " filtered ") (deleted_with s h Filtered))
    (sym (deleted_are_fated s h legal))
    ∙ joined (number_part (codes "queue messages ") (queue_count h)) (codes " deleted ") (decimal (deleted_count s h)) (codes " succeeded ") (decimal (deleted_with s h Succeeded)) (codes " filtered ") (decimal (deleted_with s h Filtered))

pub line_is : (said : SaidLists) (fates : List (Option Fate)) (s : QueueSetting) (h : List Entry) (n : ℕ) → s.deletions ≡ said.deletions → AreGiven fates h → LegalQueue s h → n ≡ queue_count h
    → line (counts_text n (fate_by said fates)) ≡ line (queue_text s h)
line_is said fates s h n same are legal count =
    ap (λ (k : ℕ). line (counts_text k (fate_by said fates))) count
    ∙ (ap (λ (g : ℕ → Option Fate). line (counts_text (queue_count h) g)) (fates_agree said fates s h same are)
    ∙ ap line (text_is s h legal))
