-- The line of a history's messages is that of its report.
use Rattle.std.proofs.Common.{◌≡◌, ℕ, List, ◌++◌, length, refl, sym, ap, ◌∙◌, append_assoc, get_or, Option, None}
use Rattle.std.proofs.Math.Path.{fun_ext}
use Rattle.std.specs.Prelude.{codes, filter, is_some}
use Rattle.std.specs.Option.{option_or}
use Rattle.esm_model.specs.declared.entry.Fate.{Fate}
use Rattle.esm_model.specs.declared.entry.Fate.TheVariants.{Succeeded, Filtered, Exhausted}
use Rattle.esm_model.specs.declared.entry.Entry.{Entry}
use Rattle.esm_model.specs.Fates.{below, given}
use Rattle.esm_model.specs.Numbers.{decimal}
use Rattle.esm_model.proofs.Lists.{In-below}
use Rattle.esm_model.proofs.Records.{filter_same}
use Rattle.esm_journal_state.specs.SaidLists.{SaidLists}
use Rattle.esm_queue_model.specs.QueueSetting.{QueueSetting}
use Rattle.esm_queue_model.specs.QueueEntries.{queue_count, is_deleted, deletion_fate, deleted_count, deleted_with}
use Rattle.esm_report.specs.Counts.{AreGiven, told_fate, number_part}
use Rattle.esm_redrive_model.specs.RedriveSetting.{RedriveSetting}
use Rattle.esm_redrive_model.specs.RedriveStep.{LegalRedrive}
use Rattle.esm_redrive_model.specs.RedriveReport.{redrive_text}
use Rattle.esm_redrive_model.proofs.Ends.{deleted_is}
use Rattle.esm_redrive_model.proofs.Named.{built_of}
use Rattle.esm_redrive_run.specs.Report.{redrive_counts}

-- a setting with the deletions that the journal told finds them
fate_is : (said : SaidLists) (s : QueueSetting) (h : List Entry) (i : ℕ) → s.deletions ≡ said.deletions → deletion_fate s h i ≡ option_or (told_fate said i) (given h 0 i)
fate_is said s h i same = rw same refl

-- the fate of the message at the place by what the journal told and by a list
abbrev fate_by : SaidLists → List (Option Fate) → ℕ → Option Fate
fate_by said fates i = option_or (told_fate said i) (get_or fates i None)

fates_agree : (said : SaidLists) (fates : List (Option Fate)) (s : QueueSetting) (h : List Entry) → s.deletions ≡ said.deletions → AreGiven fates h → fate_by said fates ≡ deletion_fate s h
fates_agree said fates s h same are =
    fun_ext (λ i. ap (option_or (told_fate said i)) (are.at_each i) ∙ sym (fate_is said s h i same))

deleted_are_fated : (s : RedriveSetting) (h : List Entry) → LegalRedrive s h → deleted_count s.queue h ≡ length (filter (λ i. is_some (deletion_fate s.queue h i)) (below (queue_count h)))
deleted_are_fated s h legal =
    ap length (filter_same (is_deleted s.queue h) (λ i. is_some (deletion_fate s.queue h i)) (below (queue_count h)) (λ i member. deleted_is s.queue h (built_of s h legal) i (In-below (queue_count h) i member)))

joined : (a b c d e f g i j : List ℕ) → a ++ (b ++ c) ++ (d ++ e) ++ (f ++ g) ++ (i ++ j) ≡ (a ++ b ++ c ++ d ++ e ++ f ++ g) ++ i ++ j
joined a b c d e f g i j = simp append_assoc refl

text_is : (s : RedriveSetting) (h : List Entry) → LegalRedrive s h → redrive_counts (queue_count h) (deletion_fate s.queue h) ≡ redrive_text s h
unfolding redrive_counts
text_is s h legal =
    ap
    (λ (n : ℕ). number_part (codes "queue messages ") (queue_count h) ++ number_part (codes " deleted ") n ++ number_part (codes " succeeded ") (deleted_with s.queue h Succeeded) ++ number_part (codes " filtered ") (deleted_with s.queue h Filtered)
    ++ number_part (codes " moved ") (deleted_with s.queue h Exhausted))
    (sym (deleted_are_fated s h legal))
    ∙ joined (number_part (codes "queue messages ") (queue_count h)) (codes " deleted ") (decimal (deleted_count s.queue h)) (codes " succeeded ") (decimal (deleted_with s.queue h Succeeded)) (codes " filtered ") (decimal (deleted_with s.queue h Filtered)) (codes " moved ") (decimal (deleted_with s.queue h Exhausted))

pub counts_are : (said : SaidLists) (fates : List (Option Fate)) (s : RedriveSetting) (h : List Entry) (n : ℕ) → s.queue.deletions ≡ said.deletions → AreGiven fates h → LegalRedrive s h → n ≡ queue_count h
    → redrive_counts n (fate_by said fates) ≡ redrive_text s h
counts_are said fates s h n same are legal count =
    ap (λ (k : ℕ). redrive_counts k (fate_by said fates)) count
    ∙ (ap (λ (g : ℕ → Option Fate). redrive_counts (queue_count h) g) (fates_agree said fates s.queue h same are)
    ∙ text_is s h legal)
