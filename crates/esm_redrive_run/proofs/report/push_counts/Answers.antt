use Rattle.std.proofs.Common.{◌≡◌, ℕ, List, ◌++◌, codes, refl, ap, ◌∙◌, append_assoc}
use Rattle.esm_model.specs.declared.entry.Fate.TheVariants.{Succeeded, Filtered, Exhausted}
use Rattle.esm_report.specs.Counts.{number_part, fated_count, fate_count}
use Rattle.esm_redrive_run.specs.Report.{message_fate, redrive_counts}
use Rattle.esm_redrive_run.proofs.report.push_counts.Goals as goal

-- five pieces written one after another
five_parts : (a p q r t u : List ℕ) → a ++ p ++ q ++ r ++ t ++ u ≡ a ++ (p ++ q ++ r ++ t ++ u)
five_parts a p q r t u = simp append_assoc refl

written : (a b c d e f p q r t u : List ℕ) → b ≡ a ++ p → c ≡ b ++ q → d ≡ c ++ r → e ≡ d ++ t → f ≡ e ++ u → f ≡ a ++ (p ++ q ++ r ++ t ++ u)
written a b c d e f p q r t u first second third fourth fifth =
    fifth
    ∙ (ap (λ (xs : List ℕ). xs ++ u) (fourth ∙ ap (λ (xs : List ℕ). xs ++ t) (third ∙ ap (λ (xs : List ℕ). xs ++ r) (second ∙ ap (λ (xs : List ℕ). xs ++ q) first)))
    ∙ five_parts a p q r t u)

numbered : (a b words : List ℕ) (n k : ℕ) → n ≡ k → b ≡ a ++ number_part words n → b ≡ a ++ number_part words k
numbered a b words n k same is = is ∙ ap (λ (m : ℕ). a ++ number_part words m) same

pub returns : goal.returns
unfolding redrive_counts
returns c =
    let fates = message_fate c.args.deletions.now in
    let messages = c.args.messages in
    let begin = c.args.out.now.items in
    let one = c.push_number.new.out.items in
    let two = c.push_number-2.new.out.items in
    let three = c.push_number-3.new.out.items in
    let four = c.push_number-4.new.out.items in
    let five = c.push_number-5.new.out.items in
    written begin one two three four five
    (number_part (codes "queue messages ") messages)
    (number_part (codes " deleted ") (fated_count messages fates))
    (number_part (codes " succeeded ") (fate_count messages fates Succeeded))
    (number_part (codes " filtered ") (fate_count messages fates Filtered))
    (number_part (codes " moved ") (fate_count messages fates Exhausted))
    c.in_ok-push_number.ensures
    (numbered one two (codes " deleted ") _ (fated_count messages fates) c.count-deleted.ensures c.in_ok-push_number-2.ensures)
    (numbered two three (codes " succeeded ") _ (fate_count messages fates Succeeded) c.count_with-succeeded.ensures c.in_ok-push_number-3.ensures)
    (numbered three four (codes " filtered ") _ (fate_count messages fates Filtered) c.count_with-filtered.ensures c.in_ok-push_number-4.ensures)
    (numbered four five (codes " moved ") _ (fate_count messages fates Exhausted) c.count_with-moved.ensures c.in_ok-push_number-5.ensures)
