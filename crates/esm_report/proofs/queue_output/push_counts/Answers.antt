use Rattle.std.proofs.Common.{◌≡◌, ℕ, List, ◌++◌, codes, refl, ap, ◌∙◌, append_assoc}
use Rattle.esm_model.specs.declared.entry.Fate.TheVariants.{Succeeded, Filtered}
use Rattle.esm_report.specs.Counts.{message_fate, number_part, fated_count, fate_count, counts_text}
use Rattle.esm_report.proofs.queue_output.push_counts.Goals as goal

-- four pieces written one after another
four_parts : (a p q r t : List ℕ) → a ++ p ++ q ++ r ++ t ≡ a ++ (p ++ q ++ r ++ t)
four_parts a p q r t = simp append_assoc refl

written : (a b c d e p q r t : List ℕ) → b ≡ a ++ p → c ≡ b ++ q → d ≡ c ++ r → e ≡ d ++ t → e ≡ a ++ (p ++ q ++ r ++ t)
written a b c d e p q r t first second third fourth =
    fourth
    ∙ (ap (λ (xs : List ℕ). xs ++ t) (third ∙ ap (λ (xs : List ℕ). xs ++ r) (second ∙ ap (λ (xs : List ℕ). xs ++ q) first))
    ∙ four_parts a p q r t)

numbered : (a b words : List ℕ) (n k : ℕ) → n ≡ k → b ≡ a ++ number_part words n → b ≡ a ++ number_part words k
numbered a b words n k same is = is ∙ ap (λ (m : ℕ). a ++ number_part words m) same

pub returns : goal.returns
unfolding counts_text
returns c =
    let fates = message_fate c.args.deletions.now in
    let messages = c.args.messages in
    let begin = c.args.out.now.items in
    let one = c.push_number.new.out.items in
    let two = c.push_number-2.new.out.items in
    let three = c.push_number-3.new.out.items in
    let four = c.push_number-4.new.out.items in
    written begin one two three four
    (number_part (codes "queue messages ") messages)
    (number_part (codes " deleted ") (fated_count messages fates))
    (number_part (codes " succeeded ") (fate_count messages fates Succeeded))
    (number_part (codes " filtered ") (fate_count messages fates Filtered))
    c.in_ok-push_number.ensures
    (numbered one two (codes " deleted ") _ (fated_count messages fates) c.count-deleted.ensures c.in_ok-push_number-2.ensures)
    (numbered two three (codes " succeeded ") _ (fate_count messages fates Succeeded) c.count_with-succeeded.ensures c.in_ok-push_number-3.ensures)
    (numbered three four (codes " filtered ") _ (fate_count messages fates Filtered) c.count_with-filtered.ensures c.in_ok-push_number-4.ensures)
