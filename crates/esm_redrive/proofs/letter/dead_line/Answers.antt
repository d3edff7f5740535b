use Rattle.std.proofs.Common.{◌≡◌, ◌++◌, List, ℕ, sym, ap, ◌∙◌, subst}
use Rattle.esm_redrive_model.specs.DeadLetter.{dead_letter}
use Rattle.esm_redrive.specs.ReadsBack.{ReadsBack}
use Rattle.esm_redrive.proofs.ReadingBack.{reads_back}
use Rattle.esm_redrive.proofs.letter.dead_line.Goals as goal

pub returns-clause-reads_back : goal.returns-clause-reads_back
returns-clause-reads_back c =
    let m = c.args.message.now in
    let text : c.push_letter.new.out.items ≡ dead_letter m = c.in_ok-push_letter.ensures.text ∙ ap (λ (xs : List ℕ). xs ++ dead_letter m) c.new-out.ensures.items in
    subst (ReadsBack m) (sym text) (reads_back m c.in_ok-push_letter.ensures.utf8)
