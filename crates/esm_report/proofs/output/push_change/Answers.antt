use Rattle.std.proofs.Common.{◌≡◌, ℕ, List, ◌++◌, codes, ap, ◌∙◌, append_assoc}
use Rattle.esm_report.specs.Report.{place_part, texts_part}
use Rattle.esm_report.proofs.output.push_change.Goals as goal

three_parts : (a b c d : List ℕ) → a ++ b ++ c ++ d ≡ a ++ (b ++ c ++ d)
three_parts a b c d = ap (λ xs. xs ++ d) (append_assoc a b c) ∙ append_assoc a (b ++ c) d

pub returns : goal.returns
returns c =
    let place = place_part c.args.change.now.shard c.args.change.now.place in
    let texts = texts_part c.args.change.now.kept c.args.change.now.given in
    c.in_ok-push_texts.ensures
    ∙ ap (λ xs. xs ++ texts) (c.in_ok-push_place.ensures ∙ ap (λ xs. xs ++ place) c.in_ok-push_bytes.ensures)
    ∙ three_parts c.args.out.now.items (codes "stream changed ") place texts
