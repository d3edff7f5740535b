use Rattle.std.proofs.Common.{◌≡◌, ◌∙◌, ◌++◌, ℕ, List, codes, ap, append_assoc}
use Rattle.esm_model.specs.Numbers.{decimal}
use Rattle.esm_folder.proofs.telling.push_deleted_line.Goals as goal

joined : (o a b d x y z : List ℕ) → a ≡ o ++ x → b ≡ a ++ y → d ≡ b ++ z → d ≡ o ++ ((x ++ y) ++ z)
joined o a b d x y z first second third =
    third ∙ ap (λ l. l ++ z) (second ∙ ap (λ l. l ++ y) first ∙ append_assoc o x y) ∙ append_assoc o (x ++ y) z

pub returns : goal.returns
returns c =
    joined c.args.out.now.items c.push_bytes.new.out.items c.push_decimal.new.out.items c.push_bytes-2.new.out.items (codes "queue deleted ") (decimal c.args.deleted) (codes "\n")
    c.in_ok-push_bytes.ensures (c.in_ok-push_decimal.ensures ∙ ap (λ n. c.push_bytes.new.out.items ++ decimal n) c.from.ensures) c.in_ok-push_bytes-2.ensures
