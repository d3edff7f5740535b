use Rattle.std.proofs.Common.{◌≡◌, ◌++◌, ℕ, false, codes, arith, refl, subst, sym}
use Rattle.std.specs.Prelude.{◌≢◌, ◌==◌, OnOk}
use Rattle.std.proofs.lemmas.Bool.Decides.{nat_tests}
use Rattle.esm_model.specs.Numbers.{decimal}
use Rattle.esm_folder.specs.UpkeepText.{deleted_line, line}
use Rattle.esm_folder.proofs.telling.push_deleted.Goals as goal

not_zero : (n : ℕ) → n ≢ 0 → (n == 0) ≡ false
not_zero n some = grind (arith, nat_tests)

some_deleted : (n : ℕ) → n ≢ 0 → deleted_line n ≡ line (codes "queue deleted " ++ decimal n)
some_deleted n some = rw (not_zero n some) refl

pub returns : goal.returns
returns c =
    let some : c.args.deleted ≢ 0 = omega (arith, c.if-deleted-eq0.false) in
    subst (λ t. OnOk c.push_deleted_line.result (c.push_deleted_line.new.out.items ≡ c.args.out.now.items ++ t)) (sym (some_deleted c.args.deleted some)) c.push_deleted_line.ensures
