use Rattle.std.proofs.Common.{◌≡◌, ◌∙◌, ℕ, ◌-◌, ap, arith, length, take}
use Rattle.esm_ddb.proofs.OwnPieces.{front_is}
use Rattle.esm_ddb.proofs.own_line.front_of.Goals as goal

pub returns : goal.returns
returns c = λ front is.
    let text = c.args.text.now in
    let size : c.saturating_sub.result ≡ length text - length c.args.end.now = omega arith in
    ap (λ (n : ℕ). take n text) size ∙ front_is text front c.args.end.now is
