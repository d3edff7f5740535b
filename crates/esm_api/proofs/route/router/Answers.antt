use Rattle.matchit.proofs.OnLiterals.{matchit_on_literals}
use Rattle.esm_api.proofs.route.router.Goals as goal

pub returns : goal.returns
unfolding matchit_on_literals
returns c =
    let first = c.in_ok-add.ensures in
    let second = c.in_ok-add-2.ensures in
    let third = c.in_ok-add-3.ensures in
    rw (second.1, first.1, c.new-router.ensures) at third.1
