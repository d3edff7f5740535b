use Rattle.std.proofs.Common.{◌≡◌, subst}
use Rattle.std.specs.Result.{IfOk}
use Rattle.esm_registry.proofs.PayloadFacts.{behind_is}
use Rattle.esm_registry.proofs.payload.read_behind.Goals as goal

pub returns-clause-change : goal.returns-clause-change
returns-clause-change c =
    subst (λ o. IfOk c.change_at.result (λ ch. ch ≡ o))
    (behind_is c.args.kind c.args.bytes.now c.id_and_moment-id.result.0 c.id_and_moment-id.result.1 c.if-bytes-lt24.false c.if-moment-gt-MAX_MOMENT.false
    c.id_and_moment-id.ensures.id c.id_and_moment-id.ensures.moment)
    c.change_at.ensures.change
