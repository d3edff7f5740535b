use Rattle.std.proofs.Common.{◌≡◌, length, take, arith}
use Rattle.std.proofs.lemmas.List.{length-take-le}
use Rattle.esm_ledger.specs.Ledger.{past_of, setting_of}
use Rattle.esm_model.specs.declared.book.Next.TheVariants as next
use Rattle.esm_next.specs.Following.{next_allowed}
use Rattle.esm_next.specs.Deciding.{answer_of, Gives, IsDecided}
use Rattle.esm_next.proofs.Lanes.{front_expires, front_came, front_open, first_open, decided_expired, decided_open}
use Rattle.esm_next.proofs.Results.{both_ok}
use Rattle.esm_next.proofs.lane.decide_front.Goals as goal

pub expired_count-count-requires-clause-open : goal.expired_count-count-requires-clause-open
expired_count-count-requires-clause-open c = front_open (setting_of c.args.ledger.now) (past_of c.args.ledger.now) c.args.lane c.args.now c.args.places.now c.args.fresh c.requires.front

pub expire-requires-clause-open : goal.expire-requires-clause-open
expire-requires-clause-open c = first_open (setting_of c.args.ledger.now) (past_of c.args.ledger.now) c.args.lane c.args.now c.args.places.now c.args.fresh c.expired_count-count.result c.requires.front

pub expire-requires-clause-came : goal.expire-requires-clause-came
expire-requires-clause-came c =
    front_came (setting_of c.args.ledger.now) (past_of c.args.ledger.now) c.args.lane c.args.now c.args.places.now c.args.fresh c.expired_count-count.result c.requires.front

pub expire-requires-clause-some : goal.expire-requires-clause-some
expire-requires-clause-some c =
    let long = length-take-le c.expired_count-count.result c.args.places.now c.expired_count-count.ensures.within in
    omega (arith, long)

pub expire-requires-clause-few : goal.expire-requires-clause-few
expire-requires-clause-few c =
    let long = length-take-le c.expired_count-count.result c.args.places.now c.expired_count-count.ensures.within in
    let few = c.expired_count-count.ensures.few in
    omega (arith, long, few)

pub expire-requires-clause-expired : goal.expire-requires-clause-expired
expire-requires-clause-expired c =
    (front_expires (setting_of c.args.ledger.now) (past_of c.args.ledger.now) c.args.lane c.args.now c.args.places.now c.args.fresh c.expired_count-count.result c.requires.front c.expired_count-count.ensures.within c.expired_count-count.ensures.prefix).are

pub decide_open-requires-clause-young : goal.decide_open-requires-clause-young
decide_open-requires-clause-young c =
    (front_expires (setting_of c.args.ledger.now) (past_of c.args.ledger.now) c.args.lane c.args.now c.args.places.now c.args.fresh c.expired_count-count.result c.requires.front c.expired_count-count.ensures.within c.expired_count-count.ensures.prefix).young (omega arith)

pub returns-then-count-gt0 : goal.returns-then-count-gt0
returns-then-count-gt0 c =
    let s = setting_of c.args.ledger.now in
    let h = past_of c.args.ledger.now in
    let few = take c.expired_count-count.result c.args.places.now in
    let so = front_expires s h c.args.lane c.args.now c.args.places.now c.args.fresh c.expired_count-count.result c.requires.front c.expired_count-count.ensures.within c.expired_count-count.ensures.prefix in
    both_ok c.expire.result (λ d. answer_of d ≡ next.Gave (length few)) (Gives s h c.args.lane c.args.now) (IsDecided s h c.args.lane c.args.now)
    (λ d answer gives. decided_expired s h c.args.lane c.args.now c.args.places.now c.expired_count-count.result d so (omega arith) answer gives) c.expire.ensures.answer c.expire.ensures.gives

pub returns : goal.returns
returns c =
    let s = setting_of c.args.ledger.now in
    let h = past_of c.args.ledger.now in
    let so = front_expires s h c.args.lane c.args.now c.args.places.now c.args.fresh c.expired_count-count.result c.requires.front c.expired_count-count.ensures.within c.expired_count-count.ensures.prefix in
    both_ok c.decide_open.result (λ d. answer_of d ≡ next_allowed s h c.args.lane c.args.now) (Gives s h c.args.lane c.args.now) (IsDecided s h c.args.lane c.args.now)
    (λ d answer gives. decided_open s h c.args.lane c.args.now c.args.places.now c.args.fresh d c.requires.front (so.none (omega arith)) answer gives) c.decide_open.ensures.answer c.decide_open.ensures.gives
