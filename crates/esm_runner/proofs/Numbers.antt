-- How many batchers a queue has: one at least, and not more than 32.
use Rattle.std.proofs.Common.{◌≡◌, ◌<◌, ◌≤◌, ℕ, true, false, sym, subst, arith, Option, Some, None}
use Rattle.std.specs.Prelude.{nat_le}
use Rattle.std.proofs.lemmas.Bool.{and_parts, leb-true}
use Rattle.esm_model.specs.declared.config.Config.{Config}
use Rattle.esm_model.specs.declared.config.Kind.{Kind}
use Rattle.esm_model.specs.declared.config.Kind.TheVariants as kind
use Rattle.esm_model.specs.QueueEvent.{IsQueueConfig}
use Rattle.esm_model.specs.Valid.{is_stream, is_between, none_or, HasQueueFields, HasFieldsOf}
use Rattle.esm_runner.specs.Number.{batchers_by, batchers_in}

fields_of : (k : Kind) (c : Config) → is_stream k ≡ false → HasFieldsOf k c → HasQueueFields c
fields_of kind.Stream c queue fields = absurd (cc)
fields_of kind.Standard c queue fields = fields
fields_of kind.Fifo c queue fields = fields

some_by : (o : Option ℕ) → none_or (is_between 2 1000) o ≡ true → 0 < batchers_by o
some_by None is = omega arith
some_by (Some most) is =
    let two : 2 ≤ most = leb-true 2 most (and_parts (nat_le 2 most) (nat_le most 1000) is).0 in
    omega (arith, two)

most_by : (o : Option ℕ) → batchers_by o ≤ 32
most_by None = omega arith
most_by (Some most) = omega arith

pub some_batcher : (c : Config) (batchers : ℕ) → IsQueueConfig c → batchers ≡ batchers_in c → 0 < batchers
some_batcher c batchers config number =
    let fields : HasQueueFields c = fields_of c.kind c config.kind config.valid.fields in
    subst (λ n. 0 < n) (sym number) (some_by c.concurrency fields.concurrency)

pub few_batchers : (c : Config) (batchers : ℕ) → batchers ≡ batchers_in c → batchers ≤ 64
few_batchers c batchers number = (let most = most_by c.concurrency in omega (arith, most, number))
