-- What a stream's configuration says of lanes, and how many batchers its run has.
use Rattle.std.proofs.Common.{◌≡◌, ℕ, ◌*◌, ◌<◌, ◌≤◌, Bool, true, false, not, ◌||◌, subst, arith}
use Rattle.std.specs.Prelude.{◌==◌, min}
use Rattle.std.proofs.lemmas.Bool.{eqb-true}
use Rattle.std.proofs.lemmas.Bool.Decides.{nat_tests}
use Rattle.std.proofs.Math.Nat.{mul-le-mul_right, le_trans}
use Rattle.esm_model.specs.declared.config.Config.{Config}
use Rattle.esm_model.specs.declared.config.Kind.{Kind}
use Rattle.esm_model.specs.declared.config.Kind.TheVariants as kind
use Rattle.esm_model.specs.Valid.{IsStreamConfig, HasFieldsOf}
use Rattle.esm_model.specs.Windows.{has_windows}

fields_of : (c : Config) → IsStreamConfig c → HasFieldsOf kind.Stream c
fields_of c config = subst (λ (k : Kind). HasFieldsOf k c) config.kind config.valid.fields

pub factor_some : (c : Config) → IsStreamConfig c → 0 < c.factor
factor_some c config =
    let fields : HasFieldsOf kind.Stream c = fields_of c config in
    grind (arith, nat_tests, fields.factor)

pub factor_few : (c : Config) → IsStreamConfig c → c.factor ≤ 10
factor_few c config =
    let fields : HasFieldsOf kind.Stream c = fields_of c config in
    grind (arith, nat_tests, fields.factor)

other : (a b : Bool) → (a || b) ≡ true → not a ≡ true → b ≡ true
other true b either off = absurd (let clash : false ≡ true = off in cc)
other false b either off = either

-- where windows are configured, a shard has one lane
pub one_lane : (c : Config) → IsStreamConfig c → has_windows c ≡ true → c.factor ≡ 1
one_lane c config windows =
    let fields : HasFieldsOf kind.Stream c = fields_of c config in
    eqb-true c.factor 1 (other (c.tumbling_ms == 0) (c.factor == 1) fields.one_lane windows)

-- each lane of shards so few has a batcher
pub lanes_within : (shards came factor batchers : ℕ) → batchers ≡ min (16 * factor) 64 → shards ≤ came → came ≤ 16 → came * factor ≤ 64 → shards * factor ≤ batchers
lanes_within shards came factor batchers number few short most =
    let step : shards * factor ≤ came * factor = mul-le-mul_right factor few in
    let wide : came * factor ≤ 16 * factor = mul-le-mul_right factor short in
    let low : shards * factor ≤ 64 = le_trans step most in
    let within : shards * factor ≤ 16 * factor = le_trans step wide in
    grind (arith, number, low, within)
