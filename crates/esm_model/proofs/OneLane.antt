-- With the factor 1 each record is in the lane 0 of its shard.
use Rattle.std.proofs.Common.{◌≡◌, ℕ, true, false, sym, ap, ◌∙◌, Option, Some, arith}
use Rattle.std.specs.Prelude.{◌%◌, option_map, unwrap_or}
use Rattle.std.proofs.lemmas.Bool.{eq-eqb}
use Rattle.esm_model.specs.Lane.{lane_of}
use Rattle.esm_model.specs.Records.{Record}
use Rattle.esm_model.specs.declared.lane.LaneId.{LaneId}
use Rattle.esm_model.specs.Setting.{Setting, record_at, is_in_lane, is_key_of}

mod_one : (x f : ℕ) → f ≡ 1 → x % f ≡ 0
mod_one x f is = rw is (omega arith)

pub in_only_lane : (s : Setting) (lane : LaneId) (i : ℕ) (r : Record) → s.config.factor ≡ 1 → lane.lane ≡ 0 → record_at s lane.shard i ≡ Some r → is_in_lane s lane i ≡ true
in_only_lane s lane i r one zeroth at =
    ap (λ (o : Option Record). unwrap_or (option_map (is_key_of s lane) o) false) at
    ∙ eq-eqb (lane_of r.key s.config.factor) lane.lane (mod_one _ s.config.factor one ∙ sym zeroth)
