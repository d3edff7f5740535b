-- Which settings are well formed. This product's own.
use Rattle.std.specs.Prelude.{◌≡◌, ℕ, Some}
use Rattle.esm_model.specs.Records.{Record}
use Rattle.esm_model.specs.Setting.{Setting, record_at}

-- each record is in the list of its own shard
pub record IsSetting (s : Setting) : Type 0 where
  pub own_shard : (n i : ℕ) (r : Record) → record_at s n i ≡ Some r → r.shard ≡ n
