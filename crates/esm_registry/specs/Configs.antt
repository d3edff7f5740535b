-- What the registry uses of configurations, under names that proofs do not open: how the value of a new mapping and that
-- of an update are judged, and the canonical text.
use Rattle.std.specs.Prelude.{◌≡◌, ℕ, List, Some, Result}
use Rattle.serde_json.specs.Data.{Data}
use Rattle.serde_json.specs.Read.{read}
use Rattle.esm_model.specs.declared.config.Config.{Config}
use Rattle.esm_config.specs.Mapping.{config_of, judge}
use Rattle.esm_config.specs.Merge.{judge_update}
use Rattle.esm_config.specs.Text.{config_text}
use Rattle.esm_config.specs.declared.param.Param.{Param}

-- the configuration that a value states, or the first field that is refused
unfoldable pub config_judged : Data → Result Config Param
config_judged d = judge d

-- the configuration after an update, or the first field that is refused
unfoldable pub update_judged : Config → Data → Result Config Param
update_judged old d = judge_update old d

-- the text that `esm_config` writes
unfoldable pub canonical_text : Config → List ℕ
canonical_text c = config_text c

-- its text reads as the configuration
abbrev pub IsRead : Config → Type 0
IsRead c = (d : Data) × (read (config_text c) ≡ Some d) × (config_of d ≡ Some c)
