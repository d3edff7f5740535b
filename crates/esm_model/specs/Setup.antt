-- An empty setup, for where a definition needs one and there is none.
use Rattle.std.specs.Prelude.{[], None, false}
use Rattle.esm_model.specs.declared.config.Config.{Config}
use Rattle.esm_model.specs.declared.config.Kind.TheVariants.{Stream}
use Rattle.esm_model.specs.declared.config.Start.TheVariants.{TrimHorizon}
use base.Stored.{Gv, gnil}
use Rattle.esm_model.specs.declared.setup.Setup.{Setup}

abbrev pub no_config : Config
no_config = record {
  source_arn = [];
  function = [];
  function_arn = [];
  region = [];
  account = [];
  kind = Stream;
  batch_size = 0;
  window_ms = 0;
  factor = 0;
  retries = None;
  age_ms = None;
  bisect = false;
  item_failures = false;
  tumbling_ms = 0;
  start = TrimHorizon;
  destination = None;
  filters = [];
  concurrency = None;
  enabled = false;
}

abbrev pub no_device : Gv
no_device = gnil

abbrev pub no_setup : Setup
no_setup = record {
  config = no_config;
  calls = 0;
  visibility_ms = 0;
  fates = [];
  tries = [];
  states = [];
  window_tries = [];
  deletions = [];
  payloads = [];
  pair = no_device;
  lines = [];
  dest = no_device;
}
