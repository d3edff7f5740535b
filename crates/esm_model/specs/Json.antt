-- JSON as this product reads it: a UTF-8 text that `serde_json` reads, within its limit of depth. Of a key that occurs twice
-- in an object the last value counts.
use Rattle.std.specs.Prelude.{ℕ, List, if◌then◌else◌, Option, None}
use Rattle.std.specs.Str.{is_utf8}
use Rattle.serde_json.specs.Data.{Data}
use Rattle.serde_json.specs.Read.{read}

abbrev pub read_json : List ℕ → Option Data
read_json bytes = if is_utf8 bytes then read bytes else None
