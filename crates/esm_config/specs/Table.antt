-- The field for which a mapping's object is refused: the first in the order of the table; `Unknown` after all others; and
-- `Body` if the value is no object. Source: this product's own.
use Rattle.std.specs.Prelude.{Option}
use Rattle.std.specs.Result.{result_err}
use Rattle.serde_json.specs.Data.{Data}
use Rattle.esm_config.specs.Mapping.{judge, judge_dynamo}
use Rattle.esm_config.specs.declared.param.Param.{Param}

abbrev pub refused : Data → Option Param
refused d = result_err (judge d)

-- the same for the stream of a DynamoDB table
abbrev pub dynamo_refused : Data → Option Param
dynamo_refused d = result_err (judge_dynamo d)
