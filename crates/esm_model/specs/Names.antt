-- Names that reports and messages print: the files of a folder, and the limits of the engine. This product's own.
use Rattle.std.specs.Prelude.{ℕ, List, codes}
use Rattle.esm_model.specs.declared.names.FileName.{FileName}
use Rattle.esm_model.specs.declared.names.FileName.TheVariants.{Journal, Spare, Failures, Registry}
use Rattle.esm_model.specs.declared.names.LimitName.{LimitName}
use Rattle.esm_model.specs.declared.names.LimitName.TheVariants.{Records, Bytes, Shards, Lanes}

abbrev pub file_name : FileName → List ℕ
file_name Journal = codes "journal.esm"
file_name Spare = codes "spare.esm"
file_name Failures = codes "failures.esm"
file_name Registry = codes "registry.esm"

abbrev pub limit_name : LimitName → List ℕ
limit_name Records = codes "records"
limit_name Bytes = codes "bytes"
limit_name Shards = codes "shards"
limit_name Lanes = codes "lanes"
