-- The report of a generated stream's run. This product's own.
use Rattle.std.specs.Prelude.{ℕ, List, ◌++◌}
use Rattle.esm_model.specs.Setting.{Setting}
use Rattle.esm_model.specs.declared.entry.Entry.{Entry}
use Rattle.esm_report.specs.Report.{last_line, shard_lines}
use Rattle.esm_report.specs.declared.ending.Ending.TheVariants.{Done}

-- the report of a stream's run that ended with `Done`, without the line of its calls
abbrev pub generated_report : Setting → List Entry → List ℕ
generated_report s h = shard_lines s h ++ last_line Done
