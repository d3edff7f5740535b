-- What a command over a folder's journals prints, line by line, and its exit status. This product's own.
use Rattle.std.specs.Prelude.{ℕ, ◌==◌, List, [], ◌++◌, codes, if◌then◌else◌}
use Rattle.std.specs.List.{flat_map}
use Rattle.esm_model.specs.EventText.{shard_id}
use Rattle.esm_model.specs.Numbers.{decimal}
use Rattle.esm_folder.specs.declared.ending.JournalFile.{JournalFile}
use Rattle.esm_folder.specs.declared.ending.JournalFile.TheVariants.{Journal, Failures}
use Rattle.esm_folder.specs.declared.ending.UpkeepEnd.{UpkeepEnd}
use Rattle.esm_folder.specs.declared.ending.UpkeepEnd.TheVariants.{Shown, Listed, Compacted, Migrated, WasVersion2, NotAJournal, Damaged, BadPayload, DiskFault}
use Rattle.esm_folder.specs.declared.summary.ShardSummary.{ShardSummary}
use Rattle.esm_folder.specs.declared.summary.Summary.{Summary}

-- the name of a file
abbrev pub file_name : JournalFile → List ℕ
file_name Journal = codes "journal.esm"
file_name Failures = codes "failures.esm"

-- a line ends with a line feed
abbrev pub line : List ℕ → List ℕ
line text = text ++ codes "\n"

-- the shard, the number of its places that have a fate, and the length of the longest prefix of places that all have one
abbrev pub shard_text : ShardSummary → List ℕ
shard_text s = codes "shard " ++ shard_id s.shard ++ codes " given " ++ decimal s.given ++ codes " frontier " ++ decimal s.frontier

abbrev pub shard_lines : List ShardSummary → List ℕ
shard_lines shards = flat_map (λ s. line (shard_text s)) shards

-- a line for a queue, if a message was deleted
abbrev pub deleted_line : ℕ → List ℕ
deleted_line n = if n == 0 then [] else line (codes "queue deleted " ++ decimal n)

abbrev pub summary_lines : Summary → List ℕ
summary_lines s = shard_lines s.shards.items ++ deleted_line s.deleted

-- failure lines, each with a line feed
abbrev pub failure_lines : List (List ℕ) → List ℕ
failure_lines lines = flat_map line lines

abbrev pub upkeep_text : UpkeepEnd → List ℕ
upkeep_text (Shown summary) = summary_lines summary ++ codes "done\n"
upkeep_text (Listed lines) = lines ++ codes "done\n"
upkeep_text (Compacted before after) = codes "compacted " ++ decimal before ++ codes " to " ++ decimal after ++ codes "\ndone\n"
upkeep_text (Migrated count) = codes "migrated " ++ decimal count ++ codes "\ndone\n"
upkeep_text WasVersion2 = codes "version 2\ndone\n"
upkeep_text (NotAJournal file) = codes "not a journal " ++ file_name file ++ codes "\n"
upkeep_text (Damaged file place) = codes "damaged " ++ file_name file ++ codes " " ++ decimal place ++ codes "\n"
upkeep_text (BadPayload file index) = codes "bad payload " ++ file_name file ++ codes " " ++ decimal index ++ codes "\n"
upkeep_text DiskFault = codes "disk fault\n"

-- the exit status
abbrev pub upkeep_status : UpkeepEnd → ℕ
upkeep_status (Shown summary) = 0
upkeep_status (Listed lines) = 0
upkeep_status (Compacted before after) = 0
upkeep_status (Migrated count) = 0
upkeep_status WasVersion2 = 0
upkeep_status (NotAJournal file) = 8
upkeep_status (Damaged file place) = 8
upkeep_status (BadPayload file index) = 8
upkeep_status DiskFault = 6
