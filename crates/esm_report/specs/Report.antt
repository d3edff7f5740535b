-- The report of a stream's run: a line for each shard of which records arrived, a line for the calls, and the last line,
-- which says how the run ended. Each line ends with a line feed. This product's own.
use Rattle.std.specs.Prelude.{ℕ, Bool, true, false, List, [], ◌++◌, codes, if◌then◌else◌}
use Rattle.std.specs.List.{flat_map, fold}
use Rattle.std.specs.Ordering.{nat_cmp}
use Rattle.std.specs.BTreeSet.{insert_key}
use Rattle.esm_model.specs.declared.entry.Fate.{Fate}
use Rattle.esm_model.specs.declared.entry.Fate.TheVariants.{Succeeded, Filtered, Expired, Exhausted}
use Rattle.esm_model.specs.declared.entry.Entry.{Entry}
use Rattle.esm_model.specs.Setting.{Setting}
use Rattle.esm_model.specs.Entries.{came_count, shards_that_came, calls_begun}
use Rattle.esm_model.specs.Fates.{fate_count}
use Rattle.esm_model.specs.Checkpoint.{checkpoint}
use Rattle.esm_model.specs.Numbers.{decimal}
use Rattle.esm_model.specs.EventText.{shard_id}
use Rattle.esm_model.specs.declared.book.Change.{Change}
use Rattle.esm_model.specs.Names.{file_name, limit_name}
use Rattle.esm_report.specs.declared.ending.Ending.{Ending}
use Rattle.esm_report.specs.declared.ending.Ending.TheVariants.{Done, CallsSpent, BadWords, BadLine, InputFault, DiskFault, OpenFault, DestFault, NotAJournal, Damaged, BadPayload, StreamChanged, UnknownMapping, DisabledMapping, BadParameter, Limit}

-- a line ends with a line feed
abbrev pub line : List ℕ → List ℕ
line text = text ++ codes "\n"

-- the numbers in rising order, each once
abbrev pub rising : List ℕ → List ℕ
rising ns = fold (insert_key nat_cmp) [] ns

-- a word, and how many of the shard's records that arrived have this fate
abbrev pub fate_part : List ℕ → Fate → Setting → List Entry → ℕ → List ℕ
fate_part word f s h n = codes " " ++ word ++ codes " " ++ decimal (fate_count s h n f)

-- how many of them have each of the four fates
abbrev pub fates_part : Setting → List Entry → ℕ → List ℕ
fates_part s h n =
    fate_part (codes "succeeded") Succeeded s h n
    ++ fate_part (codes "filtered") Filtered s h n
    ++ fate_part (codes "expired") Expired s h n
    ++ fate_part (codes "exhausted") Exhausted s h n

-- the shard, the number of its records that arrived, and its checkpoint
abbrev pub records_part : Setting → List Entry → ℕ → List ℕ
records_part s h n =
    codes "shard " ++ shard_id n
    ++ codes " records " ++ decimal (came_count h n)
    ++ codes " checkpoint " ++ decimal (checkpoint s h n)

-- followed by how many of these records have each fate, those that the journal gave included
abbrev pub shard_text : Setting → List Entry → ℕ → List ℕ
shard_text s h n = records_part s h n ++ fates_part s h n

-- the number of calls that began
abbrev pub calls_text : List Entry → List ℕ
calls_text h = codes "calls " ++ decimal (calls_begun h)

-- a record's place in the stream
abbrev pub place_part : ℕ → ℕ → List ℕ
place_part n i = shard_id n ++ codes " place " ++ decimal i

-- the text that the journal kept of a record, and the one in the stream
abbrev pub texts_part : List ℕ → List ℕ → List ℕ
texts_part kept given = codes " kept " ++ kept ++ codes " given " ++ given

-- a record of the stream that has another text than the journal kept of it
abbrev pub change_text : Change → List ℕ
change_text change =
    codes "stream changed " ++ place_part change.shard change.place ++ texts_part change.kept change.given

-- how the run ended
abbrev pub ending_text : Ending → List ℕ
ending_text Done = codes "done"
ending_text CallsSpent = codes "calls spent"
ending_text BadWords = codes "bad words"
ending_text (BadLine number why) = codes "bad line " ++ decimal number ++ codes ": " ++ why
ending_text InputFault = codes "input fault"
ending_text DiskFault = codes "disk fault"
ending_text OpenFault = codes "disk fault"
ending_text DestFault = codes "destination fault"
ending_text (NotAJournal file) = codes "not a journal " ++ file_name file
ending_text (Damaged file place) = codes "damaged " ++ file_name file ++ codes " " ++ decimal place
ending_text (BadPayload file index) = codes "bad payload " ++ file_name file ++ codes " " ++ decimal index
ending_text (StreamChanged change) = change_text change
ending_text UnknownMapping = codes "unknown mapping"
ending_text DisabledMapping = codes "disabled mapping"
ending_text (BadParameter name) = codes "bad parameter " ++ name
ending_text (Limit name) = codes "limit " ++ limit_name name

abbrev pub last_line : Ending → List ℕ
last_line ending = line (ending_text ending)

-- nothing ran, so there is nothing else to report
abbrev pub stands_alone : Ending → Bool
stands_alone BadWords = true
stands_alone OpenFault = true
stands_alone (NotAJournal file) = true
stands_alone (Damaged file place) = true
stands_alone (BadPayload file index) = true
stands_alone UnknownMapping = true
stands_alone DisabledMapping = true
stands_alone (BadParameter name) = true
stands_alone _ = false

-- the lines of the shards of which records arrived, in rising order of their numbers
abbrev pub shard_lines : Setting → List Entry → List ℕ
shard_lines s h = flat_map (λ n. line (shard_text s h n)) (rising (shards_that_came h))

-- the report of a history (newest entry first) and an ending; if nothing ran, it is the last line alone
abbrev pub report_text : Setting → List Entry → Ending → List ℕ
report_text s h ending = if stands_alone ending then last_line ending else shard_lines s h ++ line (calls_text h) ++ last_line ending
