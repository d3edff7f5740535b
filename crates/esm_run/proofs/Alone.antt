-- Which endings of a run stand alone, and that none of them is for bad words.
use Rattle.std.proofs.Common.{◌≡◌, ◌∙◌, ℕ, Bool, true, ap, refl, subst, Option, Some, inl, inr, List, []}
use Rattle.std.specs.Prelude.{if◌then◌else◌}
use Rattle.esm_cli.specs.declared.command.RunWords.{RunWords}
use Rattle.esm_config.specs.Names.{name_of}
use Rattle.esm_ddb.specs.declared.input.InputTurned.{InputTurned}
use Rattle.esm_ddb.specs.declared.input.InputTurned.TheVariants as turned
use Rattle.esm_model.specs.declared.names.FileName.TheVariants as name
use Rattle.esm_input.specs.declared.ending.InputEnd.{InputEnd}
use Rattle.esm_input.specs.declared.ending.InputEnd.TheVariants as ends
use Rattle.esm_mapping.specs.declared.named.MappingError.{MappingError}
use Rattle.esm_mapping.specs.declared.named.MappingError.TheVariants as mapping
use Rattle.esm_model.specs.Setup.{no_config}
use Rattle.esm_model.specs.declared.entry.Entry.{Entry}
use Rattle.esm_model.specs.Setting.{Setting}
use Rattle.esm_report.specs.declared.ending.Ending.{Ending}
use Rattle.esm_report.specs.declared.ending.Ending.TheVariants as ending
use Rattle.esm_report.specs.Report.{last_line, report_text, stands_alone}
use Rattle.esm_runner.specs.declared.files.FilesError.{FilesError}
use Rattle.esm_runner.specs.declared.files.FilesError.TheVariants as files
use Rattle.esm_runner.specs.declared.run.MappingEnd.{MappingEnd}
use Rattle.esm_runner.specs.declared.run.MappingEnd.TheVariants as run
use Rattle.esm_io.specs.Meanings.{DiskMeaning}
use Rattle.esm_redrive_run.specs.declared.run.RedriveEnd.{RedriveEnd}
use Rattle.esm_redrive_run.specs.declared.run.RedriveEnd.TheVariants as redrive
use Rattle.esm_replay_run.specs.declared.run.ReplayEnd.{ReplayEnd}
use Rattle.esm_replay_run.specs.declared.run.ReplayEnd.TheVariants as replay
use Rattle.esm_run.specs.Answers.{HasCome, HasNotRun, RunCause, RunEnded}
use Rattle.esm_run.specs.Asks.{Asks}
use Rattle.esm_run.specs.Ddb.{DdbCause}
use Rattle.esm_run.specs.Redrive.{RedriveCause, redrive_asks}
use Rattle.esm_run.specs.Replay.{ReplayCause, replay_asks}
use Rattle.esm_run.specs.declared.asked.RedriveWords.{RedriveWords}
use Rattle.esm_run.specs.Endings.{ending_of, ending_of_ddb, ending_of_redrive, ending_of_replay, ending_of_files, ending_of_mapping, ending_of_reading, file_of}
use Rattle.esm_run.specs.World.{RunTells, Seen}

same_some : (e d : Ending) → ◌≡◌ {A = Option Ending} (Some e) (Some d) → e ≡ d
same_some e d is = cc

alone_of : (a e : Ending) → stands_alone a ≡ true → ◌≡◌ {A = Option Ending} (Some a) (Some e) → stands_alone e ≡ true
alone_of a e alone tells = subst (λ x. stands_alone x ≡ true) (same_some a e tells) alone

pub files_alone : (why : FilesError) (e : Ending) → ending_of_files why ≡ Some e → stands_alone e ≡ true
files_alone (files.NotAJournal f) e tells = alone_of (ending.NotAJournal (file_of f)) e refl tells
files_alone (files.Damaged f place) e tells = alone_of (ending.Damaged (file_of f) place) e refl tells
files_alone (files.BadPayload index) e tells = alone_of (ending.BadPayload name.Journal index) e refl tells
files_alone files.DiskFault e tells = alone_of ending.OpenFault e refl tells
files_alone files.OutOfMemory e tells = cc

pub mapping_alone : (why : MappingError) (e : Ending) → ending_of_mapping why ≡ Some e → stands_alone e ≡ true
mapping_alone mapping.NotAJournal e tells = alone_of (ending.NotAJournal name.Registry) e refl tells
mapping_alone (mapping.Damaged place) e tells = alone_of (ending.Damaged name.Registry place) e refl tells
mapping_alone (mapping.BadPayload index) e tells = alone_of (ending.BadPayload name.Registry index) e refl tells
mapping_alone mapping.DiskFault e tells = alone_of ending.OpenFault e refl tells
mapping_alone mapping.Unknown e tells = alone_of ending.UnknownMapping e refl tells
mapping_alone mapping.Disabled e tells = alone_of ending.DisabledMapping e refl tells
mapping_alone (mapping.BadParam param) e tells = alone_of (ending.BadParameter (name_of param)) e refl tells
mapping_alone mapping.OutOfMemory e tells = cc

-- where it stands alone, the last line is the whole report

no_setting : Setting
no_setting = record { config = no_config; calls = 0; streams = []; fates = []; tries = []; states = []; window_tries = [] }

alone_text : (alone : Bool) (line more : List ℕ) → alone ≡ true → (if alone then line else more) ≡ line
alone_text alone line more is = ap (λ b. if b then line else more) is

pub whole_report : (e : Ending) (text : List ℕ) → stands_alone e ≡ true → ((s : Setting) (h : List Entry) → text ≡ report_text s h e) → text ≡ last_line e
whole_report e text alone is = is no_setting [] ∙ alone_text (stands_alone e) (last_line e) _ alone

-- the words of a run are good

files_words : (why : FilesError) → ending_of_files why ≡ Some ending.BadWords → ⊥
files_words (files.NotAJournal f) tells = cc
files_words (files.Damaged f place) tells = cc
files_words (files.BadPayload index) tells = cc
files_words files.DiskFault tells = cc
files_words files.OutOfMemory tells = cc

mapping_words : (why : MappingError) → ending_of_mapping why ≡ Some ending.BadWords → ⊥
mapping_words mapping.NotAJournal tells = cc
mapping_words (mapping.Damaged place) tells = cc
mapping_words (mapping.BadPayload index) tells = cc
mapping_words mapping.DiskFault tells = cc
mapping_words mapping.Unknown tells = cc
mapping_words mapping.Disabled tells = cc
mapping_words (mapping.BadParam param) tells = cc
mapping_words mapping.OutOfMemory tells = cc

reading_words : (why : InputEnd) → ending.BadWords ≡ ending_of_reading why → ⊥
reading_words ends.End tells = cc
reading_words (ends.BadLine bad) tells = cc
reading_words ends.Fault tells = cc
reading_words (ends.Limit limit) tells = cc

run_words : (end : MappingEnd) → ending.BadWords ≡ ending_of end → ⊥
run_words (run.Finished why) tells = reading_words why tells
run_words run.CallsSpent tells = cc
run_words run.DiskFault tells = cc
run_words run.DestFault tells = cc
run_words (run.Changed change) tells = cc

cause_words : {S D F : Type 0} (o : RunTells S D F) (r : RunWords) (h : List Entry) (old new : Seen S D F) (text : List ℕ) → RunCause o r h old new text ending.BadWords → ⊥
cause_words o r h old new text (inl none) = elim none.why [ inl files ↦ files_words files.why files.tells | inr mapping ↦ mapping_words mapping.why mapping.tells ]
cause_words o r h old new text (inr (inl run)) = run_words run.end run.tells
cause_words o r h old new text (inr (inr run)) = run_words run.end run.tells

turned_words : (t : InputTurned) (end : MappingEnd) → ending.BadWords ≡ ending_of_ddb t end → ⊥
turned_words turned.Ended (run.Finished ends.End) tells = cc
turned_words (turned.BadLine bad) (run.Finished ends.End) tells = cc
turned_words turned.Failed (run.Finished ends.End) tells = cc
turned_words t (run.Finished (ends.BadLine bad)) tells = cc
turned_words t (run.Finished ends.Fault) tells = cc
turned_words t (run.Finished (ends.Limit limit)) tells = cc
turned_words t run.CallsSpent tells = cc
turned_words t run.DiskFault tells = cc
turned_words t run.DestFault tells = cc
turned_words t (run.Changed change) tells = cc

ddb_words : {S D F : Type 0} (o : RunTells S D F) (config : List ℕ) (calls : ℕ) (traced : Bool) (h : List Entry) (old new : Seen S D F) (text : List ℕ) → DdbCause o config calls traced h old new text ending.BadWords → ⊥
ddb_words o config calls traced h old new text (inl none) = elim none.why [ inl files ↦ files_words files.why files.tells | inr mapping ↦ mapping_words mapping.why mapping.tells ]
ddb_words o config calls traced h old new text (inr run) = turned_words run.reading run.end run.tells

pub not_bad_ddb_words : {S D F : Type 0} (o : RunTells S D F) (config : List ℕ) (calls : ℕ) (traced : Bool) (h : List Entry) (old new : Seen S D F) → HasCome (DdbCause o config calls traced h old new) ending.BadWords → ⊥
not_bad_ddb_words o config calls traced h old new ended = ddb_words o config calls traced h old new ended.text ended.cause_is

replay_words : (end : ReplayEnd) → ending.BadWords ≡ ending_of_replay end → ⊥
replay_words (replay.Finished why) tells = reading_words why tells
replay_words replay.CallsSpent tells = cc
replay_words replay.DiskFault tells = cc
replay_words (replay.Changed change) tells = cc
replay_words (replay.BadLine index) tells = cc

redrive_words : (end : RedriveEnd) → ending.BadWords ≡ ending_of_redrive end → ⊥
redrive_words (redrive.Finished why) tells = reading_words why tells
redrive_words redrive.CallsSpent tells = cc
redrive_words redrive.DiskFault tells = cc
redrive_words redrive.DestFault tells = cc
redrive_words (redrive.Changed change) tells = cc
redrive_words (redrive.BadLine index) tells = cc

unrun_words : {S D F : Type 0} (m : DiskMeaning D) (a : Asks D) (h : List Entry) (old new : Seen S D F) (text : List ℕ) → HasNotRun m a h old new text ending.BadWords → ⊥
unrun_words m a h old new text none = elim none.why [ inl files ↦ files_words files.why files.tells | inr mapping ↦ mapping_words mapping.why mapping.tells ]

replay_cause_words : {S D F : Type 0} (o : RunTells S D F) (config : List ℕ) (calls : ℕ) (traced : Bool) (h : List Entry) (old new : Seen S D F) (text : List ℕ) → ReplayCause o config calls traced h old new text ending.BadWords → ⊥
replay_cause_words o config calls traced h old new text (inl none) = unrun_words o.run.disk (replay_asks config) h old new text none
replay_cause_words o config calls traced h old new text (inr run) = replay_words run.end run.tells

redrive_cause_words : {S D F : Type 0} (o : RunTells S D F) (w : RedriveWords) (h : List Entry) (old new : Seen S D F) (text : List ℕ) → RedriveCause o w h old new text ending.BadWords → ⊥
redrive_cause_words o w h old new text (inl none) = unrun_words o.run.disk (redrive_asks w) h old new text none
redrive_cause_words o w h old new text (inr (inl refused)) = redrive_words (redrive.BadLine refused.index) refused.tells
redrive_cause_words o w h old new text (inr (inr run)) = redrive_words run.end_is run.tells

pub not_bad_replay_words : {S D F : Type 0} (o : RunTells S D F) (config : List ℕ) (calls : ℕ) (traced : Bool) (h : List Entry) (old new : Seen S D F) → HasCome (ReplayCause o config calls traced h old new) ending.BadWords → ⊥
not_bad_replay_words o config calls traced h old new ended = replay_cause_words o config calls traced h old new ended.text ended.cause_is

pub not_bad_redrive_words : {S D F : Type 0} (o : RunTells S D F) (w : RedriveWords) (h : List Entry) (old new : Seen S D F) → HasCome (RedriveCause o w h old new) ending.BadWords → ⊥
not_bad_redrive_words o w h old new ended = redrive_cause_words o w h old new ended.text ended.cause_is

pub not_bad_words : {S D F : Type 0} (o : RunTells S D F) (r : RunWords) (h : List Entry) (old new : Seen S D F) → RunEnded o r h old new ending.BadWords → ⊥
not_bad_words o r h old new ended = cause_words o r h old new ended.text ended.cause_is
