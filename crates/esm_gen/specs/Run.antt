-- What the run of a generated stream leaves. This product's own.
use Rattle.std.specs.Prelude.{◌≡◌, ◌<◌, ◌++◌, ℕ, Bool, true, List, [], length}
use Rattle.esm_ingest.specs.Coming.{of_shard}
use Rattle.esm_gen.specs.Generated.{generated_lines, generated_mapping, generated_records}
use Rattle.esm_input.specs.Reading.{items_read}
use Rattle.esm_ledger.specs.Ledger.{LegalOver}
use Rattle.esm_model.specs.declared.entry.Entry.{Entry}
use Rattle.esm_model.specs.Records.{Record}
use Rattle.esm_model.specs.declared.limits.TheConstants.{MAX_LANES}
use Rattle.esm_model.specs.Calls.{calls}
use Rattle.esm_model.specs.Entries.{came_count, is_shut}
use Rattle.esm_model.specs.Laws.{EveryRecordCounted, NoRepeat, OrderPerKey}
use Rattle.esm_model.specs.Setting.{Setting, Stream, records_of}
use Rattle.esm_runner.specs.Coming.{records_in_items}
use Rattle.esm_runner.specs.Ran.{AllFated}
use Rattle.esm_runner.specs.Ran.{NoneRuns}
use Rattle.esm_model.specs.declared.item.LineKind.TheVariants as kinds
use Rattle.esm_gen.specs.declared.run.TheConstants.{CALLS}
use Rattle.esm_gen.specs.Function.{AreAnswered}
use Rattle.esm_gen.specs.Report.{generated_report}

-- the generated mapping, and a journal that says nothing
abbrev pub generated_setting : List Stream → Setting
generated_setting streams = record { config = generated_mapping; calls = CALLS; streams = streams; fates = []; tries = []; states = []; window_tries = [] }

-- of each shard, the records that arrived are a prefix of those in a prefix of the input
pub record HaveCome (records : ℕ) (s : Setting) : Type 0 where
  pub bytes : List ℕ
  pub rest : List ℕ
  pub front : generated_lines records ≡ bytes ++ rest
  pub whole : Bool
  pub came : (n : ℕ) → (more : List Record) × (of_shard n (records_in_items (items_read kinds.Stream generated_mapping.factor whole bytes).items) ≡ records_of s n ++ more)

-- the calls of each batcher, in the history, have the function's replies to their events
abbrev pub AreReplies : Setting → List Entry → Type 0
AreReplies s h = (k : ℕ) → k < MAX_LANES → AreAnswered (calls s (λ event. event) h k)

-- the history (newest entry first) of a run over the first `records` records of a generated stream, over this setting
pub record IsRunOver (records : ℕ) (s : Setting) (h : List Entry) : Type 0 where
  pub setting : s ≡ generated_setting s.streams
  pub have_come : HaveCome records s
  -- each entry may follow those before it, over every list of records that extends those that arrived
  pub legal_trace : LegalOver s h
  pub order_per_key : OrderPerKey s h
  pub no_repeat : NoRepeat s h
  pub every_record_counted : EveryRecordCounted s h
  pub replies : AreReplies s h

-- all generated records arrived, the end of the input was noted, every call has ended, and each record has its fate
pub record IsWhole (records : ℕ) (s : Setting) (h : List Entry) : Type 0 where
  pub lists : (n : ℕ) → records_of s n ≡ of_shard n (generated_records records)
  pub came : (n : ℕ) → came_count h n ≡ length (records_of s n)
  pub shut : is_shut h ≡ true
  pub rests : NoneRuns h
  pub fated : AllFated s h

pub record HasRun (records : ℕ) (h : List Entry) : Type 0 where
  pub setting : Setting
  pub run : IsRunOver records setting h

pub record HasFinished (records : ℕ) (h : List Entry) : Type 0 where
  pub setting : Setting
  pub run : IsRunOver records setting h
  pub is_whole : IsWhole records setting h

-- and this is its report
pub record HasTold (records : ℕ) (h : List Entry) (text : List ℕ) : Type 0 where
  pub finished : HasFinished records h
  pub text_is : text ≡ generated_report finished.setting h
