-- When the options of `run` end with nothing left, or with their calls spent, if no device fails. This product's own.
use Rattle.std.specs.Prelude.{◌≡◌, ◌≤◌, ℕ, true, false, List, Some, reverse, slice_get}
use Rattle.esm_cli.specs.declared.command.RunWords.{RunWords}
use Rattle.esm_ingest.specs.Coming.{of_shard}
use Rattle.esm_input.specs.Positions.{from_start}
use Rattle.esm_input.specs.Reading.{IsGood, items_read}
use Rattle.esm_journal_state.specs.declared.kept.KeptFate.{KeptFate}
use Rattle.esm_journal_state.specs.declared.kept.KeptTries.{KeptTries}
use Rattle.esm_journal_state.specs.Meaning.{fate_said, history, tries_said}
use Rattle.esm_journal_state.specs.SaidLists.{SaidLists}
use Rattle.esm_journal_state.specs.Tells.{Tells}
use Rattle.esm_ledger.specs.Ledger.{opened_with}
use Rattle.esm_mapping.specs.declared.named.NamedMapping.{NamedMapping}
use Rattle.esm_mapping.specs.Named.{IsNamed}
use Rattle.esm_model.specs.CallBound.{call_bound}
use Rattle.esm_model.specs.Setting.{Setting, over, records_of}
use Rattle.esm_model.specs.Valid.{is_stream}
use Rattle.esm_model.specs.declared.config.Config.{Config}
use Rattle.esm_model.specs.declared.entry.Entry.{Entry}
use Rattle.esm_model.specs.declared.item.LineKind.TheVariants as kinds
use Rattle.esm_model.specs.Records.{Record}
use Rattle.esm_runner.specs.Coming.{records_in_items}
use Rattle.esm_runner.specs.QueueEnded.{line_kind}
use Rattle.esm_run.specs.Answers.{AreGoodFiles}
use Rattle.esm_run.specs.Redrive.{HaveKeptIds, messages_given}
use Rattle.esm_run.specs.World.{RunTells, Seen}

-- a stream's mapping

-- the records of the lines of these bytes, from the mapping's starting position on
abbrev pub records_given : NamedMapping → List ℕ → List Record
records_given mapping bytes = records_in_items (from_start mapping.start (items_read kinds.Stream mapping.config.factor true bytes).items)

-- each record for which these payloads have a fate, or tries, has the sequence number that they kept of it
pub record HaveKeptNumbers (payloads : List (List ℕ)) (records : List Record) : Type 0 where
  pub of_fates : (n i : ℕ) (r : Record) (k : KeptFate) → slice_get (of_shard n records) i ≡ Some r → fate_said (history (reverse payloads)) n i ≡ Some k → r.seq ≡ k.text
  pub of_tries : (n i : ℕ) (r : Record) (k : KeptTries) → slice_get (of_shard n records) i ≡ Some r → tries_said (history (reverse payloads)) n i ≡ Some k → r.seq ≡ k.text

-- the setting given by the configuration, the calls allowed, what the payloads say and these records
pub record IsSettingOver (config : Config) (calls : ℕ) (payloads : List (List ℕ)) (records : List Record) (s : Setting) : Type 0 where
  pub said : SaidLists
  pub tells : Tells said (history (reverse payloads))
  pub opened : s ≡ over (opened_with config calls said) s.streams
  pub lists : (n : ℕ) → records_of s n ≡ of_shard n records

-- The conditions for nothing to be left: a stream's mapping that may run, with finite retries; good files; a good input
-- within the limits, whose records have the sequence numbers that the journal kept; and as many calls as the bound of this
-- run's history.
pub record MayComplete {S D F : Type 0} (o : RunTells S D F) (r : RunWords) (h : List Entry) (old : Seen S D F) : Type 0 where
  pub mapping : NamedMapping
  pub named : IsNamed o.run.disk r.which old.disks.registry mapping
  pub kind : is_stream mapping.config.kind ≡ true
  pub good : AreGoodFiles o.run.disk old.disks
  pub bytes : List ℕ
  pub input : o.left old.input ≡ Some bytes
  pub good_input : IsGood kinds.Stream mapping.config.factor true bytes
  pub kept_numbers : HaveKeptNumbers good.payloads.payloads (records_given mapping bytes)
  pub retries : ℕ
  pub finite : mapping.config.retries ≡ Some retries
  pub enough : (s : Setting) → IsSettingOver mapping.config r.calls good.payloads.payloads (records_given mapping bytes) s → call_bound s h ≤ r.calls

-- a queue's mapping

-- The conditions for nothing to be left, or the calls to be spent: a queue's mapping that may run; good files; and a good
-- input within the limits, whose messages have the ids that the journal kept.
pub record MayFinish {S D F : Type 0} (o : RunTells S D F) (r : RunWords) (old : Seen S D F) : Type 0 where
  pub mapping : NamedMapping
  pub named : IsNamed o.run.disk r.which old.disks.registry mapping
  pub kind : is_stream mapping.config.kind ≡ false
  pub good : AreGoodFiles o.run.disk old.disks
  pub bytes : List ℕ
  pub input : o.left old.input ≡ Some bytes
  pub good_input : IsGood (line_kind mapping.config) mapping.config.factor true bytes
  pub kept_ids : HaveKeptIds good.payloads.payloads (messages_given mapping.config bytes)
