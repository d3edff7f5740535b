-- When `ddb` ends with nothing left, if no device fails. This product's own.
use Rattle.std.specs.Prelude.{◌≡◌, ◌≤◌, ℕ, true, List, None, Some}
use Rattle.esm_ddb.specs.Translating.{source_of}
use Rattle.esm_ddb.specs.Translation.{translation_of}
use Rattle.esm_input.specs.Reading.{IsGood}
use Rattle.esm_mapping.specs.Named.{IsExpected}
use Rattle.esm_mapping.specs.declared.expected.Expected.TheVariants.{DynamoDb}
use Rattle.esm_mapping.specs.declared.named.NamedMapping.{NamedMapping}
use Rattle.esm_model.specs.CallBound.{call_bound}
use Rattle.esm_model.specs.Setting.{Setting}
use Rattle.esm_model.specs.declared.entry.Entry.{Entry}
use Rattle.esm_model.specs.declared.item.LineKind.TheVariants.{Stream}
use Rattle.esm_run.specs.Answers.{AreGoodFiles}
use Rattle.esm_run.specs.Completes.{HaveKeptNumbers, IsSettingOver, records_given}
use Rattle.esm_run.specs.World.{RunTells, Seen}

-- the lines of a stream's input into which the input's bytes are turned
abbrev pub lines_given : NamedMapping → List ℕ → List ℕ
lines_given mapping bytes = (translation_of (source_of mapping.config) bytes).text

-- The conditions: a mapping of a table's stream that may run, with finite retries; good files; an input each of whose lines
-- is a change or blank, and whose turned lines are a good input within the limits with the sequence numbers that the journal
-- kept; and as many calls as the bound of this run's history.
pub record MayComplete {S D F : Type 0} (o : RunTells S D F) (config : List ℕ) (calls : ℕ) (h : List Entry) (old : Seen S D F) : Type 0 where
  pub mapping : NamedMapping
  pub named : IsExpected DynamoDb config mapping
  pub good : AreGoodFiles o.run.disk old.disks
  pub bytes : List ℕ
  pub input : o.left old.input ≡ Some bytes
  pub good_lines : (translation_of (source_of mapping.config) bytes).bad ≡ None
  pub good_input : IsGood Stream mapping.config.factor true (lines_given mapping bytes)
  pub kept_numbers : HaveKeptNumbers good.payloads.payloads (records_given mapping (lines_given mapping bytes))
  pub retries : ℕ
  pub finite : mapping.config.retries ≡ Some retries
  pub enough : (s : Setting) → IsSettingOver mapping.config calls good.payloads.payloads (records_given mapping (lines_given mapping bytes)) s → call_bound s h ≤ calls
