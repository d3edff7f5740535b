-- Each call of `ddb` is of exactly the elements of its batch.
use Rattle.std.proofs.Common.{◌≡◌, ◌∙◌, ◌⊎◌, ◌++◌, ℕ, Bool, true, List, Option, ap, inl, inr, refl, subst, sym}
use Rattle.std.specs.Prelude.{◌==◌, ◌&&◌, find, option_map}
use Rattle.esm_cli.specs.declared.command.Command.TheVariants as command
use Rattle.esm_ddb.specs.BatchEvents.{AreRecordsOfChanges, AreStates, AreStatesOfWindows, HaveTheirElements, HaveTheirElementsRunning}
use Rattle.esm_ddb.specs.GoesOn.{IsWholeOfFront}
use Rattle.esm_ddb.specs.LineByLine.{AreOfChanges, HasRecordsOfLines}
use Rattle.esm_ddb.specs.RunEvent.{HasSourceOfBytes}
use Rattle.esm_ddb.specs.Translating.{source_of}
use Rattle.esm_ddb.specs.Translation.{translation_of}
use Rattle.esm_ddb.specs.TurnedInput.{EndsSo, IsTurnedInput}
use Rattle.esm_ddb.specs.declared.input.InputTurned.{InputTurned}
use Rattle.esm_ddb.specs.declared.input.InputTurned.TheVariants as ends
use Rattle.esm_ddb.specs.declared.source.Source.{Source}
use Rattle.esm_folder.specs.Upkeep.{AreHonest}
use Rattle.esm_ingest.specs.Coming.{of_shard}
use Rattle.esm_input.specs.Positions.{from_start}
use Rattle.esm_input.specs.Reading.{handed, items_read}
use Rattle.esm_io.specs.Meanings.{DiskMeaning}
use Rattle.esm_io.specs.Told.{TakesFront}
use Rattle.esm_life.specs.Life.{IsLife, Run, Stage, content}
use Rattle.esm_life.specs.Streams.{IsFoundAgain, OpensToLife}
use Rattle.esm_mapping.specs.Expected.{is_expected}
use Rattle.esm_mapping.specs.Named.{IsConfigOf, IsExpected}
use Rattle.esm_mapping.specs.declared.expected.Expected.TheVariants.{DynamoDb}
use Rattle.esm_mapping.specs.declared.named.NamedMapping.{NamedMapping}
use Rattle.esm_model.specs.Setting.{Setting, found_state, records_of}
use Rattle.esm_model.specs.Step.{Legal}
use Rattle.esm_model.specs.Valid.{IsStreamConfig, is_stream}
use Rattle.esm_model.specs.Windows.{has_windows}
use Rattle.esm_model.specs.declared.config.Config.{Config}
use Rattle.esm_model.specs.declared.entry.Entry.{Entry}
use Rattle.esm_model.specs.declared.item.Item.{Item}
use Rattle.esm_model.specs.declared.item.LineKind.TheVariants as kinds
use Rattle.esm_model.specs.Records.{Record}
use Rattle.esm_model.specs.declared.setup.FoundState.{FoundState}
use Rattle.esm_program_life.specs.DdbElements.{HasSentElements, RunSendsElements, SaysStates, SendsElements, SentElements, StageSendsElements}
use Rattle.esm_program_life.specs.Reads.{HasRead, NothingHappened}
use Rattle.esm_program_life.specs.Streams.{IsSaid}
use Rattle.esm_program_life.proofs.DdbRecords.{changes_come}
use Rattle.esm_program_life.proofs.DdbStates.{found_reads}
use Rattle.esm_program_life.proofs.ReadInputs.{all_read}
use Rattle.esm_program_life.proofs.StreamCommands.{OneCommand, by_status, ended_so}
use Rattle.esm_report.specs.declared.ending.Ending.{Ending}
use Rattle.esm_run.specs.Answers.{IsUntouched}
use Rattle.esm_run.specs.Built.{SpellsBuilt}
use Rattle.esm_run.specs.Ddb.{DdbCause, IsDdbCut, IsStoppedDdb, all_left, never_fails}
use Rattle.esm_run.specs.World.{DevicesTell, RunTells, Seen, history, of_run, seen}
use Rattle.esm_run.specs.declared.world.World.{World}
use Rattle.esm_runner.specs.Coming.{records_in_items}
use Rattle.esm_runner.specs.Files.{FilesState, IsOpenedFiles}
use Rattle.esm_runner.specs.Headline.{IsSettingOf}

-- of a mapping that the command runs

mapping_stream : (c : Config) → is_expected DynamoDb c.kind ≡ true → IsConfigOf (is_stream c.kind) c → IsStreamConfig c
mapping_stream c kind valid = subst (λ (b : Bool). IsConfigOf b c) kind valid

pub stream_of : (config : List ℕ) (mapping : NamedMapping) → IsExpected DynamoDb config mapping → IsStreamConfig mapping.config
stream_of config mapping named = mapping_stream mapping.config named.0.kind named.1.valid

-- what was read of the turned lines where want of memory stopped the run

read_short : (mapping : NamedMapping) (lines rest bytes more : List ℕ) (whole : Bool) (status : ℕ) → status ≡ 70 → TakesFront (all_left lines) (all_left rest) (bytes ++ more)
    → HasRead all_left kinds.Stream mapping.config.factor mapping.start status lines rest (from_start mapping.start (items_read kinds.Stream mapping.config.factor whole bytes).items)
read_short mapping lines rest bytes more whole status short taken = record {
  bytes = bytes;
  more = more;
  whole = whole;
  taken = taken;
  items_are = refl;
  no_more = λ known. absurd (known short);
  at_end = λ known end. absurd (known short);
}

-- what the journal said when the files were opened

said_found : {D : Type 0} (f : FilesState D) (s : Setting) → s.states ≡ f.said.states → (k w : ℕ) → found_state s k w ≡ option_map (λ (x : FoundState). x.text) (find (λ (x : FoundState). (x.shard == k) && (x.window == w)) f.said.states)
said_found f s same k w = ap (λ (fs : List FoundState). option_map (λ (x : FoundState). x.text) (find (λ (x : FoundState). (x.shard == k) && (x.window == w)) fs)) same

files_found : {D : Type 0} (m : DiskMeaning D) (f : FilesState D) (config : Config) (calls : ℕ) (records : List Record) (s : Setting) → IsOpenedFiles m f → IsSettingOf config calls f.said records s → (has_windows config ≡ true → SaysStates f.pair.payloads) → AreStatesOfWindows s
files_found m f config calls records s opened is says windows k w state at =
    let same : s.config ≡ config = ap (λ (x : Setting). x.config) is.opened in
    let states : s.states ≡ f.said.states = ap (λ (x : Setting). x.states) is.opened in
    says (ap (λ (x : Config). has_windows x) (sym same) ∙ windows) k w state (sym (said_found f s states k w ∙ opened.tells.states k w) ∙ at)

module _ (whole : IsWholeOfFront) (of_lines : HasRecordsOfLines) (of_changes : AreOfChanges) (of_bytes : HasSourceOfBytes) (elements : HaveTheirElements) (running : HaveTheirElementsRunning) where
  -- whatever ended the reading of the input, its lines became all that these bytes become
  turned_of : {S : Type 0} (faults : S → ℕ) (left : S → Option (List ℕ)) (s : Source) (old new : S) (taken text : List ℕ) (end : InputTurned)
      → EndsSo faults left s old new taken text end → (bytes : List ℕ) × (text ≡ (translation_of s bytes).text)
  turned_of faults left s old new taken text ends.Ended e = (taken, e.1.text_is)
  turned_of faults left s old new taken text (ends.BadLine line) e = (taken, e.0.text_is)
  turned_of faults left s old new taken text ends.Failed e = let up = whole s taken in (up.0.front, e.1.text_is ∙ sym up.1)

  -- over a setting that the turned lines of an input make
  sent : {S : Type 0} (faults : S → ℕ) (left : S → Option (List ℕ)) (old new : S) (config : List ℕ) (mapping : NamedMapping) (lines : List ℕ) (reading : InputTurned) (rest : List ℕ) (status : ℕ) (items : List Item) (sends : List ℕ → List ℕ) (s : Setting) (h : List Entry)
      → IsExpected DynamoDb config mapping → IsTurnedInput faults left (source_of mapping.config) old new lines reading → HasRead all_left kinds.Stream mapping.config.factor mapping.start status lines rest items
      → s.config ≡ mapping.config → ((n : ℕ) → (others : List Record) × (of_shard n (records_in_items items) ≡ records_of s n ++ others)) → Legal s h → AreStatesOfWindows s → SentElements sends s h
  sent faults left old new config mapping lines reading rest status items sends s h named is_turned read same came legal found =
      let c : Config = mapping.config in
      let t = turned_of faults left (source_of c) old new is_turned.bytes lines reading is_turned.ended in
      let own : IsStreamConfig c = stream_of config mapping named in
      let stream : IsStreamConfig s.config = subst IsStreamConfig (sym same) own in
      let records : AreRecordsOfChanges s = changes_come of_lines of_changes c t.0 lines rest mapping.start c.factor status items s (of_bytes c own) t.1 read same came in
      record { ended = elements s sends h legal stream found records; running = running s h legal stream found records }

  -- a run, and one that want of memory stopped

  pub run_sends : {S D F : Type 0} (o : RunTells S D F) (config : List ℕ) (n : ℕ) (traced : Bool) (h : List Entry) (old new : Seen S D F) (text : List ℕ) (ending : Ending) → RunSendsElements o config n traced h old new text ending
  run_sends o config n traced h old new text ending run says =
      let c : Config = run.mapping.config in
      sent o.faults o.left old.input new.input config run.mapping run.lines run.reading run.rest 0 (handed run.input) o.run.callers.sends run.setting h run.ready.named run.is_turned
      (all_read never_fails all_left 0 kinds.Stream c.factor run.mapping.start run.lines run.rest run.input run.is_input.kind run.is_input.factor run.is_input.start_is run.is_input.found run.is_input.source run.is_input.read)
      (ap (λ (x : Setting). x.config) run.is_setting.opened) run.is_setting.came (run.headline.legal_trace run.setting.streams (λ m i r e. e))
      (files_found o.run.disk run.files c n (records_in_items (handed run.input)) run.setting run.ready.opened run.is_setting says)

  stopped_sends : {S D F : Type 0} (o : RunTells S D F) (config : List ℕ) (n : ℕ) (h : List Entry) (old new : Seen S D F) (stop : IsStoppedDdb o config n h old new)
      → (has_windows stop.mapping.config ≡ true → SaysStates stop.files.pair.payloads) → SentElements o.run.callers.sends stop.run.setting h
  stopped_sends o config n h old new stop says =
      let c : Config = stop.mapping.config in
      let run = stop.run in
      let items : List Item = from_start stop.mapping.start (items_read kinds.Stream c.factor run.whole run.bytes).items in
      sent o.faults o.left old.input new.input config stop.mapping stop.lines stop.reading stop.rest 70 items o.run.callers.sends run.setting h stop.ready.named stop.is_turned
      (read_short stop.mapping stop.lines stop.rest run.bytes run.more run.whole 70 refl run.taken)
      (ap (λ (x : Setting). x.config) run.is_setting.opened) run.is_setting.came (run.headline.legal_trace run.setting.streams (λ m i r e. e))
      (files_found o.run.disk stop.files c n (records_in_items items) run.setting stop.ready.opened run.is_setting says)

  module _ (life_says : (life : List Stage) → IsLife life → SaysStates (content life)) where
    -- a stage of a life

    pub stage_sends : {S K D C F L N : Type 0} (t : DevicesTell S K D F L N) (config : List ℕ) (n timeout : ℕ) (traced : Bool) (old new : World S K D C F L) (status : ℕ) (life : List Stage) (run : Run)
        → StageSendsElements t config n timeout traced old new status life run
    stage_sends t config n timeout traced old new status life run is added =
        let found : AreStates run.setting = found_reads run.setting (content life) is.1.opened (life_says life is.0) in
        sent t.input_faults t.left old.input new.input config added.mapping added.read.lines added.read.reading added.read.rest status added.items t.sends run.setting run.happened added.named added.read.is_turned added.read.read added.config_is added.came
        is.1.legal (λ windows. found)

    -- files that were opened over a journal that opens to a life
    files_say : {D : Type 0} (m : DiskMeaning D) → ((f : FilesState D) (life : List Stage) (epoch : ℕ) → IsFoundAgain m f life epoch) → (f : FilesState D) (journal spare : D) (life : List Stage) (epoch : ℕ) → f.journal ≡ journal → f.spare ≡ spare → IsOpenedFiles m f
        → AreHonest m journal spare → OpensToLife life epoch (m.content journal) (m.content spare) → SaysStates f.pair.payloads
    files_say {D} m found_again f journal spare life epoch journal_is spare_is opened honest opens =
        let honest_so : AreHonest m f.journal f.spare = subst (λ (d : D). AreHonest m d f.spare) (sym journal_is) (subst (λ (d : D). AreHonest m journal d) (sym spare_is) honest) in
        let opens_so : OpensToLife life epoch (m.content f.journal) (m.content f.spare) =
        subst (λ (d : D). OpensToLife life epoch (m.content d) (m.content f.spare)) (sym journal_is) (subst (λ (d : D). OpensToLife life epoch (m.content journal) (m.content d)) (sym spare_is) opens) in
        let found = found_again f life epoch opened honest_so opens_so in
        subst SaysStates (sym found.1) (life_says life found.0)

    -- by the words

    module _ {S K D C F L N : Type 0} (t : DevicesTell S K D F L N) (one : OneCommand) (found_again : (f : FilesState D) (life : List Stage) (epoch : ℕ) → IsFoundAgain t.disk f life epoch) where
      module _ (config : List ℕ) (n : ℕ) (traced : Bool) (old new : World S K D C F L) (status : ℕ) (life : List Stage) (epoch : ℕ) (honest : AreHonest t.disk old.journal old.spare) (opens : OpensToLife life epoch (t.disk.content old.journal) (t.disk.content old.spare)) where
        abbrev Sent : Type 0
        Sent = NothingHappened old new ⊎ HasSentElements t config n status old new

        unbegun : IsUntouched (history new) (seen old) (seen new) → Sent
        unbegun untouched = inl (record { no_trace = untouched.no_trace; uncalled = untouched.uncalled })

        caused : (text : List ℕ) (e : Ending) → DdbCause (of_run t) config n traced (history new) (seen old) (seen new) text e → Sent
        caused text e (inl none) = unbegun none.unbegun.untouched
        caused text e (inr run) = inr (record {
          mapping = run.mapping;
          named = run.ready.named;
          setting = run.setting;
          config_is = ap (λ (x : Setting). x.config) run.is_setting.opened;
          calls_are = ap (λ (x : Setting). x.calls) run.is_setting.opened;
          items = handed run.input;
          read = record {
            lines = run.lines;
            reading = run.reading;
            is_turned = run.is_turned;
            rest = run.rest;
            read = all_read never_fails all_left status kinds.Stream run.mapping.config.factor run.mapping.start run.lines run.rest run.input run.is_input.kind run.is_input.factor run.is_input.start_is run.is_input.found run.is_input.source run.is_input.read;
          };
          came = run.is_setting.came;
          legal = run.headline.legal_trace run.setting.streams (λ m i r at. at);
          calls_made = λ k d low. inl (run.headline.calls_made k d low);
          calls_ended = λ known. run.headline.calls_made;
          elements = run_sends (of_run t) config n traced (history new) (seen old) (seen new) text e run
              (λ windows. files_say t.disk found_again run.files old.journal old.spare life epoch run.ready.journal run.ready.spare run.ready.opened honest opens);
        })

        stopped : status ≡ 70 → IsDdbCut (of_run t) config n traced (history new) (seen old) (seen new) → Sent
        stopped short (inl none) = unbegun none.untouched
        stopped short (inr (inl turning)) = inl (record { no_trace = turning.no_trace; uncalled = turning.uncalled })
        stopped short (inr (inr (inl stop))) = inr (record {
          mapping = stop.mapping;
          named = stop.ready.named;
          setting = stop.run.setting;
          config_is = ap (λ (x : Setting). x.config) stop.run.is_setting.opened;
          calls_are = ap (λ (x : Setting). x.calls) stop.run.is_setting.opened;
          items = from_start stop.mapping.start (items_read kinds.Stream stop.mapping.config.factor stop.run.whole stop.run.bytes).items;
          read = record { lines = stop.lines; reading = stop.reading; is_turned = stop.is_turned; rest = stop.rest; read = read_short stop.mapping stop.lines stop.rest stop.run.bytes stop.run.more stop.run.whole status short stop.run.taken };
          came = stop.run.is_setting.came;
          legal = stop.run.headline.legal_trace stop.run.setting.streams (λ m i r at. at);
          calls_made = stop.run.calls_made;
          calls_ended = λ known. absurd (known short);
          elements = stopped_sends (of_run t) config n (history new) (seen old) (seen new) stop
              (λ windows. files_say t.disk found_again stop.files old.journal old.spare life epoch stop.ready.journal stop.ready.spare stop.ready.opened honest opens);
        })
        stopped short (inr (inr (inr ended))) = caused ended.1.text ended.0 ended.1.cause_is

      pub words_send : (words : List (List ℕ)) (old new : World S K D C F L) (status : ℕ) (config : List ℕ) (n timeout : ℕ) (traced : Bool) (life : List Stage) (epoch : ℕ) → IsSaid t words old new status → SpellsBuilt words (command.Ddb config n timeout traced)
          → SendsElements t config n old new status life epoch
      words_send words old new status config n timeout traced life epoch said spelled honest opens =
          by_status status (Sent config n traced old new status life epoch honest opens)
          (λ short. stopped config n traced old new status life epoch honest opens short ((said.want_of_memory short).each (command.Ddb config n timeout traced) spelled))
          (λ known.
          let told = ended_so t words old new status said one (command.Ddb config n timeout traced) spelled known in
          caused config n traced old new status life epoch honest opens told.ended.text told.ending told.ended.cause_is)
