-- What the run of a stream's mapping tells where its mapping, files, input and callers are those of a generated stream.
use Rattle.std.proofs.Common.{◌≡◌, ℕ, ◌<◌, true, false, List, [], ◌∷◌, ◌++◌, length, map, Option, Some, None, Result, Ok, Err, refl, sym, ap, subst, ◌∙◌, append_assoc, append-nil, inl, inr, arith}
use Rattle.std.specs.Prelude.{IfOk, OnErr, slice_index_or}
use Rattle.std.specs.List.{All}
use Rattle.std.proofs.lemmas.List.{take_at}
use Rattle.std.proofs.lemmas.List.Elements.{All-take}
use Rattle.esm_ingest.specs.Coming.{of_shard}
use Rattle.esm_gen.specs.Generated.{generated_lines, generated_mapping, generated_records}
use Rattle.esm_gen.specs.Reads.{ReadsAs}
use Rattle.esm_input.specs.Reading.{InputState, handed, items_read}
use Rattle.esm_input.specs.declared.ending.InputEnd.{InputEnd}
use Rattle.esm_input.specs.declared.ending.InputEnd.TheVariants.{End}
use Rattle.esm_io.specs.Caller.{CallerState, new_caller}
use Rattle.esm_io.specs.Forms.{SourceState}
use Rattle.esm_io.specs.Told.{Grows, IsAtEnd, TakesFront}
use Rattle.esm_io.specs.declared.script.Script.TheVariants.{Poison}
use Rattle.esm_ledger.specs.Ledger.{opened_with}
use Rattle.esm_model.specs.declared.called.Called.{Called}
use Rattle.esm_model.specs.declared.config.Config.{Config}
use Rattle.esm_model.specs.declared.config.Start.TheVariants.{TrimHorizon}
use Rattle.esm_model.specs.declared.entry.Entry.{Entry}
use Rattle.esm_model.specs.Records.{Record}
use Rattle.esm_model.specs.declared.limits.TheConstants.{MAX_LANES}
use Rattle.esm_model.specs.declared.memory.OutOfMemory.{OutOfMemory}
use Rattle.esm_model.specs.Calls.{calls}
use Rattle.esm_model.specs.Setting.{Setting, Stream, over}
use Rattle.esm_runner.specs.Coming.{records_in_items}
use Rattle.esm_runner.specs.Stopping.{HasLogged}
use Rattle.esm_record.specs.Input.{input_of}
use Rattle.esm_model.specs.declared.item.Item.{Item}
use Rattle.esm_model.specs.declared.item.Item.TheVariants as item
use Rattle.esm_model.specs.declared.item.LineKind.TheVariants as kinds
use Rattle.esm_journal_state.specs.SaidLists.{SaidLists}
use Rattle.esm_runner.specs.Ended.{HasEnded, HasStoppedRun, IsInputOf}
use Rattle.esm_runner.specs.Files.{FilesState}
use Rattle.esm_runner.specs.Headline.{Devices, Telling}
use Rattle.esm_runner.specs.declared.run.MappingEnd.{MappingEnd}
use Rattle.esm_runner.specs.declared.run.MappingEnd.TheVariants.{Finished}
use Rattle.esm_gen.specs.declared.run.TheConstants.{CALLS}
use Rattle.esm_gen.specs.Function.{AreAnswered, IsFunction, reply_to}
use Rattle.esm_gen.specs.Nothing.{SaysNothing}
use Rattle.esm_gen.specs.Run.{HasFinished, HasRun, HaveCome, IsRunOver, IsWhole, generated_setting}
use Rattle.esm_gen.proofs.Limits.{limited_all}

-- what the run began with, and that its callers are the function's
pub record Begins (records : ℕ) (config : Config) (said : SaidLists) (input : SourceState) (old new : List CallerState) : Type 0 where
  pub config_is : config ≡ generated_mapping
  pub says_nothing : SaysNothing said
  pub lines : input.left ≡ generated_lines records
  pub reads : ReadsAs input.left (generated_records records)
  pub count : length old ≡ MAX_LANES
  pub as_many : length new ≡ MAX_LANES
  pub unused : All (λ (f : CallerState). f.log ≡ []) old
  pub functions : All IsFunction new

-- what its input and its callers tell
abbrev pub left_of : SourceState → Option (List ℕ)
left_of s = Some s.left

abbrev pub log_of : CallerState → Option (List Called)
log_of f = Some f.log

abbrev pub sends_of : List ℕ → List ℕ
sends_of event = event

-- the setting

setting_is : (config : Config) (said : SaidLists) (streams : List Stream) → config ≡ generated_mapping → SaysNothing said
    → over (opened_with config CALLS said) streams ≡ generated_setting streams
setting_is config said streams e n = rw (e, n.fates, n.tries, n.states, n.window_tries) refl

-- the records that came

handed_is : (i : InputState SourceState) → i.kind ≡ kinds.Stream → i.factor ≡ generated_mapping.factor → i.start ≡ TrimHorizon
    → handed i ≡ (items_read kinds.Stream generated_mapping.factor i.whole i.bytes).items
handed_is i k f s = rw (k, f, s) refl

stream_records : (rs : List Record) → records_in_items (map item.Stream rs) ≡ rs
stream_records [] = refl
stream_records (r ∷ rs) = ap (λ (qs : List Record). r ∷ qs) (stream_records rs)

limited_records : (bytes : List ℕ) (rs : List Record) → (items_read kinds.Stream generated_mapping.factor true bytes).limit ≡ None → ReadsAs bytes rs
    → records_in_items (items_read kinds.Stream generated_mapping.factor true bytes).items ≡ rs
limited_records bytes rs none reads =
    ap records_in_items (limited_all generated_mapping.factor [] (input_of kinds.Stream bytes).items none ∙ reads.items) ∙ stream_records rs

-- the replies

front_answered : (a b : List Called) → AreAnswered (a ++ b) → AreAnswered a
front_answered a b all = subst (λ (cs : List Called). AreAnswered cs) (take_at a b (length a) refl) (All-take (λ (c : Called). c.reply ≡ reply_to c.event) (length a) (a ++ b) all)

module _ (old new : List CallerState) (count : length old ≡ MAX_LANES) (as_many : length new ≡ MAX_LANES) (unused : All (λ (f : CallerState). f.log ≡ []) old) (functions : All IsFunction new) where
  grown_answered : (k : ℕ) → k < MAX_LANES → (d : CallerState) (more : List Called) → Grows (log_of (slice_index_or old k d)) (log_of (slice_index_or new k d)) more → AreAnswered more
  grown_answered k below d more grows =
      let none : (slice_index_or old k d).log ≡ [] = unused k d (omega arith) in
      let same : (slice_index_or new k d).log ≡ (slice_index_or old k d).log ++ more = cc grows in
      let all : (slice_index_or new k d).log ≡ more = same ∙ ap (λ (log : List Called). log ++ more) none in
      subst (λ (log : List Called). AreAnswered log) all (functions k d (omega arith)).answered

  logged_answered : (s : Setting) (h : List Entry) (k : ℕ) → k < MAX_LANES → (d : CallerState)
      → HasLogged sends_of s h k (log_of (slice_index_or old k d)) (log_of (slice_index_or new k d)) → AreAnswered (calls s sends_of h k)
  logged_answered s h k below d (inl grows) = grown_answered k below d (calls s sends_of h k) grows
  logged_answered s h k below d (inr one) = front_answered (calls s sends_of h k) _ (grown_answered k below d _ one.logged)

-- a caller, where a list of them is too short
some_caller : CallerState
some_caller = new_caller (Poison []) [] false

module _ {D : Type 0} (t : Telling D CallerState) (faults : SourceState → ℕ) (left : SourceState → Option (List ℕ)) (records : ℕ) (config : Config) (f : FilesState D)
    (old_input new_input : SourceState) (reading : Option InputEnd) (old : List CallerState) (h : List Entry) (new : Devices D CallerState)
    (sends_is : t.callers.sends ≡ sends_of) (log_is : t.callers.log ≡ log_of) (left_is : left ≡ left_of)
    (b : Begins records config f.said old_input old new.callers) where
  read_front : (i : InputState SourceState) → IsInputOf faults left config TrimHorizon old_input new_input i
      → (rest : List ℕ) × (old_input.left ≡ i.bytes ++ rest) × (i.source.left ≡ rest)
  read_front i is =
      let taken = subst (λ (l : SourceState → Option (List ℕ)). TakesFront (l i.found) (l i.source) i.bytes) left_is is.read.taken in
      (taken.0, ap (λ (s : SourceState). s.left) (sym is.found) ∙ taken.1, cc taken.2)

  ended_came : (e : MappingEnd) (he : HasEnded t faults left config TrimHorizon CALLS f old_input new_input reading old h new e) → HaveCome records he.setting
  ended_came e he =
      let is = he.is_input in
      let i = he.input in
      let front = read_front i is in
      let handed_so = handed_is i is.kind (is.factor ∙ ap (λ (c : Config). c.factor) b.config_is) is.start_is in
      record {
        bytes = i.bytes;
        rest = front.0;
        front = sym b.lines ∙ front.1;
        whole = i.whole;
        came = λ n. let c = he.is_setting.came n in (c.0, ap (λ (items : List Item). of_shard n (records_in_items items)) (sym handed_so) ∙ c.1);
      }

  ended_over : (e : MappingEnd) (he : HasEnded t faults left config TrimHorizon CALLS f old_input new_input reading old h new e) → IsRunOver records he.setting h
  ended_over e he = record {
    setting = he.is_setting.opened ∙ setting_is config f.said he.setting.streams b.config_is b.says_nothing;
    have_come = ended_came e he;
    legal_trace = he.headline.legal_trace;
    order_per_key = he.headline.order_per_key;
    no_repeat = he.headline.no_repeat;
    every_record_counted = he.headline.every_record_counted;
    replies = λ k below.
        let made = he.calls_made k some_caller (subst (λ (n : ℕ). k < n) (sym b.count) below) in
        let grows = rw (sends_is, log_is) at made in
        grown_answered old new.callers b.count b.as_many b.unused b.functions k below some_caller (calls he.setting sends_of h k) grows;
  }

  stopped_came : (hs : HasStoppedRun t left config TrimHorizon CALLS f old_input new_input old h new) → HaveCome records hs.setting
  stopped_came hs =
      let taken = subst (λ (l : SourceState → Option (List ℕ)). TakesFront (l old_input) (l new_input) (hs.bytes ++ hs.more)) left_is hs.taken in
      record {
        bytes = hs.bytes;
        rest = hs.more ++ taken.0;
        front = sym b.lines ∙ taken.1 ∙ append_assoc hs.bytes hs.more taken.0;
        whole = hs.whole;
        came = λ n. let c = hs.is_setting.came n in
            (c.0, ap (λ (k : Config). of_shard n (records_in_items (items_read kinds.Stream k.factor hs.whole hs.bytes).items)) (sym b.config_is) ∙ c.1);
      }

  stopped_over : (hs : HasStoppedRun t left config TrimHorizon CALLS f old_input new_input old h new) → IsRunOver records hs.setting h
  stopped_over hs = record {
    setting = hs.is_setting.opened ∙ setting_is config f.said hs.setting.streams b.config_is b.says_nothing;
    have_come = stopped_came hs;
    legal_trace = hs.headline.legal_trace;
    order_per_key = hs.headline.order_per_key;
    no_repeat = hs.headline.no_repeat;
    every_record_counted = hs.headline.every_record_counted;
    replies = λ k below.
        let made = hs.calls_made k some_caller (subst (λ (n : ℕ). k < n) (sym b.count) below) in
        let logged = rw (sends_is, log_is) at made in
        logged_answered old new.callers b.count b.as_many b.unused b.functions hs.setting h k below some_caller logged;
  }

  run_over : (r : Result MappingEnd OutOfMemory) → IfOk r (HasEnded t faults left config TrimHorizon CALLS f old_input new_input reading old h new)
      → OnErr r (HasStoppedRun t left config TrimHorizon CALLS f old_input new_input old h new) → HasRun records h
  run_over (Ok e) he hs = record { setting = he.setting; run = ended_over e he }
  run_over (Err why) he hs = record { setting = hs.setting; run = stopped_over hs }

  ended_whole : (he : HasEnded t faults left config TrimHorizon CALLS f old_input new_input reading old h new (Finished End)) → IsWhole records he.setting h
  ended_whole he =
      let is = he.is_input in
      let i = he.input in
      let cause = he.cause in
      let stands = rw (he.read_to ∙ cause.1) at (is.read.stands is.good) in
      let front = read_front i is in
      let end = subst (λ (l : SourceState → Option (List ℕ)). IsAtEnd (l i.source)) left_is (is.read.at_end stands.0) in
      let bytes_are : old_input.left ≡ i.bytes = front.1 ∙ ap (λ (rest : List ℕ). i.bytes ++ rest) (sym front.2 ∙ end) ∙ append-nil i.bytes in
      let factor = is.factor ∙ ap (λ (c : Config). c.factor) b.config_is in
      let none : (items_read kinds.Stream generated_mapping.factor true old_input.left).limit ≡ None = rw (is.kind, factor, stands.0, ← bytes_are) at stands.1.no_limit in
      let items : handed i ≡ (items_read kinds.Stream generated_mapping.factor true old_input.left).items =
      handed_is i is.kind factor is.start_is ∙ rw (stands.0, ← bytes_are) refl in
      let same : records_in_items (handed i) ≡ generated_records records = ap records_in_items items ∙ limited_records old_input.left (generated_records records) none b.reads in
      record {
        lists = λ n. cause.0.lists n ∙ ap (of_shard n) same;
        came = cause.0.came;
        shut = cause.0.shut;
        rests = he.rests;
        fated = cause.2;
      }

  run_whole : (r : Result MappingEnd OutOfMemory) → IfOk r (HasEnded t faults left config TrimHorizon CALLS f old_input new_input reading old h new)
      → r ≡ Ok (Finished End) → HasFinished records h
  run_whole r ended done =
      let he : HasEnded t faults left config TrimHorizon CALLS f old_input new_input reading old h new (Finished End) = rw done at ended in
      record { setting = he.setting; run = ended_over (Finished End) he; is_whole = ended_whole he }

-- with the arguments in the order in which a call of the run tells them

pub has_run : {D : Type 0} (t : Telling D CallerState) (faults : SourceState → ℕ) (left : SourceState → Option (List ℕ)) (records : ℕ) (config : Config) (f : FilesState D)
    (old_input new_input : SourceState) (reading : Option InputEnd) (old : List CallerState) (h : List Entry) (new : Devices D CallerState) (r : Result MappingEnd OutOfMemory)
    → IfOk r (HasEnded t faults left config TrimHorizon CALLS f old_input new_input reading old h new)
    → OnErr r (HasStoppedRun t left config TrimHorizon CALLS f old_input new_input old h new)
    → t.callers.sends ≡ sends_of → t.callers.log ≡ log_of → left ≡ left_of → Begins records config f.said old_input old new.callers → HasRun records h
has_run t faults left records config f old_input new_input reading old h new r he hs sends log leaves b =
    run_over t faults left records config f old_input new_input reading old h new sends log leaves b r he hs

pub has_finished : {D : Type 0} (t : Telling D CallerState) (faults : SourceState → ℕ) (left : SourceState → Option (List ℕ)) (records : ℕ) (config : Config) (f : FilesState D)
    (old_input new_input : SourceState) (reading : Option InputEnd) (old : List CallerState) (h : List Entry) (new : Devices D CallerState) (r : Result MappingEnd OutOfMemory)
    → IfOk r (HasEnded t faults left config TrimHorizon CALLS f old_input new_input reading old h new) → r ≡ Ok (Finished End)
    → t.callers.sends ≡ sends_of → t.callers.log ≡ log_of → left ≡ left_of → Begins records config f.said old_input old new.callers → HasFinished records h
has_finished t faults left records config f old_input new_input reading old h new r he done sends log leaves b =
    run_whole t faults left records config f old_input new_input reading old h new sends log leaves b r he done
