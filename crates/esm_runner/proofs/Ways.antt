-- How a run ended, from how its batchers did.
use Rattle.std.proofs.Common.{◌≡◌, ◌∙◌, ℕ, Bool, true, false, List, [], ◌++◌, length, Result, Ok, Err, Option, Some, None, ap, refl, subst, sym}
use Rattle.std.specs.Prelude.{IfOk, IsErr, OnErr, OnOk}
use Rattle.std.proofs.lemmas.List.{append-nil}
use Rattle.esm_io.specs.Faults.{Rose}
use Rattle.esm_io.specs.Meanings.{DiskMeaning}
use Rattle.esm_io.specs.Told.{TakesFront}
use Rattle.esm_journal.specs.State.{JournalState}
use Rattle.esm_model.specs.declared.book.Trouble.{Trouble}
use Rattle.esm_model.specs.declared.book.Trouble.TheVariants as trouble
use Rattle.esm_model.specs.declared.config.Config.{Config}
use Rattle.esm_model.specs.declared.config.Start.{Start}
use Rattle.esm_model.specs.Records.{Record}
use Rattle.esm_model.specs.declared.memory.OutOfMemory.{OutOfMemory}
use Rattle.esm_model.specs.Setting.{Setting, over}
use Rattle.esm_record_bounds.specs.Bounds.{AreCountedInFourBytes}
use Rattle.esm_book.specs.State.{in_hand}
use Rattle.esm_ledger.specs.Ledger.{opened_with}
use Rattle.esm_stream_core.specs.CoreView.{CoreView, new_view}
use Rattle.esm_stream_core.specs.Told.{opened}
use Rattle.esm_model.specs.declared.item.LineKind.{LineKind}
use Rattle.esm_model.specs.declared.item.LineKind.TheVariants as kinds
use Rattle.esm_input.specs.Positions.{from_start}
use Rattle.esm_input.specs.Reading.{InputState, IsInput, handed, items_read}
use Rattle.esm_stream_book.specs.Books.{BookState}
use Rattle.esm_stream_book.specs.Keeping.{IsCause, IsSound}
use Rattle.esm_pool.specs.declared.running.RunEnd.{RunEnd}
use Rattle.esm_pool.specs.declared.running.RunEnd.TheVariants as ran
use Rattle.esm_runner.specs.Coming.{AllCame, SomeCame, records_in_items}
use Rattle.esm_runner.specs.Ran.{CameSo, EndsSo, HasRun, HasStopped, IsCutInput, IsDownFor}
use Rattle.esm_runner.specs.Ended.{AllCame as AllRecordsCame, HasEnded, HasStoppedRun, IsFaultOf, IsCauseOf, trouble_of}
use Rattle.esm_runner.specs.Files.{FilesState}
use Rattle.esm_runner.specs.Headline.{CallsMadeOrOneMore, Devices, Headline, Telling}
use Rattle.esm_runner.specs.Ending.{EndsBy, HasReason, IsEndOf}
use Rattle.esm_runner.specs.Runs.{IsLeft, new_input}
use Rattle.esm_runner.specs.declared.run.MappingEnd.{MappingEnd}
use Rattle.esm_runner.specs.declared.run.MappingEnd.TheVariants as end
use Rattle.esm_runner.specs.Laws.{AreLaws}
use Rattle.esm_runner.proofs.Headlines.{AreOf, dest_rose, disk_rose, headline}
use Rattle.esm_runner.proofs.FirstChange.{none_is}
use Rattle.esm_runner.proofs.Records.{came_all, counted}

-- what the book had at its opening
pub record StoodSo {D : Type 0} (config : Config) (calls : ℕ) (f : FilesState D) (before : BookState D (JournalState D)) : Type 0 where
  pub core : before.core ≡ new_view (opened_with config calls f.said)

-- the input was made for the configuration, over this source
pub record IsMadeFor {S : Type 0} (config : Config) (start : Start) (old : S) (i : InputState S) : Type 0 where
  pub kind : i.kind ≡ kinds.Stream
  pub factor : i.factor ≡ config.factor
  pub start_is : i.start ≡ start
  pub found : i.found ≡ old

-- the setting

opened_so : {D : Type 0} (config : Config) (calls : ℕ) (f : FilesState D) (before b : BookState D (JournalState D)) → StoodSo config calls f before → b.core.setting ≡ over before.core.setting b.core.setting.streams
    → b.core.setting ≡ over (opened_with config calls f.said) b.core.setting.streams
opened_so {D} config calls f before b stood is =
    is ∙ ap (λ (s : Setting). over s b.core.setting.streams) (ap (λ (v : CoreView). v.setting) stood.core)

some_of_all : {D : Type 0} (b : BookState D (JournalState D)) (records : List Record) → AllCame b records → SomeCame b records
some_of_all b records all n = ([], sym (all.came n) ∙ sym (append-nil _))

some_came : {S D : Type 0} (i : InputState S) (b : BookState D (JournalState D)) (r : RunEnd) → CameSo i b r → SomeCame b (records_in_items (handed i))
some_came i b ran.Finished came = some_of_all b (records_in_items (handed i)) came.0
some_came i b ran.Spent came = some_of_all b (records_in_items (handed i)) came
some_came i b ran.Down came = came.0

-- why it ended

-- why the book is down, where it is
abbrev pub IsCauseIn : {D : Type 0} → DiskMeaning D → BookState D (JournalState D) → Option Trouble → Type 0
IsCauseIn m b why = IsCause (Rose (m.faults b.found.used) (m.faults b.pair.used)) (Rose (m.faults b.found_dest.disk) (m.faults b.dest.disk)) (opened b.core) why

all_records : {D : Type 0} (b : BookState D (JournalState D)) (records : List Record) → IsSound b → AllCame b records → AllRecordsCame b.core.setting b.core.past records
all_records b records sound all = record { lists = all.came; came = came_all b.core sound.records sound.of_stream; unchanged = none_is b records sound all.came; shut = all.shut }

trouble_is : {S D : Type 0} (left_in : S → Option (List ℕ)) (i : InputState S) (b : BookState D (JournalState D)) (r : RunEnd) (e : MappingEnd) → EndsSo left_in i b r → IsEndOf r b.trouble i.end e → b.trouble ≡ trouble_of e
trouble_is left_in i b r (end.Finished last) so is = (subst (EndsSo left_in i b) is.0 so).0
trouble_is left_in i b r end.CallsSpent so is = (subst (EndsSo left_in i b) is so).0
trouble_is left_in i b r end.DiskFault so is = is.1
trouble_is left_in i b r end.DestFault so is = is.1
trouble_is left_in i b r (end.Changed change) so is = is.1

cause_of : {S D F : Type 0} (t : Telling D F) (left_in : S → Option (List ℕ)) (f : FilesState D) (b : BookState D (JournalState D)) (i : InputState S) (new : Devices D F) (r : RunEnd) (e : MappingEnd) → IsLeft t.disk t.line f b → AreOf b new → IsSound b
    → IsCauseIn t.disk b b.trouble
    → CameSo i b r → EndsSo left_in i b r → IsEndOf r b.trouble i.end e → IsCauseOf t f b.core.setting b.core.past (records_in_items (handed i)) i.end (left_in i.source) new e
cause_of t left_in f b i new r (end.Finished last) left of sound cause came so is =
    let all = subst (CameSo i b) is.0 came in
    let fated = subst (EndsSo left_in i b) is.0 so in
    (all_records b (records_in_items (handed i)) sound all.0, is.1, fated.1, fated.2)
cause_of t left_in f b i new r end.CallsSpent left of sound cause came so is =
    let all = subst (CameSo i b) is came in
    let spent = subst (EndsSo left_in i b) is so in
    (all_records b (records_in_items (handed i)) sound all, spent.1, spent.2)
cause_of t left_in f b i new r end.DiskFault left of sound cause came so is =
    disk_rose t.disk f b new left of
    (subst (IsCauseIn t.disk b) is.1 cause)
cause_of t left_in f b i new r end.DestFault left of sound cause came so is =
    dest_rose t.disk f b new left of
    (subst (IsCauseIn t.disk b) is.1 cause)
cause_of t left_in f b i new r (end.Changed change) left of sound cause came so is =
    let all = subst (CameSo i b) is.0 came in
    let down = subst (IsDownFor b.core.setting (records_in_items (handed i))) is.1 all.1 in
    (subst (IsCauseIn t.disk b) is.1 cause, down.0, down.1)

pub ended : {S D F : Type 0} (t : Telling D F) (faults : S → ℕ) (left_in : S → Option (List ℕ)) (config : Config) (start : Start) (calls : ℕ) (f : FilesState D) (old : S) (i : InputState S) (callers : List F)
    → (before b : BookState D (JournalState D)) (new : Devices D F) (r : RunEnd) (e : MappingEnd) → AreLaws → StoodSo config calls f before → IsLeft t.disk t.line f b → AreOf b new → IsSound b
    → IsCauseIn t.disk b b.trouble
    → IsMadeFor config start old i → i.failed ≡ false → IsInput faults left_in i
    → HasRun t.callers before b callers new.callers → CameSo i b r → EndsSo left_in i b r → IsEndOf r b.trouble i.end e
    → HasEnded t faults left_in config start calls f old i.source i.end callers b.core.past new e
ended t faults left_in config start calls f old i callers before b new r e laws stood left of sound cause made good read run came so is = record {
  input = i;
  is_input = record { kind = made.kind; factor = made.factor; start_is = made.start_is; found = made.found; source = refl; good = good; read = read };
  read_to = refl;
  setting = b.core.setting;
  is_setting = record { opened = opened_so config calls f before b stood run.opened; came = some_came i b r came };
  hand = in_hand b.trouble b.core.owed;
  headline = subst (λ (why : Option Trouble). Headline t f b.core.setting b.core.past why (in_hand b.trouble b.core.owed) new) (trouble_is left_in i b r e so is)
      (headline t f b new laws left of run.moments run.timed);
  calls_made = run.calls_made;
  rests = run.rests;
  cause = cause_of t left_in f b i new r e left of sound cause came so is;
}

-- want of memory

read_for : {S D : Type 0} (config : Config) (start : Start) (old : S) (i : InputState S) (b : BookState D (JournalState D)) (whole : Bool) (bytes : List ℕ) → IsMadeFor config start old i
    → SomeCame b (records_in_items (from_start i.start (items_read i.kind i.factor whole bytes).items)) → SomeCame b (records_in_items (from_start start (items_read kinds.Stream config.factor whole bytes).items))
read_for config start old i b whole bytes made came =
    subst (λ (k : LineKind). SomeCame b (records_in_items (from_start start (items_read k config.factor whole bytes).items))) made.kind
    (subst (λ (n : ℕ). SomeCame b (records_in_items (from_start start (items_read i.kind n whole bytes).items))) made.factor
    (subst (λ (s : Start). SomeCame b (records_in_items (from_start s (items_read i.kind i.factor whole bytes).items))) made.start_is came))

fault_in : {D F : Type 0} (t : Telling D F) (f : FilesState D) (b : BookState D (JournalState D)) (new : Devices D F) (why : Option Trouble) → IsLeft t.disk t.line f b → AreOf b new → IsCauseIn t.disk b why → IsFaultOf t f new why
fault_in t f b new None left of cause = tt
fault_in t f b new (Some trouble.Disk) left of cause = disk_rose t.disk f b new left of cause
fault_in t f b new (Some trouble.Dest) left of cause = dest_rose t.disk f b new left of cause
fault_in t f b new (Some (trouble.Changed change)) left of cause = tt

pub stopped : {S D F : Type 0} (t : Telling D F) (left_in : S → Option (List ℕ)) (config : Config) (start : Start) (calls : ℕ) (f : FilesState D) (old : S) (i : InputState S) (callers : List F)
    → (before b : BookState D (JournalState D)) (new : Devices D F) → AreLaws → StoodSo config calls f before → IsLeft t.disk t.line f b → AreOf b new → IsCauseIn t.disk b b.trouble → IsMadeFor config start old i
    → b.core.setting ≡ over before.core.setting b.core.setting.streams → Headline t f b.core.setting b.core.past b.trouble (in_hand b.trouble b.core.owed) new → IsCutInput left_in i b
    → CallsMadeOrOneMore t b.core.setting b.core.past callers new.callers → HasStoppedRun t left_in config start calls f old i.source callers b.core.past new
stopped {S} t left_in config start calls f old i callers before b new laws stood left of cause made opened head cut made_calls = record {
  bytes = cut.bytes;
  more = cut.more;
  whole = cut.whole;
  taken = subst (λ (s : S). TakesFront (left_in s) (left_in i.source) (cut.bytes ++ cut.more)) made.found cut.taken;
  setting = b.core.setting;
  is_setting = record { opened = opened_so config calls f before b stood opened; came = read_for config start old i b cut.whole cut.bytes made cut.came };
  trouble = b.trouble;
  fault = fault_in t f b new b.trouble left of cause;
  hand = in_hand b.trouble b.core.owed;
  headline = head;
  calls_made = made_calls;
}

-- both

-- how the batchers came to what they came to
pub record HasCome {S D F : Type 0} (t : Telling D F) (faults : S → ℕ) (left_in : S → Option (List ℕ)) (before b : BookState D (JournalState D)) (i : InputState S) (callers new_callers : List F) (r : Result RunEnd OutOfMemory) : Type 0 where
  pub run : OnOk r (HasRun t.callers before b callers new_callers)
  pub came : IfOk r (CameSo i b)
  pub ended : IfOk r (EndsSo left_in i b)
  pub read : OnOk r (IsInput faults left_in i)
  pub good : OnOk r (i.failed ≡ false)
  pub stopped : OnErr r (HasStopped t.callers before b callers new_callers)
  pub cut : OnErr r (IsCutInput left_in i b)

pub ended_by : {S D F : Type 0} (t : Telling D F) (faults : S → ℕ) (left_in : S → Option (List ℕ)) (config : Config) (start : Start) (calls : ℕ) (f : FilesState D) (old : S) (i : InputState S) (callers : List F)
    → (before b : BookState D (JournalState D)) (new : Devices D F) (r : Result RunEnd OutOfMemory) (e : MappingEnd) → AreLaws → StoodSo config calls f before → IsLeft t.disk t.line f b → AreOf b new → IsSound b
    → IsCauseIn t.disk b b.trouble
    → IsMadeFor config start old i → HasCome t faults left_in before b i callers new.callers r → EndsBy r b.trouble i.end e
    → HasEnded t faults left_in config start calls f old i.source i.end callers b.core.past new e
ended_by t faults left_in config start calls f old i callers before b new (Ok r) e laws stood left of sound cause made come is =
    ended t faults left_in config start calls f old i callers before b new r e laws stood left of sound cause made come.good come.read come.run come.came come.ended is
ended_by t faults left_in config start calls f old i callers before b new (Err none) e laws stood left of sound cause made come is = absurd is

pub stopped_by : {S D F : Type 0} (t : Telling D F) (faults : S → ℕ) (left_in : S → Option (List ℕ)) (config : Config) (start : Start) (calls : ℕ) (f : FilesState D) (old : S) (i : InputState S) (callers : List F)
    → (before b : BookState D (JournalState D)) (new : Devices D F) (r : Result RunEnd OutOfMemory) → AreLaws → StoodSo config calls f before → IsLeft t.disk t.line f b → AreOf b new → IsCauseIn t.disk b b.trouble
    → IsMadeFor config start old i → HasCome t faults left_in before b i callers new.callers r → IsErr r
    → HasStoppedRun t left_in config start calls f old i.source callers b.core.past new
stopped_by t faults left_in config start calls f old i callers before b new (Ok r) laws stood left of cause made come short = absurd (let clash : false ≡ true = short in cc)
stopped_by t faults left_in config start calls f old i callers before b new (Err none) laws stood left of cause made come short =
    let stop = come.stopped in
    stopped t left_in config start calls f old i callers before b new laws stood left of cause made stop.opened (headline t f b new laws left of stop.moments stop.timed) come.cut stop.calls_made

-- what a run leaves as it was

pub made_for : {S : Type 0} (config : Config) (start : Start) (old : S) (begun i : InputState S) → begun ≡ new_input config start old → (i.kind ≡ begun.kind) × (i.factor ≡ begun.factor) × (i.start ≡ begun.start) × (i.found ≡ begun.found) → IsMadeFor config start old i
made_for {S} config start old begun i is same = record {
  kind = same.0 ∙ ap (λ (j : InputState S). j.kind) is;
  factor = same.1 ∙ ap (λ (j : InputState S). j.factor) is;
  start_is = same.2 ∙ ap (λ (j : InputState S). j.start) is;
  found = same.3 ∙ ap (λ (j : InputState S). j.found) is;
}

pub found_stays : {S D F : Type 0} (t : Telling D F) (faults : S → ℕ) (left_in : S → Option (List ℕ)) (before b : BookState D (JournalState D)) (i : InputState S) (callers new_callers : List F) (r : Result RunEnd OutOfMemory)
    → HasCome t faults left_in before b i callers new_callers r → (b.found ≡ before.found) × (b.found_dest ≡ before.found_dest) × (length new_callers ≡ length callers)
found_stays t faults left_in before b i callers new_callers (Ok r) come = (come.run.found, come.run.found_dest, come.run.as_many)
found_stays t faults left_in before b i callers new_callers (Err none) come = (come.stopped.found, come.stopped.found_dest, come.stopped.as_many)

pub found_ran : {D T F : Type 0} (t : Telling D F) (before b : BookState D T) (callers new_callers : List F) (r : Result RunEnd OutOfMemory)
    → OnOk r (HasRun t.callers before b callers new_callers) → OnErr r (HasStopped t.callers before b callers new_callers) → b.found ≡ before.found
found_ran t before b callers new_callers (Ok r) run stopped = run.found
found_ran t before b callers new_callers (Err none) run stopped = stopped.found

-- the found fates are those that the journal told of
pub fates_found : {S D F : Type 0} (t : Telling D F) (faults : S → ℕ) (left_in : S → Option (List ℕ)) (config : Config) (calls : ℕ) (f : FilesState D) (before b : BookState D (JournalState D)) (i : InputState S) (callers new_callers : List F) (r : Result RunEnd OutOfMemory)
    → StoodSo config calls f before → HasCome t faults left_in before b i callers new_callers r → b.core.setting.fates ≡ f.said.fates
fates_found t faults left_in config calls f before b i callers new_callers (Ok r) stood come =
    ap (λ (s : Setting). s.fates) (opened_so config calls f before b stood come.run.opened)
fates_found t faults left_in config calls f before b i callers new_callers (Err none) stood come =
    ap (λ (s : Setting). s.fates) (opened_so config calls f before b stood come.stopped.opened)

-- no shard has more records than four bytes count
counted_within : {S D : Type 0} (i : InputState S) (b : BookState D (JournalState D)) (whole : Bool) (bytes : List ℕ) → AreLaws → IsSound b
    → SomeCame b (records_in_items (from_start i.start (items_read i.kind i.factor whole bytes).items)) → AreCountedInFourBytes b.core.past
counted_within i b whole bytes laws sound came =
    let items = from_start i.start (items_read i.kind i.factor whole bytes).items in
    counted b items sound (laws.within i.kind i.factor i.start whole bytes items [] (sym (append-nil items))).few came

pub counted_so : {S D F : Type 0} (t : Telling D F) (faults : S → ℕ) (left_in : S → Option (List ℕ)) (before b : BookState D (JournalState D)) (i : InputState S) (callers new_callers : List F) (r : Result RunEnd OutOfMemory)
    → AreLaws → IsSound b → HasCome t faults left_in before b i callers new_callers r → AreCountedInFourBytes b.core.past
counted_so t faults left_in before b i callers new_callers (Ok r) laws sound come = counted_within i b i.whole i.bytes laws sound (some_came i b r come.came)
counted_so t faults left_in before b i callers new_callers (Err none) laws sound come = counted_within i b come.cut.whole come.cut.bytes laws sound come.cut.came

-- the reason of an end

reason_for : {S D T : Type 0} (left_in : S → Option (List ℕ)) (i : InputState S) (b : BookState D T) (r : RunEnd) → CameSo i b r → EndsSo left_in i b r → HasReason b.trouble i.end r
reason_for left_in i b ran.Finished came so = came.1
reason_for left_in i b ran.Spent came so = tt
reason_for left_in i b ran.Down came so = so

pub reason_of : {S D T : Type 0} (left_in : S → Option (List ℕ)) (i : InputState S) (b : BookState D T) (r : Result RunEnd OutOfMemory) → IfOk r (CameSo i b) → IfOk r (EndsSo left_in i b) → IfOk r (HasReason b.trouble i.end)
reason_of left_in i b (Ok r) came so = reason_for left_in i b r came so
reason_of left_in i b (Err none) came so = tt
