-- How a run ended, from how its batchers did.
use Rattle.std.proofs.Common.{◌≡◌, ◌∙◌, ◌<◌, ◌^◌, ℕ, Bool, true, false, List, [], ◌++◌, length, Result, Ok, Err, Option, Some, None, ap, refl, subst, sym}
use Rattle.std.specs.Prelude.{IfOk, IsErr, OnErr, OnOk}
use Rattle.std.proofs.lemmas.List.{append-nil}
use Rattle.esm_io.specs.Faults.{Rose}
use Rattle.esm_io.specs.Meanings.{DiskMeaning}
use Rattle.esm_io.specs.Told.{TakesFront}
use Rattle.esm_model.specs.declared.book.Change.{Change}
use Rattle.esm_model.specs.declared.book.Trouble.{Trouble}
use Rattle.esm_model.specs.declared.book.Trouble.TheVariants as trouble
use Rattle.esm_model.specs.declared.config.Config.{Config}
use Rattle.esm_model.specs.declared.config.Start.{Start}
use Rattle.esm_model.specs.declared.item.Message.{Message}
use Rattle.esm_model.specs.declared.memory.OutOfMemory.{OutOfMemory}
use Rattle.esm_book.specs.State.{in_hand}
use Rattle.esm_queue_model.specs.QueueSetting.{QueueSetting, over_messages}
use Rattle.esm_queue_core.specs.CoreView.{CoreView, new_setting, new_view}
use Rattle.esm_queue_core.specs.Told.{IsChange, opened}
use Rattle.esm_model.specs.declared.item.LineKind.{LineKind}
use Rattle.esm_input.specs.Positions.{from_start}
use Rattle.esm_input.specs.Reading.{InputState, IsInput, handed, items_read}
use Rattle.esm_queue_book.specs.Books.{BookState}
use Rattle.esm_queue_book.specs.Keeping.{IsCause}
use Rattle.esm_pool.specs.declared.running.RunEnd.{RunEnd}
use Rattle.esm_pool.specs.declared.running.RunEnd.TheVariants as ran
use Rattle.esm_runner.specs.QueueComing.{AllCame, SomeCame, messages_in_items}
use Rattle.esm_runner.specs.QueueRan.{CameSo, EndsSo, HasRun, HasStopped, IsCutInput, IsDownFor, IsOfMessage, NoneDiffersBefore}
use Rattle.esm_runner.specs.Files.{FilesState}
use Rattle.esm_runner.specs.Headline.{Devices, Telling}
use Rattle.esm_runner.specs.Ended.{trouble_of}
use Rattle.esm_runner.specs.QueueEnded.{AllCame as AllMessagesCame, HasEnded, HasStoppedRun, IsFaultOf, IsCauseOf, IsChanged, OthersRest, line_kind}
use Rattle.esm_runner.specs.Earned.{DeletedAllEarned}
use Rattle.esm_runner.specs.QueueHeadline.{CallsMadeOrOneMore, Headline}
use Rattle.esm_runner.specs.Ending.{EndsBy, HasReason, IsEndOf}
use Rattle.esm_runner.specs.QueueRuns.{IsLeft, new_input}
use Rattle.esm_runner.specs.declared.run.MappingEnd.{MappingEnd}
use Rattle.esm_runner.specs.declared.run.MappingEnd.TheVariants as end
use Rattle.esm_runner.proofs.Earned.{all_earned}
use Rattle.esm_runner.specs.QueueLaws.{AreLaws}
use Rattle.esm_runner.proofs.QueueHeadlines.{AreOf, disk_rose, headline}
use Rattle.esm_runner.proofs.QueueFirstChange.{none_is}
use Rattle.esm_runner.proofs.Messages.{some_few}

-- what the book had at its opening
pub record StoodSo {D : Type 0} (config : Config) (calls visibility : ℕ) (f : FilesState D) (before : BookState D) : Type 0 where
  pub core : before.core ≡ new_view (new_setting config calls visibility f.said.deletions)

-- the input was made for the configuration, over this source
pub record IsMadeFor {S : Type 0} (config : Config) (old : S) (i : InputState S) : Type 0 where
  pub kind : i.kind ≡ line_kind config
  pub factor : i.factor ≡ config.factor
  pub start : i.start ≡ config.start
  pub found : i.found ≡ old

-- the setting

opened_so : {D : Type 0} (config : Config) (calls visibility : ℕ) (f : FilesState D) (before b : BookState D) → StoodSo config calls visibility f before → b.core.setting ≡ over_messages before.core.setting b.core.setting.messages
    → b.core.setting ≡ over_messages (new_setting config calls visibility f.said.deletions) b.core.setting.messages
opened_so {D} config calls visibility f before b stood is =
    is ∙ ap (λ (s : QueueSetting). over_messages s b.core.setting.messages) (ap (λ (v : CoreView). v.setting) stood.core)

some_of_all : {D : Type 0} (b : BookState D) (messages : List Message) → AllCame b messages → SomeCame b messages
some_of_all b messages all = ([], sym all.came ∙ sym (append-nil b.core.setting.messages))

some_came : {S D : Type 0} (i : InputState S) (b : BookState D) (r : RunEnd) → CameSo i b r → SomeCame b (messages_in_items (handed i))
some_came i b ran.Finished came = some_of_all b (messages_in_items (handed i)) came.0
some_came i b ran.Spent came = some_of_all b (messages_in_items (handed i)) came
some_came i b ran.Down came = came.0

-- why it ended

-- why the book is down, where it is
abbrev pub IsCauseIn : {D : Type 0} → DiskMeaning D → BookState D → Option Trouble → Type 0
IsCauseIn m b why = IsCause (Rose (m.faults b.found.used) (m.faults b.pair.used)) (opened b.core) why

all_messages_came : {D : Type 0} (m : DiskMeaning D) (f : FilesState D) (b : BookState D) (messages : List Message) → IsLeft m f b → AllCame b messages → AllMessagesCame b.core.setting b.core.past messages
all_messages_came m f b messages left all = record {
  list = all.came;
  came = left.came ∙ ap (λ (ms : List Message). length ms) all.came;
  unchanged = none_is b.core.setting b.core.past messages left.legal left.came all.came;
  shut = all.shut;
}

trouble_is : {S D : Type 0} (left_in : S → Option (List ℕ)) (i : InputState S) (b : BookState D) (r : RunEnd) (e : MappingEnd) → EndsSo left_in i b r → IsEndOf r b.trouble i.end e → b.trouble ≡ trouble_of e
trouble_is left_in i b r (end.Finished last) so is = (subst (EndsSo left_in i b) is.0 so).0
trouble_is left_in i b r end.CallsSpent so is = (subst (EndsSo left_in i b) is so).0
trouble_is left_in i b r end.DiskFault so is = is.1
trouble_is left_in i b r end.DestFault so is = is.1
trouble_is left_in i b r (end.Changed change) so is = is.1

changed_so : {D : Type 0} (b : BookState D) (messages : List Message) (change : Change) → IsChange (opened b.core) change → IsOfMessage messages change → NoneDiffersBefore b.core.setting.deletions messages change.place → IsChanged b.core.setting messages change
changed_so b messages change is of first = record {
  queue = is.queue;
  found = is.found;
  deletion = is.deletion;
  kept = is.kept;
  message = of.item;
  at = of.at;
  given = sym of.given;
  differs = λ same. is.differs (same ∙ is.kept);
  first = first;
}

cause_of : {S D F : Type 0} (t : Telling D F) (left_in : S → Option (List ℕ)) (f : FilesState D) (b : BookState D) (i : InputState S) (new : Devices D F) (r : RunEnd) (e : MappingEnd) → IsLeft t.disk f b → AreOf f b new
    → IsCauseIn t.disk b b.trouble
    → CameSo i b r → EndsSo left_in i b r → IsEndOf r b.trouble i.end e → IsCauseOf t f b.core.setting b.core.past (messages_in_items (handed i)) i.end (left_in i.source) new e
cause_of t left_in f b i new r (end.Finished last) left of cause came so is =
    let all = subst (CameSo i b) is.0 came in
    let gone = subst (EndsSo left_in i b) is.0 so in
    (all_messages_came t.disk f b (messages_in_items (handed i)) left all.0, is.1, gone.1)
cause_of t left_in f b i new r end.CallsSpent left of cause came so is =
    let all = subst (CameSo i b) is came in
    let spent = subst (EndsSo left_in i b) is so in
    (all_messages_came t.disk f b (messages_in_items (handed i)) left all, spent.1, spent.2)
cause_of t left_in f b i new r end.DiskFault left of cause came so is =
    disk_rose t.disk f b new left of
    (subst (IsCauseIn t.disk b) is.1 cause)
cause_of t left_in f b i new r end.DestFault left of cause came so is = subst (IsCauseIn t.disk b) is.1 cause
cause_of t left_in f b i new r (end.Changed change) left of cause came so is =
    let all = subst (CameSo i b) is.0 came in
    let down = subst (IsDownFor b.core.setting (messages_in_items (handed i))) is.1 all.1 in
    changed_so b (messages_in_items (handed i)) change (subst (IsCauseIn t.disk b) is.1 cause) down.0 down.1

-- where no trouble ended it all that is earned is deleted
earned_by : {D : Type 0} (m : DiskMeaning D) (f : FilesState D) (b : BookState D) (why : Option Trouble) → IsLeft m f b → b.trouble ≡ why → why ≡ None → DeletedAllEarned b.core.setting b.core.past
earned_by m f b why left is none = all_earned b.core.setting b.core.past left.legal (left.settled (is ∙ none))

-- callers past the number of the configuration's batchers
others_of : {D F : Type 0} (t : Telling D F) (config : Config) (calls visibility : ℕ) (f : FilesState D) (before b : BookState D) (old new : List F) → StoodSo config calls visibility f before
    → OthersRest t before.core.setting.config b.core.setting b.core.past old new → OthersRest t config b.core.setting b.core.past old new
others_of t config calls visibility f before b old new stood rest =
    subst (λ (c : Config). OthersRest t c b.core.setting b.core.past old new) (ap (λ (v : CoreView). v.setting.config) stood.core) rest

pub ended : {S D F : Type 0} (t : Telling D F) (faults : S → ℕ) (left_in : S → Option (List ℕ)) (config : Config) (calls visibility : ℕ) (f : FilesState D) (old : S) (i : InputState S) (callers : List F)
    → (before b : BookState D) (new : Devices D F) (r : RunEnd) (e : MappingEnd) → AreLaws → StoodSo config calls visibility f before → IsLeft t.disk f b → AreOf f b new
    → IsCauseIn t.disk b b.trouble
    → IsMadeFor config old i → i.failed ≡ false → IsInput faults left_in i
    → HasRun t.callers before b callers new.callers → CameSo i b r → EndsSo left_in i b r → IsEndOf r b.trouble i.end e
    → HasEnded t faults left_in config calls visibility f old i.source i.end callers b.core.past new e
ended t faults left_in config calls visibility f old i callers before b new r e laws stood left of cause made good read run came so is = record {
  input = i;
  is_input = record { kind = made.kind; factor = made.factor; start = made.start; found = made.found; source = refl; good = good; read = read };
  read_to = refl;
  setting = b.core.setting;
  is_setting = record { opened = opened_so config calls visibility f before b stood run.opened; came = some_came i b r came };
  hand = in_hand b.trouble b.core.owed;
  headline = subst (λ (why : Option Trouble). Headline t f b.core.setting b.core.past why (in_hand b.trouble b.core.owed) new) (trouble_is left_in i b r e so is)
      (headline t f b new laws left of run.moments run.timed);
  all_earned = earned_by t.disk f b (trouble_of e) left (trouble_is left_in i b r e so is);
  calls_made = run.calls_made;
  rests = run.rests;
  others = others_of t config calls visibility f before b callers new.callers stood (record { untouched = run.untouched; no_calls = run.no_calls });
  cause = cause_of t left_in f b i new r e left of cause came so is;
}

-- want of memory

read_for : {S D : Type 0} (config : Config) (old : S) (i : InputState S) (b : BookState D) (whole : Bool) (bytes : List ℕ) → IsMadeFor config old i
    → SomeCame b (messages_in_items (from_start i.start (items_read i.kind i.factor whole bytes).items)) → SomeCame b (messages_in_items (from_start config.start (items_read (line_kind config) config.factor whole bytes).items))
read_for config old i b whole bytes made came =
    subst (λ (k : LineKind). SomeCame b (messages_in_items (from_start config.start (items_read k config.factor whole bytes).items))) made.kind
    (subst (λ (n : ℕ). SomeCame b (messages_in_items (from_start config.start (items_read i.kind n whole bytes).items))) made.factor
    (subst (λ (s : Start). SomeCame b (messages_in_items (from_start s (items_read i.kind i.factor whole bytes).items))) made.start came))

fault_in : {D F : Type 0} (t : Telling D F) (f : FilesState D) (b : BookState D) (new : Devices D F) (why : Option Trouble) → IsLeft t.disk f b → AreOf f b new → IsCauseIn t.disk b why → IsFaultOf t f new why
fault_in t f b new None left of cause = tt
fault_in t f b new (Some trouble.Disk) left of cause = disk_rose t.disk f b new left of cause
fault_in t f b new (Some trouble.Dest) left of cause = cause
fault_in t f b new (Some (trouble.Changed change)) left of cause = tt

pub stopped : {S D F : Type 0} (t : Telling D F) (left_in : S → Option (List ℕ)) (config : Config) (calls visibility : ℕ) (f : FilesState D) (old : S) (i : InputState S) (callers : List F)
    → (before b : BookState D) (new : Devices D F) → AreLaws → StoodSo config calls visibility f before → IsLeft t.disk f b → AreOf f b new → IsCauseIn t.disk b b.trouble → IsMadeFor config old i
    → b.core.setting ≡ over_messages before.core.setting b.core.setting.messages → Headline t f b.core.setting b.core.past b.trouble (in_hand b.trouble b.core.owed) new → IsCutInput left_in i b
    → CallsMadeOrOneMore t b.core.setting b.core.past callers new.callers → OthersRest t before.core.setting.config b.core.setting b.core.past callers new.callers
    → HasStoppedRun t left_in config calls visibility f old i.source callers b.core.past new
stopped {S} t left_in config calls visibility f old i callers before b new laws stood left of cause made opened head cut made_calls others = record {
  bytes = cut.bytes;
  more = cut.more;
  whole = cut.whole;
  taken = subst (λ (s : S). TakesFront (left_in s) (left_in i.source) (cut.bytes ++ cut.more)) made.found cut.taken;
  setting = b.core.setting;
  is_setting = record { opened = opened_so config calls visibility f before b stood opened; came = read_for config old i b cut.whole cut.bytes made cut.came };
  trouble = b.trouble;
  fault = fault_in t f b new b.trouble left of cause;
  hand = in_hand b.trouble b.core.owed;
  headline = head;
  calls_made = made_calls;
  others = others_of t config calls visibility f before b callers new.callers stood others;
}

-- both

-- how the batchers came to what they came to
pub record HasCome {S D F : Type 0} (t : Telling D F) (faults : S → ℕ) (left_in : S → Option (List ℕ)) (before b : BookState D) (i : InputState S) (callers new_callers : List F) (r : Result RunEnd OutOfMemory) : Type 0 where
  pub run : OnOk r (HasRun t.callers before b callers new_callers)
  pub came : IfOk r (CameSo i b)
  pub ended : IfOk r (EndsSo left_in i b)
  pub read : OnOk r (IsInput faults left_in i)
  pub good : OnOk r (i.failed ≡ false)
  pub stopped : OnErr r (HasStopped t.callers before b callers new_callers)
  pub cut : OnErr r (IsCutInput left_in i b)

pub ended_by : {S D F : Type 0} (t : Telling D F) (faults : S → ℕ) (left_in : S → Option (List ℕ)) (config : Config) (calls visibility : ℕ) (f : FilesState D) (old : S) (i : InputState S) (callers : List F)
    → (before b : BookState D) (new : Devices D F) (r : Result RunEnd OutOfMemory) (e : MappingEnd) → AreLaws → StoodSo config calls visibility f before → IsLeft t.disk f b → AreOf f b new
    → IsCauseIn t.disk b b.trouble
    → IsMadeFor config old i → HasCome t faults left_in before b i callers new.callers r → EndsBy r b.trouble i.end e
    → HasEnded t faults left_in config calls visibility f old i.source i.end callers b.core.past new e
ended_by t faults left_in config calls visibility f old i callers before b new (Ok r) e laws stood left of cause made come is =
    ended t faults left_in config calls visibility f old i callers before b new r e laws stood left of cause made come.good come.read come.run come.came come.ended is
ended_by t faults left_in config calls visibility f old i callers before b new (Err none) e laws stood left of cause made come is = absurd is

pub stopped_by : {S D F : Type 0} (t : Telling D F) (faults : S → ℕ) (left_in : S → Option (List ℕ)) (config : Config) (calls visibility : ℕ) (f : FilesState D) (old : S) (i : InputState S) (callers : List F)
    → (before b : BookState D) (new : Devices D F) (r : Result RunEnd OutOfMemory) → AreLaws → StoodSo config calls visibility f before → IsLeft t.disk f b → AreOf f b new → IsCauseIn t.disk b b.trouble
    → IsMadeFor config old i → HasCome t faults left_in before b i callers new.callers r → IsErr r
    → HasStoppedRun t left_in config calls visibility f old i.source callers b.core.past new
stopped_by t faults left_in config calls visibility f old i callers before b new (Ok r) laws stood left of cause made come short = absurd (let clash : false ≡ true = short in cc)
stopped_by t faults left_in config calls visibility f old i callers before b new (Err none) laws stood left of cause made come short =
    let stop = come.stopped in
    stopped t left_in config calls visibility f old i callers before b new laws stood left of cause made stop.opened (headline t f b new laws left of stop.moments stop.timed) come.cut stop.calls_made
    (record { untouched = stop.untouched; no_calls = stop.no_calls })

-- what came

-- the found deletions are those that the journal told of
pub deletions_found : {S D F : Type 0} (t : Telling D F) (faults : S → ℕ) (left_in : S → Option (List ℕ)) (config : Config) (calls visibility : ℕ) (f : FilesState D) (before b : BookState D) (i : InputState S) (callers new_callers : List F)
    → (r : Result RunEnd OutOfMemory) → StoodSo config calls visibility f before → HasCome t faults left_in before b i callers new_callers r → b.core.setting.deletions ≡ f.said.deletions
deletions_found t faults left_in config calls visibility f before b i callers new_callers (Ok r) stood come =
    ap (λ (s : QueueSetting). s.deletions) (opened_so config calls visibility f before b stood come.run.opened)
deletions_found t faults left_in config calls visibility f before b i callers new_callers (Err none) stood come =
    ap (λ (s : QueueSetting). s.deletions) (opened_so config calls visibility f before b stood come.stopped.opened)

-- the messages are as few as an input hands out
few_within : {S D : Type 0} (i : InputState S) (b : BookState D) (whole : Bool) (bytes : List ℕ) → AreLaws → SomeCame b (messages_in_items (from_start i.start (items_read i.kind i.factor whole bytes).items))
    → length b.core.setting.messages < 2 ^ 32
few_within i b whole bytes laws came =
    let items = from_start i.start (items_read i.kind i.factor whole bytes).items in
    some_few b items came (laws.within i.kind i.factor i.start whole bytes items [] (sym (append-nil items))).few

pub few_so : {S D F : Type 0} (t : Telling D F) (faults : S → ℕ) (left_in : S → Option (List ℕ)) (before b : BookState D) (i : InputState S) (callers new_callers : List F) (r : Result RunEnd OutOfMemory)
    → AreLaws → HasCome t faults left_in before b i callers new_callers r → length b.core.setting.messages < 2 ^ 32
few_so t faults left_in before b i callers new_callers (Ok r) laws come = few_within i b i.whole i.bytes laws (some_came i b r come.came)
few_so t faults left_in before b i callers new_callers (Err none) laws come = few_within i b come.cut.whole come.cut.bytes laws come.cut.came

-- what a run leaves as it was

pub made_for : {S : Type 0} (config : Config) (old : S) (begun i : InputState S) → begun ≡ new_input config old → (i.kind ≡ begun.kind) × (i.factor ≡ begun.factor) × (i.start ≡ begun.start) × (i.found ≡ begun.found) → IsMadeFor config old i
made_for {S} config old begun i is same = record {
  kind = same.0 ∙ ap (λ (j : InputState S). j.kind) is;
  factor = same.1 ∙ ap (λ (j : InputState S). j.factor) is;
  start = same.2 ∙ ap (λ (j : InputState S). j.start) is;
  found = same.3 ∙ ap (λ (j : InputState S). j.found) is;
}

pub found_stays : {S D F : Type 0} (t : Telling D F) (faults : S → ℕ) (left_in : S → Option (List ℕ)) (before b : BookState D) (i : InputState S) (callers new_callers : List F) (r : Result RunEnd OutOfMemory)
    → HasCome t faults left_in before b i callers new_callers r → (b.found ≡ before.found) × (length new_callers ≡ length callers)
found_stays t faults left_in before b i callers new_callers (Ok r) come = (come.run.found, come.run.as_many)
found_stays t faults left_in before b i callers new_callers (Err none) come = (come.stopped.found, come.stopped.as_many)

pub found_ran : {D F : Type 0} (t : Telling D F) (before b : BookState D) (callers new_callers : List F) (r : Result RunEnd OutOfMemory)
    → OnOk r (HasRun t.callers before b callers new_callers) → OnErr r (HasStopped t.callers before b callers new_callers) → b.found ≡ before.found
found_ran t before b callers new_callers (Ok r) run stopped = run.found
found_ran t before b callers new_callers (Err none) run stopped = stopped.found

-- the reason of an end

reason_for : {S D : Type 0} (left_in : S → Option (List ℕ)) (i : InputState S) (b : BookState D) (r : RunEnd) → CameSo i b r → EndsSo left_in i b r → HasReason b.trouble i.end r
reason_for left_in i b ran.Finished came so = came.1
reason_for left_in i b ran.Spent came so = tt
reason_for left_in i b ran.Down came so = so

pub reason_of : {S D : Type 0} (left_in : S → Option (List ℕ)) (i : InputState S) (b : BookState D) (r : Result RunEnd OutOfMemory) → IfOk r (CameSo i b) → IfOk r (EndsSo left_in i b) → IfOk r (HasReason b.trouble i.end)
reason_of left_in i b (Ok r) came so = reason_for left_in i b r came so
reason_of left_in i b (Err none) came so = tt
