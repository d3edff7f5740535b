-- How a run ended, from how its caller did.
use Rattle.std.proofs.Common.{◌≡◌, ◌∙◌, ◌+◌, ◌*◌, ◌≤◌, ◌⊎◌, ℕ, Bool, true, false, List, [], ◌∷◌, ◌++◌, length, Result, Ok, Err, Option, Some, None, ap, arith, refl, subst, sym, inl, inr, append-nil, append_assoc}
use Rattle.std.specs.Prelude.{IfOk, IsErr, OnErr, OnOk, is_some}
use Rattle.std.proofs.lemmas.List.{length-append}
use Rattle.esm_io.specs.Faults.{Rose}
use Rattle.esm_io.specs.Meanings.{DiskMeaning}
use Rattle.esm_io.specs.Told.{Grows, TakesFront}
use Rattle.esm_model.specs.declared.book.Change.{Change}
use Rattle.esm_model.specs.declared.book.Trouble.{Trouble}
use Rattle.esm_model.specs.declared.book.Trouble.TheVariants as trouble
use Rattle.esm_model.specs.declared.called.Called.{Called}
use Rattle.esm_model.specs.declared.config.Config.{Config}
use Rattle.esm_model.specs.declared.config.Start.{Start}
use Rattle.esm_model.specs.declared.entry.Entry.{Entry}
use Rattle.esm_model.specs.declared.entry.Entry.TheVariants.{Came, Began, Ended, Gave, Tried, Closed, Replayed, Shut}
use Rattle.esm_model.specs.Entries.{calls_begun}
use Rattle.esm_model.specs.declared.item.Item.{Item}
use Rattle.esm_model.specs.declared.item.Item.TheVariants.{Stream, Queue}
use Rattle.esm_model.specs.Records.{Record}
use Rattle.esm_model.specs.declared.item.LineKind.{LineKind}
use Rattle.esm_model.specs.declared.item.LineKind.TheVariants as kinds
use Rattle.esm_model.specs.declared.memory.OutOfMemory.{OutOfMemory}
use Rattle.esm_model.specs.Coming.{AreCome, AreSomeCome}
use Rattle.esm_book.specs.State.{in_hand}
use Rattle.esm_input.specs.Positions.{from_start}
use Rattle.esm_input.specs.Reading.{InputState, IsInput, StandsSo, handed, items_read}
use Rattle.esm_journal_state.specs.SaidLists.{SaidLists}
use Rattle.esm_serial.specs.declared.serial.Serial.{Ghosts as Serial}
use Rattle.esm_serial.specs.declared.running.RunEnd.{RunEnd}
use Rattle.esm_serial.specs.declared.running.RunEnd.TheVariants as ran
use Rattle.esm_serial.specs.Adding.{call_to}
use Rattle.esm_serial.specs.Ran.{IsSameInput, HasCalled, HasOneMore as OneMoreRuns, EndsSo, CameSo, StopsSo, AllCame as AllItemsCame, IsChangeOf, IsCut}
use Rattle.esm_replay.specs.Records.{of_shard, setting_with}
use Rattle.esm_replay_model.specs.declared.range.Range.{Range}
use Rattle.esm_replay_model.specs.Pieces.{replay_event}
use Rattle.esm_replay_model.specs.ReplaySetting.{ReplaySetting, replay_config}
use Rattle.esm_replay_model.specs.ReplayRun.{call_out, owed_replay, replay_calls, IsReplay}
use Rattle.esm_replay_core.specs.declared.decisions.Opened.{Opened}
use Rattle.esm_replay_core.specs.View.{ReplayView, setting_of, new_view}
use Rattle.esm_replay.specs.Coming.{first_change}
use Rattle.esm_replay_book.specs.Books.{BookState}
use Rattle.esm_replay_book.specs.Keeping.{IsCause, IsUncalled, IsSound}
use Rattle.esm_replay_book.specs.Opening.{GiveRanges}
use Rattle.esm_replay_book.specs.Serving.{AreGiven, HasGoneOn, IsUnchanged, IsFresh, IsGoing, IsShut, DoesRest, RunsJob, HasFinished, IsSpent, is_down, change_in, lines_in, function_in, items_in, records_in_items, Differs}
use Rattle.esm_replay_book.proofs.Items.{items-append, records_come, some_records_come}
use Rattle.esm_runner.specs.Files.{FilesState}
use Rattle.esm_replay_run.specs.declared.report.ReplayCounts.{ReplayCounts}
use Rattle.esm_replay_run.specs.declared.run.ReplayEnd.{ReplayEnd}
use Rattle.esm_replay_run.specs.declared.run.ReplayEnd.TheVariants as end
use Rattle.esm_replay_run.specs.Counts.{AreCounts, AreFewCalls}
use Rattle.esm_replay_run.specs.Headline.{Disks, Headline, IsSettingOf, SomeCame}
use Rattle.esm_replay_run.specs.Ended.{Telling, AllCame, IsChanged, trouble_of, IsCauseOf, HasRun, IsFaultOf, HasLogged, WasReadFirst, HasStopped}
use Rattle.esm_replay_run.specs.Ending.{IsReason, HasReason, EndsBy, IsEndOf}
use Rattle.esm_replay_run.specs.Laws.{AreLaws}
use Rattle.esm_replay_run.specs.Runs.{IsLeft, new_input}
use Rattle.esm_replay_run.proofs.FirstChange.{differs_behind, first_is, none_is}
use Rattle.esm_replay_run.proofs.Headlines.{AreOf, disk_rose, headline}

-- a replay's book as one caller calls for it
abbrev pub replays : {D : Type 0} → Serial (BookState D)
replays = record {
  since = HasGoneOn;
  fresh = IsFresh;
  going = IsGoing;
  shut = IsShut;
  rests = DoesRest;
  runs = RunsJob;
  finished = HasFinished;
  spent = IsSpent;
  down = λ b. is_down b;
  change = λ b. change_in b;
  kind = lines_in;
  function = function_in;
  items = items_in;
  differs = Differs;
}

-- what the book had at its opening
pub record StoodSo {D : Type 0} (config : Config) (calls : ℕ) (f : FilesState D) (before : BookState D) : Type 0 where
  pub ranges : List Range
  pub given : GiveRanges f.dest.payloads ranges
  pub core : before.core ≡ new_view (record { config = replay_config config; calls = calls; said = f.said; ranges = ranges })

-- the input was made for the configuration, over this source
pub record IsMadeFor {S : Type 0} (config : Config) (old : S) (i : InputState S) : Type 0 where
  pub kind : i.kind ≡ kinds.Stream
  pub factor : i.factor ≡ config.factor
  pub start : i.start ≡ config.start
  pub found : i.found ≡ old

pub made_for : {S : Type 0} (config : Config) (old : S) (begun i : InputState S) → begun ≡ new_input config old → IsSameInput begun i → IsMadeFor config old i
made_for {S} config old begun i is same = record {
  kind = same.kind ∙ ap (λ (j : InputState S). j.kind) is;
  factor = same.factor ∙ ap (λ (j : InputState S). j.factor) is;
  start = same.start ∙ ap (λ (j : InputState S). j.start) is;
  found = same.found ∙ ap (λ (j : InputState S). j.found) is;
}

-- all that the serial run promises
pub record HasCome {S D F : Type 0} (t : Telling D F) (faults : S → ℕ) (left : S → Option (List ℕ)) (before b : BookState D) (begun i : InputState S) (old_caller new_caller : F) (r : Result RunEnd OutOfMemory) : Type 0 where
  pub called : OnOk r (HasCalled replays t.callers.gave t.callers.sends before b (t.callers.log old_caller) (t.callers.log new_caller))
  pub rests : OnOk r (DoesRest b)
  pub stopped : OnErr r (HasCalled replays t.callers.gave t.callers.sends before b (t.callers.log old_caller) (t.callers.log new_caller)
      ⊎ OneMoreRuns replays t.callers.gave t.callers.sends before b (t.callers.log old_caller) (t.callers.log new_caller))
  pub ended : IfOk r (EndsSo replays b)
  pub came : IfOk r (CameSo replays t.callers.gave before b i (t.callers.log old_caller) (t.callers.log new_caller))
  pub changed : (change : Change) → change_in b ≡ Some change → IsChangeOf replays t.callers.gave t.callers.sends before b i change
  pub no_change : OnErr r (change_in b ≡ None)
  pub read : OnOk r (IsInput faults left i)
  pub good : OnOk r (i.failed ≡ false)
  pub cut : OnErr r (StopsSo replays t.callers.gave faults left before b i (t.callers.log old_caller) (t.callers.log new_caller))
  pub input : IsSameInput begun i

-- what went on since the opening

pub record WentOn {D : Type 0} (config : Config) (calls : ℕ) (gave : ℕ → Bool) (sends : List ℕ → List ℕ) (f : FilesState D) (b : BookState D) (made : List Called) : Type 0 where
  pub is_setting : IsSettingOf config calls f b.core.records (setting_of b.core)
  pub said : b.core.opened.said ≡ f.said
  pub moments : AreGiven gave b.core.past
  pub called : replay_calls (setting_of b.core) sends b.core.past ≡ made
  pub unchanged : IsUnchanged b

pub went_on : {D : Type 0} (config : Config) (calls : ℕ) (gave : ℕ → Bool) (sends : List ℕ → List ℕ) (f : FilesState D) (before b : BookState D) (made : List Called) → StoodSo config calls f before → HasGoneOn gave sends before b made → WentOn config calls gave sends f b made
went_on config calls gave sends f before b made stood w =
    let opened = w.opened ∙ ap (λ (v : ReplayView). v.opened) stood.core in
    record {
      is_setting = record {
        ranges = stood.ranges;
        given = stood.given;
        is = ap (λ (o : Opened). setting_with o.config o.calls o.said o.ranges b.core.records) opened;
      };
      said = ap (λ (o : Opened). o.said) opened;
      moments = w.moments (subst (λ (v : ReplayView). AreGiven gave v.past) (sym stood.core) tt);
      called = w.called ∙ ap (λ (v : ReplayView). replay_calls (setting_of v) sends v.past ++ made) stood.core;
      unchanged = w.unchanged (subst (λ (v : ReplayView). first_change v.opened.said [] v.records ≡ None) (sym stood.core) refl);
    }

-- what came

some_of_all : (own records : List Record) → ((n : ℕ) → of_shard n own ≡ of_shard n records) → SomeCame own records
some_of_all own records all n = ([], sym (all n) ∙ sym (append-nil (of_shard n own)))

all_come : {D : Type 0} (b : BookState D) (xs : List Item) → AreCome (items_in b) xs → (n : ℕ) → of_shard n b.core.records ≡ of_shard n (records_in_items xs)
all_come b xs come n = records_come b.core.records xs n (come n)

some_come : {D : Type 0} (b : BookState D) (xs : List Item) → AreSomeCome (items_in b) xs → SomeCame b.core.records (records_in_items xs)
some_come b xs some n = (records_in_items (some n).0, some_records_come b.core.records xs (some n).0 n (some n).1)

some_came : {S D : Type 0} (gave : ℕ → Bool) (before : BookState D) (i : InputState S) (b : BookState D) (log log' : Option (List Called)) (r : RunEnd) → CameSo replays gave before b i log log' r → SomeCame b.core.records (records_in_items (handed i))
some_came gave before i b log log' ran.Finished came = some_of_all b.core.records (records_in_items (handed i)) (all_come b (handed i) came.items)
some_came gave before i b log log' ran.Spent came = some_of_all b.core.records (records_in_items (handed i)) (all_come b (handed i) came.items)
some_came gave before i b log log' ran.Down (inl came) = some_of_all b.core.records (records_in_items (handed i)) (all_come b (handed i) came.items)
some_came gave before i b log log' ran.Down (inr came) = some_come b (handed i) came.items

unchanged_in : {D : Type 0} (f : FilesState D) (b : BookState D) → b.core.opened.said ≡ f.said → IsUnchanged b → first_change f.said [] b.core.records ≡ None
unchanged_in f b said unchanged = ap (λ (told : SaidLists). first_change told [] b.core.records) (sym said) ∙ unchanged

all_records : {S D : Type 0} (f : FilesState D) (i : InputState S) (b : BookState D) → b.core.opened.said ≡ f.said → IsUnchanged b → AllItemsCame replays b i → AllCame f.said b.core.records (records_in_items (handed i))
all_records f i b said unchanged came =
    let lists = all_come b (handed i) came.items in
    record {
      lists = lists;
      unchanged = none_is f.said b.core.records (records_in_items (handed i)) (unchanged_in f b said unchanged) lists;
    }

-- where what succeeded in a call is owed, a call was made

none_owed : 1 ≤ 0 → ⊥
none_owed less = absurd (omega (arith, less))

owes_called : (s : ReplaySetting) (sends : List ℕ → List ℕ) (h : List Entry) → 1 ≤ length (owed_replay s h).places → replay_calls s sends h ≡ [] → ⊥
owes_called s sends [] some none = none_owed some
owes_called s sends (Ended lane reply m ∷ h) some none =
    let last : Called = record { name = s.base.config.function; event = sends (replay_event s (call_out h)); reply = reply } in
    let both : length (replay_calls s sends h ++ last ∷ []) ≡ length (replay_calls s sends h) + 1 = length-append (replay_calls s sends h) (last ∷ []) in
    let short : length (replay_calls s sends h ++ last ∷ []) ≡ 0 = ap (λ (cs : List Called). length cs) none in
    absurd (omega (arith, both, short))
owes_called s sends (Came shard first count m ∷ h) some none = none_owed some
owes_called s sends (Began lane places closing m ∷ h) some none = none_owed some
owes_called s sends (Gave by shard places fate line state m ∷ h) some none = none_owed some
owes_called s sends (Tried lane places closing tries m ∷ h) some none = none_owed some
owes_called s sends (Closed lane window m ∷ h) some none = none_owed some
owes_called s sends (Replayed shard places m ∷ h) some none = none_owed some
owes_called s sends (Shut m ∷ h) some none = none_owed some

-- so a book that is down by a disk was not refused
disk_came : {S D : Type 0} (config : Config) (calls : ℕ) (gave : ℕ → Bool) (sends : List ℕ → List ℕ) (f : FilesState D) (before b : BookState D) (i : InputState S) (log log' : Option (List Called))
    → StoodSo config calls f before → IsSound b → b.trouble ≡ Some trouble.Disk → CameSo replays gave before b i log log' ran.Down → AllItemsCame replays b i
disk_came config calls gave sends f before b i log log' stood sound disk (inl all) = all
disk_came config calls gave sends f before b i log log' stood sound disk (inr refused) =
    absurd (owes_called (setting_of b.core) sends b.core.past (sound.owes disk).some (went_on config calls gave sends f before b [] stood (refused.uncalled sends)).called)

-- why it ended

abbrev pub IsCauseIn : {D : Type 0} → DiskMeaning D → BookState D → Option Trouble → Type 0
IsCauseIn m b why = IsCause (Rose (m.faults b.found.used) (m.faults b.pair.used)) b.core.opened why

none_down : (why : Option Trouble) → is_some why ≡ false → why ≡ None
none_down None is = refl
none_down (Some why) is = absurd (cc)

down_some : {D : Type 0} (m : DiskMeaning D) (b : BookState D) (why : Option Trouble) → IsCauseIn m b why → is_some why ≡ true → IsReason why
down_some m b None cause is = absurd (cc)
down_some m b (Some trouble.Disk) cause is = tt
down_some m b (Some trouble.Dest) cause is = cause
down_some m b (Some (trouble.Changed change)) cause is = tt

-- the reason of an end

reason_for : {S D : Type 0} (m : DiskMeaning D) (gave : ℕ → Bool) (before : BookState D) (i : InputState S) (b : BookState D) (log log' : Option (List Called)) (r : RunEnd) → IsCauseIn m b b.trouble → CameSo replays gave before b i log log' r → EndsSo replays b r → HasReason b.trouble i.end r
reason_for m gave before i b log log' ran.Finished cause came so = came.ended
reason_for m gave before i b log log' ran.Spent cause came so = tt
reason_for m gave before i b log log' ran.Down cause came so = down_some m b b.trouble cause so

pub reason_of : {S D : Type 0} (m : DiskMeaning D) (gave : ℕ → Bool) (before : BookState D) (i : InputState S) (b : BookState D) (log log' : Option (List Called)) (r : Result RunEnd OutOfMemory) → IsCauseIn m b b.trouble → IfOk r (CameSo replays gave before b i log log') → IfOk r (EndsSo replays b) → IfOk r (HasReason b.trouble i.end)
reason_of m gave before i b log log' (Ok r) cause came so = reason_for m gave before i b log log' r cause came so
reason_of m gave before i b log log' (Err none) cause came so = tt

-- the change

few_records : (xs : List Item) → length (records_in_items xs) ≤ length xs
few_records [] = omega arith
few_records (Stream r ∷ xs) = (let few = few_records xs in omega (arith, few))
few_records (Queue m ∷ xs) = (let few = few_records xs in omega (arith, few))

change_is : {S D : Type 0} (config : Config) (calls : ℕ) (gave : ℕ → Bool) (sends : List ℕ → List ℕ) (f : FilesState D) (before b : BookState D) (i : InputState S) (change : Change) → StoodSo config calls f before
    → IsChangeOf replays gave sends before b i change → b.core.past ≡ [] → IsChanged f.said b.core.records b.core.past (records_in_items (handed i)) change
change_is config calls gave sends f before b i change stood of uncalled =
    let w = of.before in
    let went = went_on config calls gave sends f before w [] stood of.since in
    let front = records_in_items of.front in
    let list = records_in_items of.list in
    let rest = records_in_items of.rest in
    let parts : records_in_items (handed i) ≡ (front ++ list) ++ rest
    = ap records_in_items of.handed_out
    ∙ (items-append (of.front ++ of.list) of.rest
    ∙ ap (λ (rs : List Record). rs ++ rest) (items-append of.front of.list)) in
    let had_come = all_come w of.front of.had_come in
    let fewer = few_records of.list in
    let within = of.few in
    let unchanged : first_change f.said [] w.core.records ≡ None = ap (λ (told : SaidLists). first_change told [] w.core.records) (sym went.said) ∙ went.unchanged in
    let differs : first_change f.said w.core.records list ≡ Some change = ap (λ (told : SaidLists). first_change told w.core.records list) (sym went.said) ∙ of.differs_so in
    record {
      first = ap (first_change f.said []) (parts ∙ append_assoc front list rest) ∙ first_is f.said w.core.records front list rest change unchanged had_come differs;
      front = front;
      list = list;
      rest = rest;
      parts = parts;
      few = omega (arith, fewer, within);
      lists = all_come b of.front of.came;
      differs = differs_behind f.said w.core.records front list change had_come differs;
      uncalled = uncalled;
    }

-- how many calls

few_begun : (s : ReplaySetting) (h : List Entry) (counts : ReplayCounts) → AreLaws → IsReplay s h → AreCounts s h counts → calls_begun h ≤ 2 * counts.named
few_begun s h counts laws run are = subst (λ (k : ℕ). calls_begun h ≤ 2 * k) (sym are.named) (laws.within s h run)

few_calls : (sends : List ℕ → List ℕ) (s : ReplaySetting) (h : List Entry) (counts : ReplayCounts) → AreLaws → IsReplay s h → AreCounts s h counts → (call_out h).places ≡ [] → AreFewCalls sends s h counts
few_calls sends s h counts laws run are rests =
    let few : calls_begun h ≤ 2 * counts.named = few_begun s h counts laws run are in
    record { told = few; logged = subst (λ (k : ℕ). k ≤ 2 * counts.named) (sym (laws.logged s sends h run rests)) few }

-- one end after another

module _ {S D F : Type 0} (t : Telling D F) (faults : S → ℕ) (left_in : S → Option (List ℕ)) (config : Config) (calls : ℕ) (f : FilesState D) (old : S) (i : InputState S) (old_caller new_caller : F) (before b : BookState D) (counts : ReplayCounts) (new : Disks D) where
  abbrev Log : Option (List Called)
  Log = t.callers.log old_caller

  abbrev LogNow : Option (List Called)
  LogNow = t.callers.log new_caller

  cause_of : (e : ReplayEnd) (r : RunEnd) → AreLaws → StoodSo config calls f before → IsLeft t.disk f b → AreOf f b new → IsCauseIn t.disk b b.trouble → IsSound b → b.core.opened.said ≡ f.said → IsUnchanged b
      → ((change : Change) → change_in b ≡ Some change → IsChangeOf replays t.callers.gave t.callers.sends before b i change) → CameSo replays t.callers.gave before b i Log LogNow r → EndsSo replays b r → IsEndOf r b.trouble i.end e
      → IsCauseOf t.disk f (setting_of b.core) b.core.records b.core.past (records_in_items (handed i)) i.end new e
  cause_of (end.Finished why) r laws stood left of cause sound said unchanged changed came so is =
      let all = subst (CameSo replays t.callers.gave before b i Log LogNow) is.0 came in
      let over = subst (EndsSo replays b) is.0 so in
      let paid = sound.settled (none_down b.trouble over.0) in
      (all_records f i b said unchanged all, is.1, over.1, laws.left (setting_of b.core) b.core.past sound.run over.1 paid)
  cause_of end.CallsSpent r laws stood left of cause sound said unchanged changed came so is =
      let all = subst (CameSo replays t.callers.gave before b i Log LogNow) is came in
      let over = subst (EndsSo replays b) is so in
      (all_records f i b said unchanged all, all.ended, over.1.calls, over.1.left)
  cause_of end.DiskFault r laws stood left of cause sound said unchanged changed came so is =
      let down = subst (CameSo replays t.callers.gave before b i Log LogNow) is.0 came in
      let all = disk_came config calls t.callers.gave t.callers.sends f before b i Log LogNow stood sound is.1 down in
      (all_records f i b said unchanged all, all.ended, disk_rose t.disk f b new left of (subst (IsCauseIn t.disk b) is.1 cause))
  cause_of (end.Changed change) r laws stood left of cause sound said unchanged changed came so is =
      let told : change_in b ≡ Some change = ap (λ (why : Option Trouble). change_in (record b { trouble = why })) is.1 in
      change_is config calls t.callers.gave t.callers.sends f before b i change stood (changed change told) (subst (λ (why : Option Trouble). IsUncalled why b.core.past) is.1 sound.uncalled)
  cause_of (end.BadLine index) r laws stood left of cause sound said unchanged changed came so is = is

  trouble_is : (e : ReplayEnd) (r : RunEnd) → EndsSo replays b r → IsEndOf r b.trouble i.end e → b.trouble ≡ trouble_of e
  trouble_is (end.Finished why) r so is = none_down b.trouble (subst (EndsSo replays b) is.0 so).0
  trouble_is end.CallsSpent r so is = none_down b.trouble (subst (EndsSo replays b) is so).0
  trouble_is end.DiskFault r so is = is.1
  trouble_is (end.Changed change) r so is = is.1
  trouble_is (end.BadLine index) r so is = absurd is

  ended : (e : ReplayEnd) (r : RunEnd) → AreLaws → StoodSo config calls f before → IsLeft t.disk f b → AreOf f b new → IsCauseIn t.disk b b.trouble → IsSound b → AreCounts (setting_of b.core) b.core.past counts → IsMadeFor config old i
      → ((change : Change) → change_in b ≡ Some change → IsChangeOf replays t.callers.gave t.callers.sends before b i change)
      → HasCalled replays t.callers.gave t.callers.sends before b Log LogNow → DoesRest b → i.failed ≡ false → IsInput faults left_in i → CameSo replays t.callers.gave before b i Log LogNow r → EndsSo replays b r → IsEndOf r b.trouble i.end e
      → HasRun t faults left_in config calls f old i.source i.end old_caller new_caller b.core.past counts new e
  ended e r laws stood left of cause sound are_counts made changed called rests good read came so is =
      let went = went_on config calls t.callers.gave t.callers.sends f before b called.calls stood called.since in
      record {
        input = i;
        is_input = record { kind = made.kind; factor = made.factor; start = made.start; found = made.found; source = refl; good = good; read = read };
        read_to = refl;
        came = b.core.records;
        some_came = some_came t.callers.gave before i b Log LogNow r came;
        unchanged = unchanged_in f b went.said went.unchanged;
        setting = setting_of b.core;
        is_setting = went.is_setting;
        hand = in_hand b.trouble b.core.owed;
        headline = subst (λ (why : Option Trouble). Headline t.disk t.callers.gave f (setting_of b.core) b.core.past why (in_hand b.trouble b.core.owed) new) (trouble_is e r so is)
            (headline t.disk t.callers.gave f b new laws left of went.said went.moments);
        are_counts = are_counts;
        few_calls = few_calls t.callers.sends (setting_of b.core) b.core.past counts laws left.run are_counts rests;
        calls_made = subst (Grows Log LogNow) (sym went.called) called.logged;
        rests = rests;
        cause = cause_of e r laws stood left of cause sound went.said went.unchanged changed came so is;
      }

  fault_of : (why : Option Trouble) → IsLeft t.disk f b → AreOf f b new → IsCauseIn t.disk b why → change_in (record b { trouble = why }) ≡ None → IsFaultOf t.disk f new why
  fault_of None left of cause no_change = tt
  fault_of (Some trouble.Disk) left of cause no_change = disk_rose t.disk f b new left of cause
  fault_of (Some trouble.Dest) left of cause no_change = cause
  fault_of (Some (trouble.Changed change)) left of cause no_change = absurd (cc)

  -- the log, where want of memory came

  abbrev Logged : Type 0
  Logged = HasCalled replays t.callers.gave t.callers.sends before b Log LogNow ⊎ OneMoreRuns replays t.callers.gave t.callers.sends before b Log LogNow

  made_calls : Logged → List Called
  made_calls (inl called) = called.calls
  made_calls (inr more) = more.calls

  went : StoodSo config calls f before → (logged : Logged) → (made : List Called) × WentOn config calls t.callers.gave t.callers.sends f b made
  went stood (inl called) = (called.calls, went_on config calls t.callers.gave t.callers.sends f before b called.calls stood called.since)
  went stood (inr more) = (more.calls, went_on config calls t.callers.gave t.callers.sends f before b more.calls stood more.since)

  logged_so : StoodSo config calls f before → Logged → HasLogged t.callers.sends (setting_of b.core) b.core.past Log LogNow
  logged_so stood (inl called) =
      let on = went_on config calls t.callers.gave t.callers.sends f before b called.calls stood called.since in
      inl (subst (Grows Log LogNow) (sym on.called) called.logged)
  logged_so stood (inr more) =
      let s = setting_of b.core in
      let on = went_on config calls t.callers.gave t.callers.sends f before b more.calls stood more.since in
      let last : List ℕ → List Called = λ event. call_to (function_in b) t.callers.sends event more.reply ∷ [] in
      inr (record {
        out = subst (λ (places : List ℕ). 1 ≤ length places) more.running.out.places more.running.out.some;
        reply = more.reply;
        logged = subst (λ (cs : List Called). Grows Log LogNow (cs ++ call_to (function_in b) t.callers.sends (replay_event s (call_out b.core.past)) more.reply ∷ [])) (sym on.called)
            (subst (λ (event : List ℕ). Grows Log LogNow (more.calls ++ call_to (function_in b) t.callers.sends event more.reply ∷ [])) more.running.event more.logged);
      })

  -- the input, where want of memory came

  abbrev IsCutSo : Type 0
  IsCutSo = (cut : IsCut left_in i (items_in b)) × ((b.core.past ≡ [] → ⊥) → WasReadFirst faults config f.said old i.source cut.whole cut.bytes cut.more b.core.records i.end)

  cut_so : IsMadeFor config old i → b.core.opened.said ≡ f.said → IsUnchanged b → StopsSo replays t.callers.gave faults left_in before b i Log LogNow → IsCutSo
  cut_so made said unchanged (inl was) =
      let items : LineKind → ℕ → Start → List Item = λ kind factor start. from_start start (items_read kind factor i.whole i.bytes).items in (
        record {
          bytes = i.bytes;
          more = [];
          whole = i.whole;
          taken = subst (TakesFront (left_in i.found) (left_in i.source)) (sym (append-nil i.bytes)) was.read.taken;
          at_end = was.read.at_end;
          some = λ n. ([], sym (was.all.items n) ∙ sym (append-nil (items_in b n)));
        },
        λ called. record {
          ended = was.all.ended;
          stands = subst (λ (kind : LineKind). StandsSo kind config.factor (faults old) (faults i.source) i.whole i.bytes i.end) made.kind
              (subst (λ (factor : ℕ). StandsSo i.kind factor (faults old) (faults i.source) i.whole i.bytes i.end) made.factor
              (subst (λ (s : S). StandsSo i.kind i.factor (faults s) (faults i.source) i.whole i.bytes i.end) made.found (was.read.stands was.good)));
          nothing_more = refl;
          all = subst (λ (kind : LineKind). AllCame f.said b.core.records (records_in_items (items kind config.factor config.start))) made.kind
              (subst (λ (factor : ℕ). AllCame f.said b.core.records (records_in_items (items i.kind factor config.start))) made.factor
              (subst (λ (start : Start). AllCame f.said b.core.records (records_in_items (items i.kind i.factor start))) made.start
              (all_records f i b said unchanged was.all)));
        },
      )
  cut_so made said unchanged (inr was) = (was.cut, λ called. absurd (called was.going))

  stopped : AreLaws → StoodSo config calls f before → IsLeft t.disk f b → AreOf f b new → IsCauseIn t.disk b b.trouble → AreCounts (setting_of b.core) b.core.past counts → IsMadeFor config old i → Logged
      → StopsSo replays t.callers.gave faults left_in before b i Log LogNow → change_in b ≡ None → HasStopped t faults left_in config calls f old i.source i.end old_caller new_caller b.core.past counts new
  stopped laws stood left of cause are_counts made logged stops no_change =
      let on = (went stood logged).1 in
      let so = cut_so made on.said on.unchanged stops in
      let cut = so.0 in
      let items : LineKind → ℕ → Start → List Item = λ kind factor start. from_start start (items_read kind factor cut.whole cut.bytes).items in
      record {
        bytes = cut.bytes;
        more = cut.more;
        whole = cut.whole;
        taken = subst (λ (s : S). TakesFront (left_in s) (left_in i.source) (cut.bytes ++ cut.more)) made.found cut.taken;
        at_end = cut.at_end;
        came = b.core.records;
        some_came = subst (λ (kind : LineKind). SomeCame b.core.records (records_in_items (items kind config.factor config.start))) made.kind
            (subst (λ (factor : ℕ). SomeCame b.core.records (records_in_items (items i.kind factor config.start))) made.factor
            (subst (λ (start : Start). SomeCame b.core.records (records_in_items (items i.kind i.factor start))) made.start
            (some_come b (items i.kind i.factor i.start) cut.some)));
        called_last = so.1;
        unchanged = unchanged_in f b on.said on.unchanged;
        setting = setting_of b.core;
        is_setting = on.is_setting;
        trouble = b.trouble;
        fault = fault_of b.trouble left of cause no_change;
        hand = in_hand b.trouble b.core.owed;
        headline = headline t.disk t.callers.gave f b new laws left of on.said on.moments;
        are_counts = are_counts;
        few_calls = few_begun (setting_of b.core) b.core.past counts laws left.run are_counts;
        calls_made = logged_so stood logged;
      }

  -- both

  pub ended_by : (begun : InputState S) (r : Result RunEnd OutOfMemory) (e : ReplayEnd) → AreLaws → StoodSo config calls f before → IsLeft t.disk f b → AreOf f b new → IsCauseIn t.disk b b.trouble → IsSound b → AreCounts (setting_of b.core) b.core.past counts → IsMadeFor config old i
      → HasCome t faults left_in before b begun i old_caller new_caller r → EndsBy r b.trouble i.end e → HasRun t faults left_in config calls f old i.source i.end old_caller new_caller b.core.past counts new e
  ended_by begun (Ok r) e laws stood left of cause sound are_counts made come is =
      ended e r laws stood left of cause sound are_counts made come.changed come.called come.rests come.good come.read come.came come.ended is
  ended_by begun (Err none) e laws stood left of cause sound are_counts made come is = absurd is

  pub stopped_by : (begun : InputState S) (r : Result RunEnd OutOfMemory) → AreLaws → StoodSo config calls f before → IsLeft t.disk f b → AreOf f b new → IsCauseIn t.disk b b.trouble → AreCounts (setting_of b.core) b.core.past counts → IsMadeFor config old i
      → HasCome t faults left_in before b begun i old_caller new_caller r → IsErr r → HasStopped t faults left_in config calls f old i.source i.end old_caller new_caller b.core.past counts new
  stopped_by begun (Ok r) laws stood left of cause are_counts made come short = absurd (let clash : false ≡ true = short in cc)
  stopped_by begun (Err none) laws stood left of cause are_counts made come short = stopped laws stood left of cause are_counts made come.stopped come.cut come.no_change

-- what stays

pub found_stays : {D : Type 0} (gave : ℕ → Bool) (sends : List ℕ → List ℕ) (before b : BookState D) (log log' : Option (List Called)) (r : Result RunEnd OutOfMemory) → OnOk r (HasCalled replays gave sends before b log log')
    → OnErr r (HasCalled replays gave sends before b log log' ⊎ OneMoreRuns replays gave sends before b log log') → b.found ≡ before.found
found_stays gave sends before b log log' (Ok r) called stopped = called.since.found
found_stays gave sends before b log log' (Err none) called (inl stopped) = stopped.since.found
found_stays gave sends before b log log' (Err none) called (inr stopped) = stopped.since.found

pub opened_stays : {D : Type 0} (gave : ℕ → Bool) (sends : List ℕ → List ℕ) (before b : BookState D) (log log' : Option (List Called)) (r : Result RunEnd OutOfMemory) → OnOk r (HasCalled replays gave sends before b log log')
    → OnErr r (HasCalled replays gave sends before b log log' ⊎ OneMoreRuns replays gave sends before b log log') → b.core.opened ≡ before.core.opened
opened_stays gave sends before b log log' (Ok r) called stopped = called.since.opened
opened_stays gave sends before b log log' (Err none) called (inl stopped) = stopped.since.opened
opened_stays gave sends before b log log' (Err none) called (inr stopped) = stopped.since.opened
