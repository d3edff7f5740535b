-- What the one caller of a replay's book knows of each of its calls.
use Rattle.std.proofs.Common.{◌≡◌, ℕ, true, false, List, [], ◌∷◌, ◌++◌, reverse, refl, sym, ap, ap₂, ◌∙◌, subst, append-nil, Option, Some, None, inl, inr, ◌⊎◌}
use Rattle.std.specs.Prelude.{is_some, map, ◌↔◌, Result, Ok, Err, OnOk, OnErr, IfOk, IfErr, IsErrOf, IsSome, All}
use Rattle.esm_io.specs.Meanings.{DiskMeaning}
use Rattle.esm_model.specs.declared.item.Item.{Item}
use Rattle.esm_model.specs.Records.{Record}
use Rattle.esm_model.specs.declared.lane.LaneId.{LaneId}
use Rattle.esm_model.specs.declared.book.Change.{Change}
use Rattle.esm_model.specs.declared.book.Job.{Job}
use Rattle.esm_model.specs.declared.book.Next.{Next}
use Rattle.esm_model.specs.declared.book.Next.TheVariants as answers
use Rattle.esm_model.specs.declared.book.Trouble.{Trouble}
use Rattle.esm_model.specs.declared.book.Trouble.TheVariants as trouble
use Rattle.esm_model.specs.declared.book.BookError.{BookError}
use Rattle.esm_model.specs.declared.book.BookError.TheVariants as why
use Rattle.esm_model.specs.declared.book.CameError.{CameError}
use Rattle.esm_model.specs.declared.book.CameError.TheVariants as refusal
use Rattle.esm_model.specs.declared.entry.Reply.{Reply}
use Rattle.esm_model.specs.declared.entry.Entry.{Entry}
use Rattle.esm_model.specs.declared.entry.Entry.TheVariants.{Ended}
use Rattle.esm_model.specs.Kept.{change_of}
use Rattle.esm_model.specs.GoingOn.{change_told}
use Rattle.esm_model.specs.Coming.{Come, SomeCome, StayAsTheyAre, items_of}
use Rattle.esm_serial.specs.Adding.{AddsNoCall, AddsCall, IsAnswered}
use Rattle.esm_replay.specs.Records.{of_shard}
use Rattle.esm_replay_model.specs.Pieces.{succeeded_of}
use Rattle.esm_replay_model.specs.ReplayRun.{call_out}
use Rattle.esm_replay_core.specs.declared.decisions.Opened.{Opened}
use Rattle.esm_replay_core.specs.declared.decisions.ReplayNext.{ReplayNext}
use Rattle.esm_replay_core.specs.declared.decisions.ReplayNext.TheVariants as next
use Rattle.esm_replay_core.specs.View.{ReplayView, setting_of, moment_for}
use Rattle.esm_replay_core.specs.Deciding.{next_of, next_entries, replayed_entries, done_entries}
use Rattle.esm_replay_book.specs.Books.{BookState}
use Rattle.esm_replay_book.specs.Calls.{Added, AddedAll, AddedSome, IsFirstChange, IsJob, RunsCall, IsSame}
use Rattle.esm_replay_book.specs.Keeping.{IsSound}
use Rattle.esm_replay_book.specs.Serving.{HasGoneOn, IsUnchanged, IsGoing, DoesRest, RunsJob, HasFinished, IsSpent, is_down, change_in, item_of, items_in, records_in_items, next_as, IsRecord, Differs, function_in}
use Rattle.esm_replay_book.proofs.Going.{same_setting}
use Rattle.esm_replay_book.proofs.Items.{come_behind}
use Rattle.esm_replay_book.proofs.Leading.{stays_so, came_on, asked_on, done_on, stopped_on, spent_so, finished_so}

-- records that are brought

pub none_some : {A : Type 0} (o : Option A) → (IsSome o → ⊥) → o ≡ None
none_some None never = refl
none_some (Some x) never = absurd (never refl)

-- what a call of `came` promises
pub record CameBy {D : Type 0} (m : DiskMeaning D) (old new : BookState D) (records : List Record) (result : Result (Unit {0}) CameError) : Type 0 where
  pub added : OnOk result (AddedAll m (old.core.records ++ records) old new [])
  pub no_fault : IsErrOf result refusal.DiskFault → ⊥
  pub changed : (change : Change) → IsErrOf result (refusal.StreamChanged change) → (old.trouble ≡ None) × IsFirstChange old.core records change × (new ≡ record old { trouble = Some (trouble.Changed change) })
  pub down : IsErrOf result refusal.Down ↔ IsSome old.trouble
  pub left : IsErrOf result refusal.Down → new ≡ old
  pub no_memory : IsErrOf result refusal.OutOfMemory → IsSame old new

-- what the caller knows of it
pub record Brought {D : Type 0} (t : ℕ) (old new : BookState D) (list : List Item) (result : Result (Unit {0}) CameError) : Type 0 where
  pub since : AddsNoCall HasGoneOn t old new
  pub going : IsGoing new
  pub came : OnOk result (Come (items_in old) (items_in new) list)
  pub some : SomeCome (items_in old) (items_in new) list
  pub function : function_in new ≡ function_in old
  pub up : OnOk result (is_down new ≡ false)
  pub down : IfErr result (λ e. (e ≡ refusal.OutOfMemory) ⊎ (is_down new ≡ true))
  pub changed : (change : Change) → IsErrOf result (refusal.StreamChanged change) → Differs old list change
  pub refused : (change : Change) → IsErrOf result (refusal.StreamChanged change) → StayAsTheyAre (items_in old) (items_in new)
  pub tells : change_in new ≡ change_told (change_in old) result

-- the items of a book with the same records
items_stay : {D : Type 0} (old new : BookState D) → new.core.records ≡ old.core.records → StayAsTheyAre (items_in old) (items_in new)
items_stay old new same n = ap (λ (rs : List Record). map item_of (of_shard n rs)) same

-- where the records stay, none of the list came
none_come : {D : Type 0} (old new : BookState D) (list : List Item) → new.core ≡ old.core → SomeCome (items_in old) (items_in new) list
none_come old new list core n = (items_of n list, ap (λ (v : ReplayView). map item_of (of_shard n v.records) ++ items_of n list) (sym core))

all_come : {D : Type 0} (old new : BookState D) (list : List Item) → All IsRecord list → new.core.records ≡ old.core.records ++ records_in_items list → Come (items_in old) (items_in new) list
all_come old new list all records n = ap (λ (rs : List Record). map item_of (of_shard n rs)) records ∙ come_behind n old.core.records list all

is_some_true : {A : Type 0} (o : Option A) → IsSome o → is_some o ≡ true
is_some_true o some = some

module _ {D : Type 0} (m : DiskMeaning D) (t : ℕ) (old new : BookState D) (list : List Item) (all : All IsRecord list) (going : IsGoing old) (unchanged : IsUnchanged new) where
  brought_ok : (u : Unit {0}) → CameBy m old new (records_in_items list) (Ok u) → Brought t old new list (Ok u)
  brought_ok u c =
      let a = c.added.added in
      let come = all_come old new list all a.records_are in
      let was : old.trouble ≡ None = none_some old.trouble (λ some. (let clash = c.down.1 some in cc)) in
      record {
        since = came_on t (old.core.records ++ records_in_items list) old new going unchanged a;
        going = a.past ∙ going;
        came = come;
        some = λ n. ([], sym (come n) ∙ sym (append-nil (items_in new n)));
        function = ap (λ (o : Opened). o.config.function) a.opened;
        up = ap (λ (o : Option Trouble). is_some o) c.added.trouble;
        down = tt;
        changed = λ change is. absurd (cc);
        refused = λ change is. absurd (cc);
        tells = ap change_of (c.added.trouble ∙ sym was);
      }

  brought_same : (e : CameError) → new.core ≡ old.core → new.found ≡ old.found → ((e ≡ refusal.OutOfMemory) ⊎ (is_down new ≡ true)) → ((change : Change) → IsErrOf {T = Unit {0}} (Err e) (refusal.StreamChanged change) → Differs old list change)
      → change_in new ≡ change_told (change_in old) (Err e) → Brought t old new list (Err e)
  brought_same e core found down changed tells = record {
    since = stays_so t old new core found;
    going = ap (λ (v : ReplayView). v.past) core ∙ going;
    came = tt;
    some = none_come old new list core;
    function = ap (λ (v : ReplayView). v.opened.config.function) core;
    up = tt;
    down = down;
    changed = changed;
    refused = λ change is. items_stay old new (ap (λ (v : ReplayView). v.records) core);
    tells = tells;
  }

  pub brought : (result : Result (Unit {0}) CameError) → CameBy m old new (records_in_items list) result → Brought t old new list result
  brought (Ok u) c = brought_ok u c
  brought (Err refusal.DiskFault) c = absurd (c.no_fault refl)
  brought (Err (refusal.StreamChanged change)) c =
      let found = c.changed change refl in
      let is = found.2 in
      let tells : change_in new ≡ Some change = ap (λ (b : BookState D). change_of b.trouble) is in
      brought_same (refusal.StreamChanged change) (ap (λ (b : BookState D). b.core) is) (ap (λ (b : BookState D). b.found) is) (inr (ap (λ (b : BookState D). is_down b) is))
      (λ other same. (c.changed other same).1) tells
  brought (Err refusal.Down) c =
      let is = c.left refl in
      let down : is_down new ≡ true = ap (λ (b : BookState D). is_down b) is ∙ is_some_true old.trouble (c.down.0 refl) in
      brought_same refusal.Down (ap (λ (b : BookState D). b.core) is) (ap (λ (b : BookState D). b.found) is) (inr down) (λ change same. absurd (cc)) (ap (λ (b : BookState D). change_in b) is)
  brought (Err refusal.OutOfMemory) c =
      let is = c.no_memory refl in
      brought_same refusal.OutOfMemory (ap (λ (b : BookState D). b.core) is) (ap (λ (b : BookState D). b.found) is) (inl refl) (λ change same. absurd (cc)) (ap (λ (b : BookState D). change_in b) is)

-- where there was no memory for the list
pub not_brought : {D : Type 0} (t : ℕ) (b : BookState D) (list : List Item) → IsGoing b → Brought t b b list (Err refusal.OutOfMemory)
not_brought t b list going = record {
  since = stays_so t b b refl refl;
  going = going;
  came = tt;
  some = none_come b b list refl;
  function = refl;
  up = tt;
  down = inl refl;
  changed = λ change same. absurd (cc);
  refused = λ change same. absurd (cc);
  tells = refl;
}

-- what is asked

-- what a call of `next` promises
pub record AskBy {D : Type 0} (m : DiskMeaning D) (t : ℕ) (old new : BookState D) (result : Result ReplayNext BookError) : Type 0 where
  pub answer : IfOk result (λ n. n ≡ next_of (setting_of old.core) old.core.past)
  pub added : OnOk result (AddedAll m old.core.records old new (next_entries (next_of (setting_of old.core) old.core.past) (moment_for old.core.past t)))
  pub runs : IfOk result (RunsCall (setting_of new.core) new.core.past)
  pub no_fault : IsErrOf result why.DiskFault → ⊥
  pub no_dest : IsErrOf result why.DestFault → ⊥
  pub down : IsErrOf result why.Down ↔ IsSome old.trouble
  pub left : IsErrOf result why.Down → new ≡ old
  pub no_memory : IsErrOf result why.OutOfMemory → IsSame old new

-- what the caller knows of it
pub record Asked {D : Type 0} (t : ℕ) (old new : BookState D) (result : Result Next BookError) : Type 0 where
  pub since : AddsNoCall HasGoneOn t old new
  pub items : StayAsTheyAre (items_in old) (items_in new)
  pub change : change_in new ≡ change_in old
  pub function : function_in new ≡ function_in old
  pub answer : IfOk result (IsAnswered DoesRest RunsJob new)
  pub finished : result ≡ Ok answers.Finished → HasFinished new
  pub spent : result ≡ Ok answers.Spent → IsSpent new
  pub rests : OnErr result (DoesRest new)
  pub up : OnOk result (is_down new ≡ false)
  pub down : IfErr result (λ e. (e ≡ why.OutOfMemory) ⊎ (is_down new ≡ true))

abbrev answered : Next → Result Next BookError
answered x = Ok x

module _ {D : Type 0} (m : DiskMeaning D) (t : ℕ) (old new : BookState D) (rests : DoesRest old) (sound : IsSound new) where
  -- where no call began the history is as it was
  same_past : (n : ReplayNext) → n ≡ next_of (setting_of old.core) old.core.past → next_entries n (moment_for old.core.past t) ≡ [] → Added old.core.records old new (next_entries (next_of (setting_of old.core) old.core.past) (moment_for old.core.past t)) → new.core.past ≡ old.core.past
  same_past n is none a =
      a.past
      ∙ (ap (λ (x : ReplayNext). reverse (next_entries x (moment_for old.core.past t)) ++ old.core.past) (sym is)
      ∙ ap (λ (es : List Entry). reverse es ++ old.core.past) none)

  -- and what is next
  same_next : (n : ReplayNext) → n ≡ next_of (setting_of old.core) old.core.past → new.core.past ≡ old.core.past → Added old.core.records old new (next_entries (next_of (setting_of old.core) old.core.past) (moment_for old.core.past t)) → n ≡ next_of (setting_of new.core) new.core.past
  same_next n is past a = is ∙ sym (ap₂ next_of (same_setting new.core old.core a.opened a.records_are) past)

  asked_ok : (n : ReplayNext) → AskBy m t old new (Ok n) → (x : Next) → IsAnswered DoesRest RunsJob new x → (answered x ≡ answered answers.Finished → HasFinished new) → (answered x ≡ answered answers.Spent → IsSpent new) → Asked t old new (Ok x)
  asked_ok n c x answer finished spent =
      let a = c.added.added in
      let was : old.trouble ≡ None = none_some old.trouble (λ some. (let clash = c.down.1 some in cc)) in
      record {
        since = asked_on t old new a;
        items = items_stay old new a.records_are;
        change = ap change_of (c.added.trouble ∙ sym was);
        function = ap (λ (o : Opened). o.config.function) a.opened;
        answer = answer;
        finished = finished;
        spent = spent;
        rests = tt;
        up = ap (λ (o : Option Trouble). is_some o) c.added.trouble;
        down = tt;
      }

  asked_next : (n : ReplayNext) → AskBy m t old new (Ok n) → Asked t old new (Ok (next_as n))
  asked_next (next.Call job) c = asked_ok (next.Call job) c (answers.Call job) c.runs (λ is. absurd (cc)) (λ is. absurd (cc))
  asked_next next.Spent c =
      let past = same_past next.Spent c.answer refl c.added.added in
      asked_ok next.Spent c answers.Spent (ap (λ (h : List Entry). (call_out h).places) past ∙ rests) (λ is. absurd (cc)) (λ is. spent_so new sound.run (same_next next.Spent c.answer past c.added.added))
  asked_next next.Finished c =
      let past = same_past next.Finished c.answer refl c.added.added in
      asked_ok next.Finished c answers.Finished (ap (λ (h : List Entry). (call_out h).places) past ∙ rests) (λ is. finished_so (setting_of new.core) new.core.past (same_next next.Finished c.answer past c.added.added)) (λ is. absurd (cc))

  asked_same : (e : BookError) → new.core ≡ old.core → new.found ≡ old.found → change_in new ≡ change_in old → ((e ≡ why.OutOfMemory) ⊎ (is_down new ≡ true)) → Asked t old new (Err e)
  asked_same e core found change down = record {
    since = stays_so t old new core found;
    items = items_stay old new (ap (λ (v : ReplayView). v.records) core);
    change = change;
    function = ap (λ (v : ReplayView). v.opened.config.function) core;
    answer = tt;
    finished = λ is. absurd (cc);
    spent = λ is. absurd (cc);
    rests = ap (λ (v : ReplayView). (call_out v.past).places) core ∙ rests;
    up = tt;
    down = down;
  }

  asked_err : (e : BookError) → AskBy m t old new (Err e) → Asked t old new (Err e)
  asked_err why.DiskFault c = absurd (c.no_fault refl)
  asked_err why.DestFault c = absurd (c.no_dest refl)
  asked_err why.Down c =
      let is = c.left refl in
      asked_same why.Down (ap (λ (b : BookState D). b.core) is) (ap (λ (b : BookState D). b.found) is) (ap (λ (b : BookState D). change_in b) is)
      (inr (ap (λ (b : BookState D). is_down b) is ∙ is_some_true old.trouble (c.down.0 refl)))
  asked_err why.OutOfMemory c =
      let is = c.no_memory refl in
      asked_same why.OutOfMemory (ap (λ (b : BookState D). b.core) is) (ap (λ (b : BookState D). b.found) is) (ap (λ (b : BookState D). change_in b) is) (inl refl)

  pub asked_with : (n : ReplayNext) (x : Next) → x ≡ next_as n → AskBy m t old new (Ok n) → Asked t old new (Ok x)
  asked_with n x is c = subst (λ (y : Next). Asked t old new (Ok y)) (sym is) (asked_next n c)

  pub not_asked : (e : BookError) → AskBy m t old new (Err e) → Asked t old new (Err e)
  not_asked e c = asked_err e c

-- what is ended

-- what a call of `done` promises
pub record DoneBy {D : Type 0} (m : DiskMeaning D) (t : ℕ) (old new : BookState D) (job : Job) (reply : Reply) (result : Result ℕ BookError) : Type 0 where
  pub added : OnOk result (AddedAll m old.core.records old new (done_entries (setting_of old.core) old.core.past job.lane reply (moment_for old.core.past t)))
  pub stopped : IsErrOf result why.DiskFault → AddedSome m old.core.records old new (done_entries (setting_of old.core) old.core.past job.lane reply (moment_for old.core.past t))
  pub no_dest : IsErrOf result why.DestFault → ⊥
  pub not_down : IsErrOf result why.Down → ⊥
  pub up : old.trouble ≡ None
  pub no_memory : IsErrOf result why.OutOfMemory → IsSame old new

-- what the caller knows of it
pub record EndedBy {D : Type 0} (t : ℕ) (old new : BookState D) (job : Job) (reply : Reply) (result : Result ℕ BookError) : Type 0 where
  pub called : (IsErrOf result why.OutOfMemory → ⊥) → AddsCall HasGoneOn t old new (function_in old) job.event reply
  pub rests : (IsErrOf result why.OutOfMemory → ⊥) → DoesRest new
  pub items : StayAsTheyAre (items_in old) (items_in new)
  pub change : change_in new ≡ change_in old
  pub function : function_in new ≡ function_in old
  pub no_end : IsErrOf result why.OutOfMemory → AddsNoCall HasGoneOn t old new
  pub runs : IsErrOf result why.OutOfMemory → RunsJob new job
  pub down : IfErr result (λ e. (e ≡ why.OutOfMemory) ⊎ (is_down new ≡ true))

rests_ended : (lane : LaneId) (reply : Reply) (m n : ℕ) (places : List ℕ) (h : List Entry) → (call_out (reverse (Ended lane reply m ∷ replayed_entries n places m) ++ h)).places ≡ []
rests_ended lane reply m n [] h = refl
rests_ended lane reply m n (i ∷ places) h = refl

module _ {D : Type 0} (m : DiskMeaning D) (t : ℕ) (old new : BookState D) (job : Job) (reply : Reply) (runs : RunsJob old job) (sound : IsSound new) where
  ended_ok : (count : ℕ) → DoneBy m t old new job reply (Ok count) → EndedBy t old new job reply (Ok count)
  ended_ok count c =
      let a = c.added.added in
      let call = succeeded_of (setting_of old.core) (call_out old.core.past) reply in
      record {
        called = λ other. done_on m t old new job reply runs c.added;
        rests = λ other. ap (λ (h : List Entry). (call_out h).places) a.past ∙ rests_ended job.lane reply (moment_for old.core.past t) call.shard call.places old.core.past;
        items = items_stay old new a.records_are;
        change = ap change_of (c.added.trouble ∙ sym c.up);
        function = ap (λ (o : Opened). o.config.function) a.opened;
        no_end = λ is. absurd (cc);
        runs = λ is. absurd (cc);
        down = tt;
      }

  ended_disk : DoneBy m t old new job reply (Err why.DiskFault) → EndedBy t old new job reply (Err why.DiskFault)
  ended_disk c =
      let some = c.stopped refl in
      let a = some.added in
      let gone : (new.trouble ≡ None → ⊥) = λ up. (let clash : Some trouble.Disk ≡ None = sym some.trouble ∙ up in cc) in
      record {
        called = λ other. stopped_on m t old new job reply runs some;
        rests = λ other. sound.down_rests gone;
        items = items_stay old new a.records_are;
        change = ap change_of some.trouble ∙ ap change_of (sym c.up);
        function = ap (λ (o : Opened). o.config.function) a.opened;
        no_end = λ is. absurd (cc);
        runs = λ is. absurd (cc);
        down = inr (ap (λ (o : Option Trouble). is_some o) some.trouble);
      }

  ended_none : DoneBy m t old new job reply (Err why.OutOfMemory) → EndedBy t old new job reply (Err why.OutOfMemory)
  ended_none c =
      let is = c.no_memory refl in
      let core : new.core ≡ old.core = ap (λ (b : BookState D). b.core) is in
      record {
        called = λ other. absurd (other refl);
        rests = λ other. absurd (other refl);
        items = items_stay old new (ap (λ (v : ReplayView). v.records) core);
        change = ap (λ (b : BookState D). change_in b) is;
        function = ap (λ (v : ReplayView). v.opened.config.function) core;
        no_end = λ same. stays_so t old new core (ap (λ (b : BookState D). b.found) is);
        runs = λ same. subst (λ (v : ReplayView). IsJob (setting_of v) v.past job) (sym core) runs;
        down = inl refl;
      }

  pub ended_with : (result : Result ℕ BookError) → DoneBy m t old new job reply result → EndedBy t old new job reply result
  ended_with (Ok count) c = ended_ok count c
  ended_with (Err why.DiskFault) c = ended_disk c
  ended_with (Err why.DestFault) c = absurd (c.no_dest refl)
  ended_with (Err why.Down) c = absurd (c.not_down refl)
  ended_with (Err why.OutOfMemory) c = ended_none c
