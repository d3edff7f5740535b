-- What a call of a queue's book added, as the seats of a turn see it.
use Rattle.std.proofs.Common.{◌≡◌, ℕ, ◌+◌, true, List, [], ◌∷◌, ◌++◌, length, drop, reverse, refl, sym, ap, ap₂, ◌∙◌, subst, append_assoc, append-nil, arith}
use Rattle.std.specs.Prelude.{max, is_some, ⊤, Option, Some, None, Result, Ok, Err, IfOk, OnErr}
use Rattle.std.specs.Coded.{Coded}
use Rattle.std.proofs.lemmas.List.{drop_at}
use Rattle.esm_journal.specs.Pair.{PairState, pair_code}
use Rattle.esm_model.specs.declared.item.Message.{Message}
use Rattle.esm_model.specs.declared.book.Job.{Job}
use Rattle.esm_model.specs.declared.book.Trouble.{Trouble}
use Rattle.esm_model.specs.declared.entry.Entry.{Entry}
use Rattle.esm_model.specs.declared.setup.Told.{Told}
use Rattle.esm_model.specs.declared.setup.Setup.{Setup}
use Rattle.esm_model.specs.Setup.{no_setup}
use Rattle.esm_model.specs.Moment.{capped_moment}
use Rattle.esm_model.specs.Entries.{moment_of, last_moment, last_call, batch_of, is_running, is_shut, calls_begun}
use Rattle.esm_model.specs.Kept.{Meaning, change_of, MayFollowAll, IsLegal, AllBy, added}
use Rattle.esm_model.specs.Books.{entries_told, lane_of_entry}
use Rattle.esm_model.specs.GoingOn.{GoesOn, AllAt}
use Rattle.esm_queue_model.specs.QueueSetting.{QueueSetting, over_messages}
use Rattle.esm_queue_model.specs.QueueEntries.{queue_lane}
use Rattle.esm_queue_model.specs.QueueBatch.{last_queue_event, queue_calls}
use Rattle.esm_queue_model.specs.QueueBooks.{messages_told, queue_setting_told, queue_seat, queue_author, queue_may_follow}
use Rattle.esm_queue_book.specs.Batchers.{queue_calls_told, RunsQueueJob}
use Rattle.esm_queue_book.specs.Left.{AllDeleted, HasWaiting, QueueFinished, QueueLeft, QueueSpent}
use Rattle.esm_queue_book.proofs.Telling.{entries_more}
use Rattle.esm_queue_core.specs.CoreView.{CoreView, moment_for}
use Rattle.esm_queue_core.specs.Told.{queue_entry, told_entries, told_of}
use Rattle.esm_queue_core.proofs.ToldMessages.{messages-append}
use Rattle.esm_queue_book.specs.Books.{BookState, setup_of, is_down}
use Rattle.esm_queue_book.specs.Calls.{Added}
use Rattle.esm_queue_book.specs.Keeping.{IsSound, IsSetupOf}
use Rattle.esm_queue_book.proofs.Standing.{past_told}
use Rattle.esm_queue_book.proofs.Over.{FinishedAt}

-- a book, as a value that has a history
abbrev pub as_kept : {D : Type 0} → Coded D → Meaning (BookState D)
as_kept code = record {
  setup = λ b. setup_of code b;
  history = λ b. told_of b.core;
  mark = λ b. is_down b;
  change = λ b. change_of b.trouble;
  author = queue_author;
  may_follow = queue_may_follow;
}

-- entries of one seat at one moment

-- each of the entries is of the seat, and has the moment
abbrev pub AreOf : ℕ → ℕ → List Entry → Type 0
AreOf n m [] = ⊤
AreOf n m (e ∷ es) = (queue_seat (lane_of_entry e) ≡ n) × (moment_of e ≡ m) × AreOf n m es

-- of the batcher's seat
abbrev pub AreOwn : ℕ → ℕ → List Entry → Type 0
AreOwn k m es = AreOf (k + 1) m es

again : (m last t : ℕ) → m ≡ capped_moment (max t last) → m ≡ capped_moment (max t m)
again m last t is = grind (arith, is)

abbrev told_as : List Message → Entry → Told
told_as messages e = (queue_entry messages e).told

all_at : (t : ℕ) (messages : List Message) (h : List Told) (es : List Entry) (n m : ℕ) → m ≡ capped_moment (max t (last_moment (entries_told h))) → AreOf n m es → AllAt t h (told_entries messages es)
all_at t messages h [] n m is own = tt
all_at t messages h (e ∷ es) n m is own =
    let last : last_moment (entries_told (h ++ told_as messages e ∷ [])) ≡ m = ap last_moment (entries_more h (told_as messages e)) ∙ own.1 in
    let later : m ≡ capped_moment (max t (last_moment (entries_told (h ++ told_as messages e ∷ [])))) = again m (last_moment (entries_told h)) t is ∙ ap (λ x. capped_moment (max t x)) (sym last) in
    (own.1 ∙ is, all_at t messages (h ++ told_as messages e ∷ []) es n m later own.2)

all_by : (setup : Setup) (messages : List Message) (h : List Told) (es : List Entry) (n m : ℕ) → AreOf n m es → AllBy (queue_author setup) n h (told_entries messages es)
all_by setup messages h [] n m own = tt
all_by setup messages h (e ∷ es) n m own = (own.0, all_by setup messages (h ++ told_as messages e ∷ []) es n m own.2)

-- what comes after the beginning of a history that may follow, may follow that
may_back : (may : List Told → Told → Type 0) (g h more : List Told) → MayFollowAll may g (h ++ more) → MayFollowAll may (g ++ h) more
may_back may g [] more all = subst (λ (l : List Told). MayFollowAll may l more) (sym (append-nil g)) all
may_back may g (t ∷ h) more all = subst (λ (l : List Told). MayFollowAll may l more) (append_assoc g (t ∷ []) h) (may_back may (g ++ t ∷ []) h more all.1)

-- what a call added

-- these entries of the seat, at the moment that was handed in, over this list of all messages; a book that was down still
-- is, and only seat 0 tells it a change
pub record HasGone {D : Type 0} (n t : ℕ) (messages : List Message) (old new : BookState D) (es : List Entry) : Type 0 where
  pub told : told_of new.core ≡ told_of old.core ++ told_entries messages es
  pub opened : new.core.setting ≡ over_messages old.core.setting new.core.setting.messages
  pub found : new.found ≡ old.found
  pub own : AreOf n (moment_for old.core.past t) es
  pub down : is_down old ≡ true → is_down new ≡ true
  pub unchanged : (n ≡ 0 → ⊥) → change_of new.trouble ≡ change_of old.trouble

-- these entries of the batcher, and no messages, and it was told no change
pub record HasAdded {D : Type 0} (k t : ℕ) (old new : BookState D) (es : List Entry) : Type 0 where
  pub past : new.core.past ≡ reverse es ++ old.core.past
  pub told : told_of new.core ≡ told_of old.core ++ told_entries old.core.setting.messages es
  pub setting : new.core.setting ≡ old.core.setting
  pub found : new.found ≡ old.found
  pub own : AreOwn k (moment_for old.core.past t) es
  pub down : is_down old ≡ true → is_down new ≡ true
  pub change : change_of new.trouble ≡ change_of old.trouble

pub opened_same : {D : Type 0} (old new : BookState D) → new.core.setting ≡ old.core.setting → new.core.setting ≡ over_messages old.core.setting new.core.setting.messages
opened_same old new same = same ∙ ap (λ (s : QueueSetting). over_messages old.core.setting s.messages) (sym same)

pub gone : {D : Type 0} (k t : ℕ) (old new : BookState D) (es : List Entry) → HasAdded k t old new es → HasGone (k + 1) t old.core.setting.messages old new es
gone k t old new es has = record { told = has.told; opened = opened_same old new has.setting; found = has.found; own = has.own; down = has.down; unchanged = λ other. has.change }

-- nothing
pub has_none : {D : Type 0} (k t : ℕ) (old new : BookState D) → new.core ≡ old.core → new.found ≡ old.found → new.trouble ≡ old.trouble → HasAdded k t old new []
has_none k t old new core found trouble = record {
  past = ap (λ (v : CoreView). v.past) core;
  told = ap told_of core ∙ sym (append-nil (told_of old.core));
  setting = ap (λ (v : CoreView). v.setting) core;
  found = found;
  own = tt;
  down = λ is. ap is_some trouble ∙ is;
  change = ap change_of trouble;
}

no_trouble : (x : Option Trouble) → (is_some x ≡ true → ⊥) → x ≡ None
no_trouble None up = refl
no_trouble (Some trouble) up = absurd (up refl)

-- a book that was not down was told no change, and is told none by a fault of a disk
pub still_none : {D : Type 0} (old new : BookState D) → change_of new.trouble ≡ None → (is_down old ≡ true → ⊥) → change_of new.trouble ≡ change_of old.trouble
still_none old new none up = none ∙ sym (ap change_of (no_trouble old.trouble up))

-- entries that tell no messages leave the setting
pub setting_kept : {D : Type 0} (messages : List Message) (old new : BookState D) (es : List Entry) → Added messages old new es → messages_told (told_entries messages es) ≡ [] → IsSound old → IsSound new → new.core.setting ≡ old.core.setting
setting_kept messages old new es all none before after =
    let same : new.core.setting.messages ≡ old.core.setting.messages =
    after.messages ∙ (ap messages_told all.told ∙ (messages-append (told_of old.core) (told_entries messages es)
    ∙ (ap₂ (λ (xs ys : List Message). xs ++ ys) (sym before.messages) none ∙ append-nil old.core.setting.messages))) in
    all.opened ∙ ap (over_messages old.core.setting) same

-- the history of the new book is legal
abbrev pub IsLegalTold : {D : Type 0} → BookState D → Type 0
IsLegalTold b = (setup : Setup) → IsSetupOf setup b → IsLegal (queue_may_follow setup) (told_of b.core)

module _ {D : Type 0} (code : Coded D) (n t : ℕ) (messages : List Message) (old new : BookState D) (es : List Entry) where
  setup_same : HasGone n t messages old new es → setup_of code new ≡ setup_of code old
  setup_same has =
      ap₂ (λ (s : QueueSetting) (f : PairState D). record no_setup {
        config = s.config;
        calls = s.calls;
        visibility_ms = s.visibility;
        deletions = s.deletions;
        payloads = f.payloads;
        pair = (pair_code code).code f;
      }) has.opened has.found

  is_setup : HasGone n t messages old new es → IsSetupOf (setup_of code old) new
  is_setup has = record {
    config = ap (λ (s : QueueSetting). s.config) (sym has.opened);
    calls = ap (λ (s : QueueSetting). s.calls) (sym has.opened);
    visibility = ap (λ (s : QueueSetting). s.visibility) (sym has.opened);
    deletions = ap (λ (s : QueueSetting). s.deletions) (sym has.opened);
  }

  added_is : HasGone n t messages old new es → added (told_of old.core) (told_of new.core) ≡ told_entries messages es
  added_is has = ap (drop (length (told_of old.core))) has.told ∙ drop_at (told_of old.core) (told_entries messages es) (length (told_of old.core)) refl

  pub goes_on : HasGone n t messages old new es → IsLegalTold new → GoesOn (as_kept code) n old new
  goes_on has legal =
      let more : List Told = told_entries messages es in
      let whole : IsLegal (queue_may_follow (setup_of code old)) (told_of old.core ++ more) = subst (IsLegal (queue_may_follow (setup_of code old))) has.told (legal (setup_of code old) (is_setup has)) in
      record {
        setup_is = setup_same has;
        history_is = has.told ∙ ap (λ (xs : List Told). told_of old.core ++ xs) (sym (added_is has));
        legal = subst (MayFollowAll (queue_may_follow (setup_of code old)) (told_of old.core)) (sym (added_is has)) (may_back (queue_may_follow (setup_of code old)) [] (told_of old.core) more whole);
        own = subst (AllBy (queue_author (setup_of code old)) n (told_of old.core)) (sym (added_is has)) (all_by (setup_of code old) messages (told_of old.core) es n (moment_for old.core.past t) has.own);
        marked = has.down;
        unchanged = has.unchanged;
      }

  pub moments : HasGone n t messages old new es → AllAt t (told_of old.core) (added (told_of old.core) (told_of new.core))
  moments has =
      let is : moment_for old.core.past t ≡ capped_moment (max t (last_moment (entries_told (told_of old.core)))) = ap (λ (h : List Entry). capped_moment (max t (last_moment h))) (sym (past_told old.core)) in
      subst (AllAt t (told_of old.core)) (sym (added_is has)) (all_at t messages (told_of old.core) es n (moment_for old.core.past t) is has.own)

-- a history as it is told

-- the job is of the call that the batcher runs
pub record RunsAt (s : QueueSetting) (h : List Entry) (k : ℕ) (job : Job) : Type 0 where
  pub lane : job.lane ≡ queue_lane k
  pub running : is_running h (queue_lane k) ≡ true
  pub places : job.places ≡ batch_of (last_call h (queue_lane k))
  pub event : job.event ≡ last_queue_event s h (queue_lane k)

module _ {D : Type 0} (code : Coded D) (old b : BookState D) where
  setting_at : b.core.setting ≡ old.core.setting → IsSound b → queue_setting_told (setup_of code old) (told_of b.core) ≡ old.core.setting
  setting_at same sound = ap (over_messages old.core.setting) (sym sound.messages ∙ ap (λ (s : QueueSetting). s.messages) same)

  pub calls_at : b.core.setting ≡ old.core.setting → IsSound b → (sends : List ℕ → List ℕ) (k : ℕ) → queue_calls_told (setup_of code old) sends (told_of b.core) k ≡ queue_calls old.core.setting sends b.core.past k
  calls_at same sound sends k = ap₂ (λ (s : QueueSetting) (h : List Entry). queue_calls s sends h k) (setting_at same sound) (past_told b.core)

  pub running_at : (k : ℕ) → is_running (entries_told (told_of b.core)) (queue_lane k) ≡ is_running b.core.past (queue_lane k)
  running_at k = ap (λ (h : List Entry). is_running h (queue_lane k)) (past_told b.core)

  batch_at : (k : ℕ) → batch_of (last_call (entries_told (told_of b.core)) (queue_lane k)) ≡ batch_of (last_call b.core.past (queue_lane k))
  batch_at k = ap (λ (h : List Entry). batch_of (last_call h (queue_lane k))) (past_told b.core)

  event_at : b.core.setting ≡ old.core.setting → IsSound b → (k : ℕ) → last_queue_event (queue_setting_told (setup_of code old) (told_of b.core)) (entries_told (told_of b.core)) (queue_lane k) ≡ last_queue_event old.core.setting b.core.past (queue_lane k)
  event_at same sound k = ap₂ (λ (s : QueueSetting) (h : List Entry). last_queue_event s h (queue_lane k)) (setting_at same sound) (past_told b.core)

  pub runs_told : b.core.setting ≡ old.core.setting → IsSound b → (k : ℕ) (job : Job) → RunsAt old.core.setting b.core.past k job → RunsQueueJob (setup_of code old) (told_of b.core) k job
  runs_told same sound k job runs = record {
    lane = runs.lane;
    running = running_at k ∙ runs.running;
    places = runs.places ∙ sym (batch_at k);
    event = runs.event ∙ sym (event_at same sound k);
  }

  pub finished_told : b.core.setting ≡ old.core.setting → IsSound b → (k : ℕ) → FinishedAt old.core.setting b.core.past → QueueFinished (setup_of code old) (told_of b.core) k
  finished_told same sound k over = record {
    shut = ap is_shut (past_told b.core) ∙ over.0;
    deleted = subst (λ (s : QueueSetting). AllDeleted s (entries_told (told_of b.core))) (sym (setting_at same sound))
        (subst (λ (h : List Entry). AllDeleted old.core.setting h) (sym (past_told b.core)) over.1);
  }

  pub left_told : b.core.setting ≡ old.core.setting → IsSound b → (k : ℕ) → HasWaiting old.core.setting b.core.past → QueueLeft (setup_of code old) (told_of b.core) k
  left_told same sound k some =
      subst (λ (s : QueueSetting). HasWaiting s (entries_told (told_of b.core))) (sym (setting_at same sound))
      (subst (λ (h : List Entry). HasWaiting old.core.setting h) (sym (past_told b.core)) some)

  pub spent_told : calls_begun b.core.past ≡ old.core.setting.calls → QueueSpent (setup_of code old) (told_of b.core)
  spent_told is = ap calls_begun (past_told b.core) ∙ is

  pub runs_past : b.core.setting ≡ old.core.setting → IsSound b → (k : ℕ) (job : Job) → RunsQueueJob (setup_of code old) (told_of b.core) k job → RunsAt old.core.setting b.core.past k job
  runs_past same sound k job runs = record {
    lane = runs.lane;
    running = sym (running_at k) ∙ runs.running;
    places = runs.places ∙ batch_at k;
    event = runs.event ∙ event_at same sound k;
  }

-- of an answer

pub ok_then : {T E : Type 0} (P Q : T → Type 0) (r : Result T E) → ((x : T) → P x → Q x) → IfOk r P → IfOk r Q
ok_then P Q (Ok x) then is = then x is
ok_then P Q (Err e) then is = tt

pub err_then : {T E : Type 0} (P Q : Type 0) (r : Result T E) → (P → Q) → OnErr r P → OnErr r Q
err_then P Q (Ok x) then is = tt
err_then P Q (Err e) then is = then is
