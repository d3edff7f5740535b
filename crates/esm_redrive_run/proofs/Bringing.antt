-- Messages come to a redrive's book, or its input ends.
use Rattle.std.proofs.Common.{◌≡◌, ◌∙◌, ◌+◌, ◌≤◌, ℕ, true, false, List, [], ◌∷◌, ◌++◌, length, Option, Some, None, ap, append-nil, arith, inl, inr, refl, subst, sym}
use Rattle.std.specs.Prelude.{◌⊎◌, ◌↔◌, is_some, Result, Ok, Err, IfErr, OnOk, OnErr, IsErrOf, IsSome, reverse}
use Rattle.std.specs.List.{All}
use Rattle.esm_io.specs.Meanings.{DiskMeaning, DestMeaning}
use Rattle.esm_journal.specs.State.{JournalState}
use Rattle.esm_model.specs.declared.book.BookError.{BookError}
use Rattle.esm_model.specs.declared.book.BookError.TheVariants as why
use Rattle.esm_model.specs.declared.book.CameError.{CameError}
use Rattle.esm_model.specs.declared.book.CameError.TheVariants as refusal
use Rattle.esm_model.specs.declared.book.Change.{Change}
use Rattle.esm_model.specs.declared.book.Trouble.{Trouble}
use Rattle.esm_model.specs.declared.book.Trouble.TheVariants as trouble
use Rattle.esm_model.specs.declared.entry.Fate.{Fate}
use Rattle.esm_model.specs.declared.entry.Fate.TheVariants.{Filtered, Exhausted}
use Rattle.esm_model.specs.declared.entry.Entry.{Entry}
use Rattle.esm_model.specs.declared.entry.Entry.TheVariants.{Shut}
use Rattle.esm_model.specs.declared.item.Message.{Message}
use Rattle.esm_model.specs.declared.lane.LaneId.{LaneId}
use Rattle.esm_model.specs.declared.called.Called.{Called}
use Rattle.esm_model.specs.Entries.{is_shut, is_running}
use Rattle.esm_model.specs.GoingOn.{change_told}
use Rattle.esm_model.specs.Kept.{change_of}
use Rattle.esm_model.specs.ValidMessage.{IsValidMessage}
use Rattle.esm_queue_core.specs.Coming.{gave_entries}
use Rattle.esm_queue_core.specs.CoreView.{moment_for}
use Rattle.esm_queue_model.specs.QueueEntries.{queue_lane}
use Rattle.esm_redrive_model.specs.RedriveSetting.{RedriveSetting}
use Rattle.esm_redrive_model.specs.RedriveReport.{redrive_calls}
use Rattle.esm_redrive_core.specs.declared.decisions.RedriveEntry.{RedriveEntry}
use Rattle.esm_redrive_core.specs.RedriveView.{RedriveView}
use Rattle.esm_redrive_core.specs.Coming.{known_from, dropped_from}
use Rattle.esm_redrive_core.specs.Adding.{came_from, came_entries}
use Rattle.esm_redrive_core.specs.Ahead.{IsConsistent}
use Rattle.esm_redrive_core.specs.Refusing.{IsFirstChange}
use Rattle.esm_redrive_core.specs.Told.{MayCome, redrive_entries}
use Rattle.esm_redrive_book.specs.Calls.{Added, AddedAll, AddedSome, AddedOne, IsSame, hand_of, tried_of}
use Rattle.esm_redrive_book.specs.Keeping.{IsSound}
use Rattle.esm_redrive_run.specs.Book.{Book, AreArrivals, IsLegalBook}
use Rattle.esm_redrive_run.proofs.Following.{Each, each_front, each_both, IsAtMoment, IsArrival, arrivals_more, arrivals_open, arrivals_idle, arrivals_uncalled, arrivals_follow}
use Rattle.esm_redrive_run.proofs.Stepping.{HasStepped, no_calls, stepped, stood}

-- what is true of a book, whoever made its calls
pub legal_book : {D : Type 0} (b : Book D) → IsSound b → IsConsistent b.core → IsLegalBook b
legal_book b sound consistent = record { legal = sound.legal; came = consistent.count }

pub no_trouble : (x : Option Trouble) → (is_some x ≡ true → ⊥) → x ≡ None
no_trouble None up = refl
no_trouble (Some trouble) up = absurd (up refl)

pub is_up : (x : Option Trouble) → is_some x ≡ false → x ≡ None
is_up None up = refl
is_up (Some trouble) up = absurd (let clash : true ≡ false = up in cc)

-- a list may come
pub may_come : {D : Type 0} (b : Book D) (list : List Message) (items : ℕ) → AreArrivals b.core.past → length list ≤ items → items ≤ 10000 → All (IsValidMessage b.core.setting.queue.config.kind) list
    → length b.core.setting.queue.messages + length list ≤ 1000000 → MayCome b.core list
may_come b list items going within few valid room = record { going = arrivals_open b.core.past going; few = omega (arith, within, few); valid = valid; places = omega (arith, room) }

-- the entries of a list

gave_arrive : (places : List ℕ) (f : Fate) (m : ℕ) → Each IsArrival (gave_entries None places f m)
gave_arrive [] f m = tt
gave_arrive (i ∷ places) f m = (tt, tt)

came_arrive : (s : RedriveSetting) (k : ℕ) (list : List Message) (m : ℕ) → Each IsArrival (came_from s k list m)
came_arrive s k [] m = tt
came_arrive s k (x ∷ xs) m = (
  tt,
  each_both IsArrival (gave_entries None (known_from s k (x ∷ xs)) Exhausted m) (gave_entries None (dropped_from s k (x ∷ xs)) Filtered m) (gave_arrive (known_from s k (x ∷ xs)) Exhausted m) (gave_arrive (dropped_from s k (x ∷ xs)) Filtered m),
)

pub gave_at : (by : Option LaneId) (places : List ℕ) (f : Fate) (m : ℕ) → Each (IsAtMoment m) (gave_entries by places f m)
gave_at by [] f m = tt
gave_at by (i ∷ places) f m = (refl, tt)

came_at : (s : RedriveSetting) (k : ℕ) (list : List Message) (m : ℕ) → Each (IsAtMoment m) (came_from s k list m)
came_at s k [] m = tt
came_at s k (x ∷ xs) m = (
  refl,
  each_both (IsAtMoment m) (gave_entries None (known_from s k (x ∷ xs)) Exhausted m) (gave_entries None (dropped_from s k (x ∷ xs)) Filtered m) (gave_at None (known_from s k (x ∷ xs)) Exhausted m) (gave_at None (dropped_from s k (x ∷ xs)) Filtered m),
)

-- what `came` says of a call at the moment t
pub record CameDid {D : Type 0} (m : DiskMeaning D) (n : DestMeaning (JournalState D)) (t : ℕ) (list : List Message) (old new : Book D) (r : Result (Unit {0}) CameError) : Type 0 where
  pub added : OnOk r (AddedAll m n (old.core.setting.queue.messages ++ list) old new (came_entries old.core list t))
  pub stopped : IsErrOf r refusal.DiskFault → AddedSome m n (old.core.setting.queue.messages ++ list) old new (came_entries old.core list t) trouble.Disk
  pub changed : (change : Change) → IsErrOf r (refusal.StreamChanged change) → (old.trouble ≡ None) × IsFirstChange old.core list change × (new ≡ record old { trouble = Some (trouble.Changed change) })
  pub down : IsErrOf r refusal.Down ↔ IsSome old.trouble
  pub left : IsErrOf r refusal.Down → new ≡ old
  pub no_memory : IsErrOf r refusal.OutOfMemory → IsSame n old new

pub record HasCome {D : Type 0} (t : ℕ) (list : List Message) (old new : Book D) (r : Result (Unit {0}) CameError) : Type 0 where
  pub step : HasStepped t old new no_calls
  pub going : AreArrivals new.core.past
  pub came : OnOk r (new.core.setting.queue.messages ≡ old.core.setting.queue.messages ++ list)
  pub some : (rest : List Message) × (old.core.setting.queue.messages ++ list ≡ new.core.setting.queue.messages ++ rest)
  pub up : OnOk r (is_some new.trouble ≡ false)
  pub down : IfErr r (λ (e : CameError). (e ≡ refusal.OutOfMemory) ⊎ (is_some new.trouble ≡ true))
  pub changed : (change : Change) → IsErrOf r (refusal.StreamChanged change) → IsFirstChange old.core list change
  pub refused : (change : Change) → IsErrOf r (refusal.StreamChanged change) → new.core.setting.queue.messages ≡ old.core.setting.queue.messages
  pub tells : change_of new.trouble ≡ change_told (change_of old.trouble) r

-- nothing came
pub none_came : {D : Type 0} (t : ℕ) (list : List Message) (old new : Book D) (e : CameError) → new.core ≡ old.core → new.found ≡ old.found → new.found_dest ≡ old.found_dest → AreArrivals old.core.past
    → (e ≡ refusal.OutOfMemory) ⊎ (is_some new.trouble ≡ true) → ((change : Change) → e ≡ refusal.StreamChanged change → IsFirstChange old.core list change) → change_of new.trouble ≡ change_told (change_of old.trouble) (Err e) → HasCome t list old new (Err e)
none_came t list old new e core found found_dest going cause changed tells = record {
  step = stood t old new core found found_dest;
  going = subst (λ (v : RedriveView). AreArrivals v.past) (sym core) going;
  came = tt;
  some = (list, ap (λ (v : RedriveView). v.setting.queue.messages ++ list) (sym core));
  up = tt;
  down = cause;
  changed = λ change is. changed change (cc);
  refused = λ change is. ap (λ (v : RedriveView). v.setting.queue.messages) core;
  tells = tells;
}

module _ {D : Type 0} (m : DiskMeaning D) (n : DestMeaning (JournalState D)) (t : ℕ) (list : List Message) (old new : Book D) where
  abbrev all : List Message
  all = old.core.setting.queue.messages ++ list

  abbrev now : ℕ
  now = moment_for old.core.past t

  abbrev entries : List Entry
  entries = came_entries old.core list t

  -- entries that came, to the front of those that were to come
  front_step : (front rest : List Entry) (hand tried : List RedriveEntry) → front ++ rest ≡ entries → Added m n all old new front hand tried → AreArrivals old.core.past → IsLegalBook new → HasStepped t old new no_calls
  front_step front rest hand tried split added going legal =
      let each : Each IsArrival front = each_front IsArrival front rest (subst (Each IsArrival) (sym split) (came_arrive old.core.setting (length old.core.setting.queue.messages) list now)) in
      let now_going : AreArrivals (reverse front ++ old.core.past) = arrivals_more front old.core.past each going in
      stepped t old new all front no_calls added.past added.setting added.found added.found_dest legal
      (each_front (IsAtMoment now) front rest (subst (Each (IsAtMoment now)) (sym split) (came_at old.core.setting (length old.core.setting.queue.messages) list now)))
      (λ sends. arrivals_uncalled new.core.setting.queue sends (reverse front ++ old.core.past) now_going ∙ sym (ap (λ (cs : List Called). cs ++ []) (arrivals_uncalled old.core.setting.queue sends old.core.past going)))
      (λ before. arrivals_follow (reverse front ++ old.core.past) now_going)

  front_going : (front rest : List Entry) (hand tried : List RedriveEntry) → front ++ rest ≡ entries → Added m n all old new front hand tried → AreArrivals old.core.past → AreArrivals new.core.past
  front_going front rest hand tried split added going =
      subst AreArrivals (sym added.past)
      (arrivals_more front old.core.past (each_front IsArrival front rest (subst (Each IsArrival) (sym split) (came_arrive old.core.setting (length old.core.setting.queue.messages) list now))) going)

  all_came : (es : List Entry) (hand tried : List RedriveEntry) → Added m n all old new es hand tried → new.core.setting.queue.messages ≡ old.core.setting.queue.messages ++ list
  all_came es hand tried added = ap (λ (s : RedriveSetting). s.queue.messages) added.setting

pub come : {D : Type 0} (m : DiskMeaning D) (n : DestMeaning (JournalState D)) (t : ℕ) (list : List Message) (old new : Book D) (r : Result (Unit {0}) CameError) → CameDid m n t list old new r → AreArrivals old.core.past → IsLegalBook new → HasCome t list old new r
come {D} m n t list old new (Ok x) did going legal =
    let added : AddedAll m n (old.core.setting.queue.messages ++ list) old new (came_entries old.core list t) = did.added in
    let up : is_some old.trouble ≡ true → ⊥ = λ is. (let never : Ok x ≡ Err refusal.Down = did.down.1 is in absurd (cc)) in
    let came : new.core.setting.queue.messages ≡ old.core.setting.queue.messages ++ list = all_came m n t list old new (came_entries old.core list t) [] [] added.added in
    record {
      step = front_step m n t list old new (came_entries old.core list t) [] [] [] (append-nil (came_entries old.core list t)) added.added going legal;
      going = front_going m n t list old new (came_entries old.core list t) [] [] [] (append-nil (came_entries old.core list t)) added.added going;
      came = came;
      some = ([], sym came ∙ sym (append-nil new.core.setting.queue.messages));
      up = ap is_some added.trouble;
      down = tt;
      changed = λ change is. absurd (cc);
      refused = λ change is. absurd (cc);
      tells = ap change_of added.trouble ∙ sym (ap change_of (no_trouble old.trouble up));
    }
come {D} m n t list old new (Err refusal.DiskFault) did going legal =
    let some : AddedSome m n (old.core.setting.queue.messages ++ list) old new (came_entries old.core list t) trouble.Disk = did.stopped refl in
    let hand = redrive_entries (old.core.setting.queue.messages ++ list) (hand_of trouble.Disk some.rest) in
    let tried = redrive_entries (old.core.setting.queue.messages ++ list) (tried_of trouble.Disk some.rest) in
    let up : is_some old.trouble ≡ true → ⊥ = λ is. (let never : Err refusal.DiskFault ≡ Err refusal.Down = did.down.1 is in absurd (cc)) in
    let came : new.core.setting.queue.messages ≡ old.core.setting.queue.messages ++ list = all_came m n t list old new some.front hand tried some.added in
    record {
      step = front_step m n t list old new some.front some.rest hand tried some.split some.added going legal;
      going = front_going m n t list old new some.front some.rest hand tried some.split some.added going;
      came = tt;
      some = ([], sym came ∙ sym (append-nil new.core.setting.queue.messages));
      up = tt;
      down = inr (ap is_some some.trouble_is);
      changed = λ change is. absurd (cc);
      refused = λ change is. absurd (cc);
      tells = ap change_of some.trouble_is ∙ sym (ap change_of (no_trouble old.trouble up));
    }
come {D} m n t list old new (Err (refusal.StreamChanged change)) did going legal =
    let found = did.changed change refl in
    let is : new ≡ record old { trouble = Some (trouble.Changed change) } = found.2 in
    none_came t list old new (refusal.StreamChanged change) (ap (λ (b : Book D). b.core) is) (ap (λ (b : Book D). b.found) is) (ap (λ (b : Book D). b.found_dest) is) going (inr (ap (λ (b : Book D). is_some b.trouble) is))
    (λ other same. subst (λ (x : Change). IsFirstChange old.core list x) (cc) found.1) (ap (λ (b : Book D). change_of b.trouble) is)
come {D} m n t list old new (Err refusal.Down) did going legal =
    let is : new ≡ old = did.left refl in
    none_came t list old new refusal.Down (ap (λ (b : Book D). b.core) is) (ap (λ (b : Book D). b.found) is) (ap (λ (b : Book D). b.found_dest) is) going (inr (ap (λ (b : Book D). is_some b.trouble) is ∙ did.down.0 refl)) (λ change same. absurd (cc)) (ap (λ (b : Book D). change_of b.trouble) is)
come {D} m n t list old new (Err refusal.OutOfMemory) did going legal =
    let is : new ≡ record old { pair = record old.pair { room = new.pair.room }; dest = new.dest } = (did.no_memory refl).rest in
    none_came t list old new refusal.OutOfMemory (ap (λ (b : Book D). b.core) is) (ap (λ (b : Book D). b.found) is) (ap (λ (b : Book D). b.found_dest) is) going (inl refl) (λ change same. absurd (cc)) (ap (λ (b : Book D). change_of b.trouble) is)

-- the end of the input

pub record ShutDid {D : Type 0} (t : ℕ) (old new : Book D) (r : Result (Unit {0}) BookError) : Type 0 where
  pub added : OnOk r (AddedOne old new (Shut (moment_for old.core.past t)))
  pub down : IsErrOf r why.Down ↔ IsSome old.trouble
  pub only_down : IfErr r (λ (e : BookError). e ≡ why.Down)
  pub left : OnErr r (new ≡ old)

pub record HasShut {D : Type 0} (t : ℕ) (old new : Book D) : Type 0 where
  pub step : HasStepped t old new no_calls
  pub idle : is_running new.core.past (queue_lane 0) ≡ false
  pub shut : new.trouble ≡ None → is_shut new.core.past ≡ true
  pub trouble_same : new.trouble ≡ old.trouble
  pub messages : new.core.setting.queue.messages ≡ old.core.setting.queue.messages

pub has_shut : {D : Type 0} (t : ℕ) (old new : Book D) (r : Result (Unit {0}) BookError) → ShutDid t old new r → AreArrivals old.core.past → IsLegalBook new → HasShut t old new
has_shut {D} t old new (Ok x) did going legal =
    let one : AddedOne old new (Shut (moment_for old.core.past t)) = did.added in
    let es : List Entry = Shut (moment_for old.core.past t) ∷ [] in
    record {
      step = stepped t old new old.core.setting.queue.messages es no_calls one.past one.setting (ap (λ (b : Book D). b.found) one.rest) (ap (λ (b : Book D). b.found_dest) one.rest) legal (refl, tt)
          (λ sends. ap (λ (s : RedriveSetting). redrive_calls s sends old.core.past) one.setting ∙ sym (append-nil (redrive_calls old.core.setting sends old.core.past)))
          (λ before. ((λ is. absurd (cc)), before));
      idle = ap (λ (h : List Entry). is_running h (queue_lane 0)) one.past ∙ arrivals_idle old.core.past going;
      shut = λ up. ap is_shut one.past;
      trouble_same = ap (λ (b : Book D). b.trouble) one.rest;
      messages = ap (λ (s : RedriveSetting). s.queue.messages) one.setting;
    }
has_shut {D} t old new (Err e) did going legal =
    let is : new ≡ old = did.left in
    let was : is_some old.trouble ≡ true = did.down.0 (ap (λ (x : BookError). Err x) did.only_down) in
    record {
      step = stood t old new (ap (λ (b : Book D). b.core) is) (ap (λ (b : Book D). b.found) is) (ap (λ (b : Book D). b.found_dest) is);
      idle = ap (λ (b : Book D). is_running b.core.past (queue_lane 0)) is ∙ arrivals_idle old.core.past going;
      shut = λ up. absurd (let now : is_some new.trouble ≡ false = ap is_some up in let then : is_some new.trouble ≡ true = ap (λ (b : Book D). is_some b.trouble) is ∙ was in cc);
      trouble_same = ap (λ (b : Book D). b.trouble) is;
      messages = ap (λ (b : Book D). b.core.setting.queue.messages) is;
    }
