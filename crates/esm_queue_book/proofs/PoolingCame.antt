-- Messages come to a queue's book, or its input ends: what that adds, as the reader's seat sees it.
use Rattle.std.proofs.Common.{◌≡◌, ℕ, ◌+◌, ◌≤◌, true, false, List, [], ◌∷◌, ◌++◌, length, reverse, refl, sym, ap, ◌∙◌, subst, inl, inr, arith, append_assoc, append-nil}
use Rattle.std.specs.Prelude.{◌⊎◌, ◌↔◌, ◌||◌, All, ⊤, is_some, take, drop, Result, Ok, Err, Some, None, IfErr, OnOk, OnErr, IsErrOf, IsSome}
use Rattle.std.proofs.lemmas.List.{reverse-append}
use Rattle.std.proofs.lemmas.Bool.{both_ways}
use Rattle.std.proofs.Math.Seq.{drop-append_seam, take-length}
use Rattle.esm_io.specs.Meanings.{DiskMeaning}
use Rattle.esm_model.specs.declared.item.Message.{Message}
use Rattle.esm_model.specs.declared.book.BookError.{BookError}
use Rattle.esm_model.specs.declared.book.BookError.TheVariants as why
use Rattle.esm_model.specs.declared.book.CameError.{CameError}
use Rattle.esm_model.specs.declared.book.CameError.TheVariants as refusal
use Rattle.esm_model.specs.declared.book.Change.{Change}
use Rattle.esm_model.specs.declared.book.Trouble.TheVariants as trouble
use Rattle.esm_model.specs.declared.entry.Fate.TheVariants.{Filtered}
use Rattle.esm_model.specs.declared.entry.Entry.{Entry}
use Rattle.esm_model.specs.declared.entry.Entry.TheVariants.{Shut}
use Rattle.esm_model.specs.Kept.{change_of}
use Rattle.esm_model.specs.Entries.{is_shut, is_shut_entry}
use Rattle.esm_model.specs.ValidMessage.{IsValidMessage}
use Rattle.esm_model.specs.GoingOn.{change_told}
use Rattle.esm_queue_model.specs.QueueSetting.{QueueSetting}
use Rattle.esm_queue_model.specs.QueueBooks.{messages_told}
use Rattle.esm_queue_core.specs.CoreView.{CoreView, moment_for}
use Rattle.esm_queue_core.specs.Coming.{gave_entries, refused_from, came_from, came_entries, IsFirstChange}
use Rattle.esm_queue_core.specs.Told.{told_entries, told_of, MayCome}
use Rattle.esm_queue_core.proofs.ToldMessages.{told-append, messages-append}
use Rattle.esm_queue_book.specs.Books.{BookState, is_down}
use Rattle.esm_queue_book.specs.Calls.{Added, AddedAll, AddedSome, AddedOne, IsSame}
use Rattle.esm_queue_book.specs.Keeping.{IsSound}
use Rattle.esm_queue_book.proofs.Pooling.{AreOf, HasGone, opened_same, still_none}

-- a list may come
pub may_come : {D : Type 0} (b : BookState D) (list : List Message) (items : ℕ) → IsSound b → is_shut b.core.past ≡ false → length list ≤ items → items ≤ 10000 → All (IsValidMessage b.core.setting.config.kind) list
    → length (messages_told (told_of b.core)) + length list ≤ 1000000 → MayCome b.core list
may_come b list items sound going within few valid room =
    let same : length b.core.setting.messages ≡ length (messages_told (told_of b.core)) = ap (λ (ms : List Message). length ms) sound.messages in
    record { going = going; few = omega (arith, within, few); valid = valid; places = omega (arith, room, same) }

-- the entries of a list: they are the reader's, of one moment, and the input has not ended by them

abbrev AreOpen : List Entry → Type 0
AreOpen [] = ⊤
AreOpen (e ∷ es) = (is_shut_entry e ≡ false) × AreOpen es

own_gave : (m : ℕ) (places : List ℕ) → AreOf 0 m (gave_entries None places Filtered m)
own_gave m [] = tt
own_gave m (i ∷ places) = (refl, refl, tt)

own_came : (s : QueueSetting) (k : ℕ) (list : List Message) (m : ℕ) → AreOf 0 m (came_from s k list m)
own_came s k [] m = tt
own_came s k (x ∷ xs) m = (refl, refl, own_gave m (refused_from s k (x ∷ xs)))

own_front : (n m : ℕ) (xs ys : List Entry) → AreOf n m (xs ++ ys) → AreOf n m xs
own_front n m [] ys all = tt
own_front n m (e ∷ xs) ys all = (all.0, all.1, own_front n m xs ys all.2)

open_gave : (m : ℕ) (places : List ℕ) → AreOpen (gave_entries None places Filtered m)
open_gave m [] = tt
open_gave m (i ∷ places) = (refl, tt)

open_came : (s : QueueSetting) (k : ℕ) (list : List Message) (m : ℕ) → AreOpen (came_from s k list m)
open_came s k [] m = tt
open_came s k (x ∷ xs) m = (refl, open_gave m (refused_from s k (x ∷ xs)))

open_front : (xs ys : List Entry) → AreOpen (xs ++ ys) → AreOpen xs
open_front [] ys all = tt
open_front (e ∷ xs) ys all = (all.0, open_front xs ys all.1)

one_more : (e : Entry) (es h : List Entry) → reverse (e ∷ es) ++ h ≡ reverse es ++ (e ∷ h)
one_more e es h = ap (λ (l : List Entry). l ++ h) (reverse-append (e ∷ []) es) ∙ append_assoc (reverse es) (e ∷ []) h

open_on : (es h : List Entry) → AreOpen es → is_shut h ≡ false → is_shut (reverse es ++ h) ≡ false
open_on [] h all going = going
open_on (e ∷ es) h all going =
    let here : is_shut (e ∷ h) ≡ false = ap (λ b. b || is_shut h) all.0 ∙ going in
    ap is_shut (one_more e es h) ∙ open_on es (e ∷ h) all.1 here

-- what they tell

gave_told : (messages : List Message) (places : List ℕ) (m : ℕ) → messages_told (told_entries messages (gave_entries None places Filtered m)) ≡ []
gave_told messages [] m = refl
gave_told messages (i ∷ places) m = refl

list_told : (s : QueueSetting) (list : List Message) (m : ℕ) → messages_told (told_entries (s.messages ++ list) (came_from s (length s.messages) list m)) ≡ list
list_told s [] m = refl
list_told s (x ∷ xs) m =
    let list : List Message = x ∷ xs in
    let places : List ℕ = refused_from s (length s.messages) list in
    ap (λ (ms : List Message). take (length list) (drop (length s.messages) (s.messages ++ list)) ++ ms) (gave_told (s.messages ++ list) places m)
    ∙ (append-nil (take (length list) (drop (length s.messages) (s.messages ++ list)))
    ∙ (ap (take (length list)) (drop-append_seam s.messages list)
    ∙ take-length list))

told_more : {D : Type 0} (messages : List Message) (old new : BookState D) (es : List Entry) → told_of new.core ≡ told_of old.core ++ told_entries messages es → messages_told (told_of new.core) ≡ messages_told (told_of old.core) ++ messages_told (told_entries messages es)
told_more messages old new es told = ap messages_told told ∙ messages-append (told_of old.core) (told_entries messages es)

-- what `came` says of a list at the moment t
pub record CameDid {D : Type 0} (d : DiskMeaning D) (t : ℕ) (list : List Message) (old new : BookState D) (r : Result (Unit {0}) CameError) : Type 0 where
  pub added : OnOk r (AddedAll d (old.core.setting.messages ++ list) old new (came_entries old.core list t))
  pub stopped : IsErrOf r refusal.DiskFault → AddedSome d (old.core.setting.messages ++ list) old new (came_entries old.core list t)
  pub changed : (change : Change) → IsErrOf r (refusal.StreamChanged change) → (old.trouble ≡ None) × IsFirstChange old.core list change × (new ≡ record old { trouble = Some (trouble.Changed change) })
  pub down : IsErrOf r refusal.Down ↔ IsSome old.trouble
  pub left : IsErrOf r refusal.Down → new ≡ old
  pub no_memory : IsErrOf r refusal.OutOfMemory → IsSame old new

-- what the reader knows then
pub record HasCome {D : Type 0} (t : ℕ) (list : List Message) (old new : BookState D) (r : Result (Unit {0}) CameError) : Type 0 where
  pub es : List Entry
  pub gone : HasGone 0 t (old.core.setting.messages ++ list) old new es
  pub going : is_shut new.core.past ≡ false
  pub came : OnOk r (messages_told (told_of new.core) ≡ messages_told (told_of old.core) ++ list)
  pub some : (rest : List Message) × (messages_told (told_of old.core) ++ list ≡ messages_told (told_of new.core) ++ rest)
  pub down : IfErr r (λ (e : CameError). (e ≡ refusal.OutOfMemory) ⊎ (is_down new ≡ true))
  pub changed : (change : Change) → IsErrOf r (refusal.StreamChanged change) → IsFirstChange old.core list change
  pub tells : change_of new.trouble ≡ change_told (change_of old.trouble) r

-- nothing is added
gone_none : {D : Type 0} (t : ℕ) (messages : List Message) (old new : BookState D) → new.core ≡ old.core → new.found ≡ old.found → (is_down old ≡ true → is_down new ≡ true) → HasGone 0 t messages old new []
gone_none t messages old new core found down = record {
  told = ap told_of core ∙ sym (append-nil (told_of old.core));
  opened = opened_same old new (ap (λ (v : CoreView). v.setting) core);
  found = found;
  own = tt;
  down = down;
  unchanged = λ other. absurd (other refl);
}

pub none_come : {D : Type 0} (t : ℕ) (list : List Message) (old new : BookState D) (e : CameError) → new.core ≡ old.core → new.found ≡ old.found → (is_down old ≡ true → is_down new ≡ true) → is_shut old.core.past ≡ false
    → (e ≡ refusal.OutOfMemory) ⊎ (is_down new ≡ true) → ((change : Change) → e ≡ refusal.StreamChanged change → IsFirstChange old.core list change) → change_of new.trouble ≡ change_told (change_of old.trouble) (Err e) → HasCome t list old new (Err e)
none_come t list old new e core found stays going cause changed tells = record {
  es = [];
  gone = gone_none t (old.core.setting.messages ++ list) old new core found stays;
  going = ap (λ (v : CoreView). is_shut v.past) core ∙ going;
  came = tt;
  some = (list, ap (λ (v : CoreView). messages_told (told_of v) ++ list) (sym core));
  down = cause;
  changed = λ change is. changed change (cc);
  tells = tells;
}

module _ {D : Type 0} (d : DiskMeaning D) (t : ℕ) (list : List Message) (old new : BookState D) where
  abbrev all : List Message
  all = old.core.setting.messages ++ list

  abbrev now : ℕ
  now = moment_for old.core.past t

  -- those of the list came
  all_told : AddedAll d all old new (came_entries old.core list t) → messages_told (told_of new.core) ≡ messages_told (told_of old.core) ++ list
  all_told added =
      told_more all old new (came_entries old.core list t) added.added.told
      ∙ ap (λ (ms : List Message). messages_told (told_of old.core) ++ ms) (list_told old.core.setting list now)

  -- or the first of them
  some_told : (front rest : List Entry) → front ++ rest ≡ came_entries old.core list t → Added all old new front → (more : List Message) × (messages_told (told_of old.core) ++ list ≡ messages_told (told_of new.core) ++ more)
  some_told front rest split added =
      let before : List Message = messages_told (told_of old.core) in
      let first : List Message = messages_told (told_entries all front) in
      let more : List Message = messages_told (told_entries all rest) in
      let parts : list ≡ messages_told (told_entries all front) ++ messages_told (told_entries all rest) =
      sym (list_told old.core.setting list now)
      ∙ (ap (λ (es : List Entry). messages_told (told_entries all es)) (sym split)
      ∙ (ap messages_told (told-append all front rest) ∙ messages-append (told_entries all front) (told_entries all rest))) in (
        more,
        ap (λ (ms : List Message). before ++ ms) parts
            ∙ (sym (append_assoc before first more)
            ∙ ap (λ (ms : List Message). ms ++ more) (sym (told_more all old new front added.told))),
      )

  front_gone : (front rest : List Entry) → front ++ rest ≡ came_entries old.core list t → Added all old new front → (is_down old ≡ true → is_down new ≡ true) → HasGone 0 t all old new front
  front_gone front rest split added stays = record {
    told = added.told;
    opened = added.opened;
    found = added.found;
    own = own_front 0 now front rest (subst (AreOf 0 now) (sym split) (own_came old.core.setting (length old.core.setting.messages) list now));
    down = stays;
    unchanged = λ other. absurd (other refl);
  }

  front_open : (front rest : List Entry) → front ++ rest ≡ came_entries old.core list t → Added all old new front → is_shut old.core.past ≡ false → is_shut new.core.past ≡ false
  front_open front rest split added going =
      ap is_shut added.past ∙ open_on front old.core.past (open_front front rest (subst AreOpen (sym split) (open_came old.core.setting (length old.core.setting.messages) list now))) going

pub come : {D : Type 0} (d : DiskMeaning D) (t : ℕ) (list : List Message) (old new : BookState D) (r : Result (Unit {0}) CameError) → CameDid d t list old new r → is_shut old.core.past ≡ false → HasCome t list old new r
come {D} d t list old new (Ok x) did going =
    let added : AddedAll d (old.core.setting.messages ++ list) old new (came_entries old.core list t) = did.added in
    let up : is_down old ≡ true → ⊥ = λ is. (let never : Ok x ≡ Err refusal.Down = did.down.1 is in absurd (cc)) in
    let told : messages_told (told_of new.core) ≡ messages_told (told_of old.core) ++ list = all_told d t list old new added in
    record {
      es = came_entries old.core list t;
      gone = front_gone d t list old new (came_entries old.core list t) [] (append-nil (came_entries old.core list t)) added.added (λ is. absurd (up is));
      going = front_open d t list old new (came_entries old.core list t) [] (append-nil (came_entries old.core list t)) added.added going;
      came = told;
      some = ([], sym told ∙ sym (append-nil (messages_told (told_of new.core))));
      down = tt;
      changed = λ change is. absurd (cc);
      tells = still_none old new (ap change_of added.trouble) up;
    }
come {D} d t list old new (Err refusal.DiskFault) did going =
    let some : AddedSome d (old.core.setting.messages ++ list) old new (came_entries old.core list t) = did.stopped refl in
    let down : is_down new ≡ true = ap is_some some.trouble in
    let up : is_down old ≡ true → ⊥ = λ is. (let never = did.down.1 is in absurd (cc)) in
    record {
      es = some.front;
      gone = front_gone d t list old new some.front some.rest some.split some.added (λ is. down);
      going = front_open d t list old new some.front some.rest some.split some.added going;
      came = tt;
      some = some_told d t list old new some.front some.rest some.split some.added;
      down = inr down;
      changed = λ change is. absurd (cc);
      tells = still_none old new (ap change_of some.trouble) up;
    }
come {D} d t list old new (Err (refusal.StreamChanged change)) did going =
    let found = did.changed change refl in
    let is : new ≡ record old { trouble = Some (trouble.Changed change) } = found.2 in
    let down : is_down new ≡ true = ap (λ (b : BookState D). is_down b) is in
    none_come t list old new (refusal.StreamChanged change) (ap (λ (b : BookState D). b.core) is) (ap (λ (b : BookState D). b.found) is) (λ was. down) going (inr down)
    (λ other same. subst (λ (x : Change). IsFirstChange old.core list x) (cc) found.1) (ap (λ (b : BookState D). change_of b.trouble) is)
come {D} d t list old new (Err refusal.Down) did going =
    let is : new ≡ old = did.left refl in
    let down : is_down new ≡ true = ap (λ (b : BookState D). is_down b) is ∙ did.down.0 refl in
    none_come t list old new refusal.Down (ap (λ (b : BookState D). b.core) is) (ap (λ (b : BookState D). b.found) is) (λ was. down) going (inr down) (λ change same. absurd (cc)) (ap (λ (b : BookState D). change_of b.trouble) is)
come {D} d t list old new (Err refusal.OutOfMemory) did going =
    let is : IsSame old new = did.no_memory refl in
    none_come t list old new refusal.OutOfMemory (ap (λ (b : BookState D). b.core) is) (ap (λ (b : BookState D). b.found) is) (λ was. ap (λ (b : BookState D). is_down b) is ∙ was) going (inl refl) (λ change same. absurd (cc)) (ap (λ (b : BookState D). change_of b.trouble) is)

-- the end of the input

-- what `shut` says of a call at the moment t
pub record ShutDid {D : Type 0} (t : ℕ) (old new : BookState D) (r : Result (Unit {0}) BookError) : Type 0 where
  pub added : OnOk r (AddedOne old new (Shut (moment_for old.core.past t)))
  pub down : IsErrOf r why.Down ↔ IsSome old.trouble
  pub only_down : IfErr r (λ (e : BookError). e ≡ why.Down)
  pub left : OnErr r (new ≡ old)

pub record HasShut {D : Type 0} (t : ℕ) (old new : BookState D) : Type 0 where
  pub es : List Entry
  pub gone : HasGone 0 t old.core.setting.messages old new es
  pub same : messages_told (told_of new.core) ≡ messages_told (told_of old.core)
  pub shut : is_down new ≡ false → is_shut new.core.past ≡ true
  pub change : change_of new.trouble ≡ change_of old.trouble

pub has_shut : {D : Type 0} (t : ℕ) (old new : BookState D) (r : Result (Unit {0}) BookError) → ShutDid t old new r → HasShut t old new
has_shut {D} t old new (Ok x) did =
    let one : AddedOne old new (Shut (moment_for old.core.past t)) = did.added in
    let es : List Entry = Shut (moment_for old.core.past t) ∷ [] in
    record {
      es = es;
      gone = record {
        told = one.told;
        opened = opened_same old new one.setting;
        found = ap (λ (b : BookState D). b.found) one.rest;
        own = (refl, refl, tt);
        down = λ is. ap (λ (b : BookState D). is_down b) one.rest ∙ is;
        unchanged = λ other. absurd (other refl);
      };
      same = told_more old.core.setting.messages old new es one.told ∙ append-nil (messages_told (told_of old.core));
      shut = λ up. ap is_shut one.past;
      change = ap (λ (b : BookState D). change_of b.trouble) one.rest;
    }
has_shut {D} t old new (Err e) did =
    let is : new ≡ old = did.left in
    let down : is_down new ≡ true = ap (λ (b : BookState D). is_down b) is ∙ did.down.0 (ap (λ (x : BookError). Err x) did.only_down) in
    record {
      es = [];
      gone = gone_none t old.core.setting.messages old new (ap (λ (b : BookState D). b.core) is) (ap (λ (b : BookState D). b.found) is) (λ was. down);
      same = ap (λ (b : BookState D). messages_told (told_of b.core)) is;
      shut = λ up. absurd (both_ways (is_down new) up down);
      change = ap (λ (b : BookState D). change_of b.trouble) is;
    }
