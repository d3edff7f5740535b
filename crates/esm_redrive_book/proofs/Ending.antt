-- How a call of the book of a redrive ends.
use Rattle.std.proofs.Common.{◌≡◌, ℕ, ◌<◌, ◌≤◌, Bool, true, false, List, [], ◌∷◌, ◌++◌, length, map, take, reverse, refl, sym, ap, ap₂, ◌∙◌, subst, arith, append_assoc, append-nil, Option, Some, None}
use Rattle.std.specs.Prelude.{◌&&◌}
use Rattle.std.specs.List.{cons_option}
use Rattle.std.proofs.lemmas.List.{map-append, reverse-append}
use Rattle.std.proofs.lemmas.List.Elements.{filter_map-append}
use Rattle.esm_io.specs.Faults.{Rose}
use Rattle.esm_io.specs.Meanings.{DiskMeaning, DestMeaning}
use Rattle.esm_journal.specs.Pair.{PairKeepsWhileUp}
use Rattle.esm_model.specs.declared.moment.TheConstants.{MAX_MOMENT}
use Rattle.esm_model.specs.declared.book.Job.{Job}
use Rattle.esm_model.specs.declared.book.Trouble.{Trouble}
use Rattle.esm_model.specs.declared.book.Trouble.TheVariants.{Disk, Dest, Changed}
use Rattle.esm_model.specs.declared.book.Change.{Change}
use Rattle.esm_model.specs.declared.item.Message.{Message}
use Rattle.esm_model.specs.declared.entry.Reply.{Reply}
use Rattle.esm_model.specs.declared.entry.Entry.{Entry}
use Rattle.esm_model.specs.declared.entry.Entry.TheVariants.{Ended, Shut}
use Rattle.esm_model.specs.Books.{entry_line}
use Rattle.esm_model.specs.Entries.{is_shut, last_moment}
use Rattle.esm_model.specs.Step.{IsLater}
use Rattle.esm_book.specs.Decided.{written_of}
use Rattle.esm_book.specs.Growth.{HasGrown, LeavesFronts}
use Rattle.esm_book.specs.Hand.{is_end}
use Rattle.esm_book.specs.State.{in_hand, in_delivery}
use Rattle.esm_queue_core.specs.CoreView.{moment_for}
use Rattle.esm_queue_model.specs.QueueSetting.{ExtendsMessages}
use Rattle.esm_redrive_model.specs.RedriveSetting.{RedriveSetting, redrive_over}
use Rattle.esm_redrive_model.specs.RedriveStep.{LegalRedrive, SettledRedrive}
use Rattle.esm_redrive_core.specs.declared.decisions.RedriveCall.{RedriveCall}
use Rattle.esm_redrive_core.specs.declared.decisions.RedriveCall.TheVariants as call
use Rattle.esm_redrive_core.specs.declared.decisions.RedriveAnswer.{RedriveAnswer}
use Rattle.esm_redrive_core.specs.declared.decisions.RedriveEntry.{RedriveEntry}
use Rattle.esm_redrive_core.specs.Ahead.{SoundAhead, comes_first}
use Rattle.esm_redrive_core.specs.RedriveView.{RedriveView, all_messages, owing, IsRunningJob}
use Rattle.esm_redrive_core.specs.Sound.{Sound, ShutIsSound}
use Rattle.esm_redrive_core.specs.Told.{redrive_entry, redrive_entries, owed_of, Decides, MayAsk, Refuses, coming_by, entries_by}
use Rattle.esm_redrive_book.specs.Books.{BookState, payload_in, line_in, redrive_meaning}
use Rattle.esm_redrive_book.specs.Calls.{Added, AddedSome, AddedOne, IsSame, WasWriting, hand_of, tried_of}
use Rattle.esm_redrive_book.specs.Keeping.{FollowsFront, IsSorted, IsSound}
use Rattle.esm_redrive_book.specs.Carried.{messages_by, CarriedAll, CarriedSome, Undelivered, FoundChange, CarriedNone, Noted}
use Rattle.esm_redrive_book.proofs.Entries.{entry_in, both_none, owed_entries, parted, parts_are, take-entries}
use Rattle.esm_redrive_book.proofs.Bringing.{payload_first, line_first, IsSilent, silent_no_line}
use Rattle.esm_redrive_book.proofs.Going.{Went, messages_grow, setting_some, past_some, legal_part, opened_so}

-- the history with what a call decided
pub decided_after : (v : RedriveView) (asked : RedriveCall) → SoundAhead (owing v (coming_by asked) (entries_by v asked)) → Sound (redrive_over v.setting (messages_by v asked)) (reverse (entries_by v asked) ++ v.past)
decided_after v asked ahead = ahead (messages_by v asked) (λ i m at. at)

-- an entry that is in hand is the first that is owed
first_in_hand : (why : Option Trouble) (owed : List Entry) (e : Entry) → in_hand why owed ≡ e ∷ [] → (more : List Entry) × (owed ≡ e ∷ more)
first_in_hand None owed e some = absurd (cc)
first_in_hand (Some Disk) [] e some = absurd (cc)
first_in_hand (Some Disk) (x ∷ owed) e some = (owed, cc)
first_in_hand (Some Dest) owed e some = absurd (cc)
first_in_hand (Some (Changed change)) owed e some = absurd (cc)

pub none_in_hand : (why : Option Trouble) (owed : List Entry) (e : Entry) → owed ≡ [] → in_hand why owed ≡ e ∷ [] → ⊥
none_in_hand why owed e none some =
    let first = (first_in_hand why owed e some).1 in
    let never : e ∷ (first_in_hand why owed e some).0 ≡ [] = sym first ∙ none in
    absurd (cc)

-- and so is one whose line was being delivered
first_in_delivery : (why : Option Trouble) (owed : List Entry) (e : Entry) → in_delivery why owed ≡ e ∷ [] → (more : List Entry) × (owed ≡ e ∷ more)
first_in_delivery None owed e some = absurd (cc)
first_in_delivery (Some Disk) owed e some = absurd (cc)
first_in_delivery (Some Dest) [] e some = absurd (cc)
first_in_delivery (Some Dest) (x ∷ owed) e some = (owed, cc)
first_in_delivery (Some (Changed change)) owed e some = absurd (cc)

pub none_in_delivery : (why : Option Trouble) (owed : List Entry) (e : Entry) → owed ≡ [] → in_delivery why owed ≡ e ∷ [] → ⊥
none_in_delivery why owed e none some =
    let first = first_in_delivery why owed e some in
    let never : e ∷ first.0 ≡ [] = sym first.1 ∙ none in
    absurd (cc)

-- the first owed entry, where something is written of it
first_has : (text : RedriveEntry → Option (List ℕ)) (messages : List Message) (owed : List Entry) → 0 < length (written_of text (take 1 (redrive_entries messages owed)))
    → (e : Entry) × (written : List ℕ) × (take 1 owed ≡ e ∷ []) × (text (redrive_entry messages e) ≡ Some written)
first_has text messages [] some = absurd (omega (arith, some))
first_has text messages (e ∷ owed) some = one (text (redrive_entry messages e)) refl some
  where
    one : (o : Option (List ℕ)) → text (redrive_entry messages e) ≡ o → 0 < length (cons_option o []) → (x : Entry) × (written : List ℕ) × (e ∷ [] ≡ x ∷ []) × (text (redrive_entry messages x) ≡ Some written)
    one None is none = absurd (omega (arith, none))
    one (Some written) is longer = (e, written, refl, is)

-- was being written where a disk failed
one_in_hand : (why : Option Trouble) (trouble : Trouble) (messages : List Message) (owed : List Entry) → why ≡ Some trouble → WasWriting trouble (redrive_entries messages owed)
    → why ≡ Some Disk → (e : Entry) × (payload : List ℕ) × (in_hand why owed ≡ e ∷ []) × (payload_in (redrive_entry messages e) ≡ Some payload)
one_in_hand why Disk messages owed is was disk =
    let first = first_has payload_in messages owed was in
    (first.0, first.1, ap (λ (t : Option Trouble). in_hand t owed) disk ∙ first.2, first.3)
one_in_hand why Dest messages owed is was disk = absurd (cc (sym is ∙ disk))
one_in_hand why (Changed change) messages owed is was disk = absurd was

-- and its line was being delivered where the dead-letter file failed
one_tried : (why : Option Trouble) (trouble : Trouble) (messages : List Message) (owed : List Entry) → why ≡ Some trouble → WasWriting trouble (redrive_entries messages owed)
    → why ≡ Some Dest → (e : Entry) × (line : List ℕ) × (in_delivery why owed ≡ e ∷ []) × (entry_line e ≡ Some line)
one_tried why Disk messages owed is was dest = absurd (cc (sym is ∙ dest))
one_tried why Dest messages owed is was dest =
    let first = first_has line_in messages owed was in
    (first.0, first.1, ap (λ (t : Option Trouble). in_delivery t owed) dest ∙ first.2, first.3)
one_tried why (Changed change) messages owed is was dest = absurd was

-- of a change nothing was being written
was_no_change : (rest : List RedriveEntry) (why : Trouble) (change : Change) → Some why ≡ Some (Changed change) → WasWriting why rest → ⊥
was_no_change rest Disk change is was = absurd (cc)
was_no_change rest Dest change is was = absurd (cc)
was_no_change rest (Changed other) change is was = was

module _ {D T : Type 0} (m : DiskMeaning D) (n : DestMeaning T) (old new : BookState D T) (asked : RedriveCall) (X : List RedriveEntry) (went : Went old.core new.core X) (ahead : SoundAhead (owing old.core (coming_by asked) (entries_by old.core asked))) where
  -- the first of what it decided was added
  added_front : (front rest : List Entry) (hand tried : List RedriveEntry) (before behind : List Entry) → X ≡ redrive_entries (messages_by old.core asked) front → front ++ rest ≡ entries_by old.core asked → comes_first rest ≡ false
      → hand ≡ redrive_entries (messages_by old.core asked) before → tried ≡ redrive_entries (messages_by old.core asked) behind
      → HasGrown redrive_meaning m n old.pair new.pair old.dest new.dest X hand tried → LeavesFronts redrive_meaning m n old.pair new.pair old.dest new.dest (X ++ hand) → new.found ≡ old.found → new.found_dest ≡ old.found_dest
      → Added m n (messages_by old.core asked) old new front (redrive_entries (messages_by old.core asked) before) (redrive_entries (messages_by old.core asked) behind)
  added_front front rest hand tried before behind is split first in_hand was_tried grown leaves found found_dest = record {
    past = past_some old.core new.core X went (messages_by old.core asked) front is;
    setting = setting_some old.core new.core X went asked front rest is split first;
    grown = subst (λ (zs : List RedriveEntry). HasGrown redrive_meaning m n old.pair new.pair old.dest new.dest (redrive_entries (messages_by old.core asked) front) (redrive_entries (messages_by old.core asked) before) zs) was_tried
        (subst (λ (ys : List RedriveEntry). HasGrown redrive_meaning m n old.pair new.pair old.dest new.dest (redrive_entries (messages_by old.core asked) front) ys tried) in_hand
        (subst (λ (xs : List RedriveEntry). HasGrown redrive_meaning m n old.pair new.pair old.dest new.dest xs hand tried) is grown));
    images = subst (λ (xs : List RedriveEntry). LeavesFronts redrive_meaning m n old.pair new.pair old.dest new.dest xs) (ap₂ (λ (xs ys : List RedriveEntry). xs ++ ys) is in_hand) leaves;
    found = found;
    found_dest = found_dest;
  }

  -- the history is legal then
  legal_front : (front rest : List Entry) → X ≡ redrive_entries (messages_by old.core asked) front → front ++ rest ≡ entries_by old.core asked → comes_first rest ≡ false → LegalRedrive new.core.setting new.core.past
  legal_front front rest is split first =
      let s = redrive_over old.core.setting (messages_by old.core asked) in
      let whole : LegalRedrive s (reverse (front ++ rest) ++ old.core.past) = subst (λ (es : List Entry). LegalRedrive s (reverse es ++ old.core.past)) (sym split) (decided_after old.core asked ahead).legal in
      let legal : LegalRedrive s (reverse front ++ old.core.past) = legal_part s front rest old.core.past whole in
      subst (λ (t : RedriveSetting). LegalRedrive t new.core.past) (sym (setting_some old.core new.core X went asked front rest is split first))
      (subst (LegalRedrive s) (sym (past_some old.core new.core X went (messages_by old.core asked) front is)) legal)

  -- and its first owed entry may follow it
  first_follows : (front rest more : List Entry) (e : Entry) → X ≡ redrive_entries (messages_by old.core asked) front → front ++ rest ≡ entries_by old.core asked → comes_first rest ≡ false → rest ≡ e ∷ more → FollowsFront new.core.setting new.core.past e
  first_follows front rest more e is split first some =
      let setting = setting_some old.core new.core X went asked front rest is split first in
      let past = past_some old.core new.core X went (messages_by old.core asked) front is in
      let parts : entries_by old.core asked ≡ (front ++ e ∷ []) ++ more = sym split ∙ (ap (λ (es : List Entry). front ++ es) some ∙ sym (append_assoc front (e ∷ []) more)) in
      let last : reverse (front ++ e ∷ []) ++ old.core.past ≡ e ∷ new.core.past = ap (λ (es : List Entry). es ++ old.core.past) (reverse-append front (e ∷ [])) ∙ ap (λ (h : List Entry). e ∷ h) (sym past) in
      record {
        before = new.core.past;
        later = [];
        split = refl;
        ends = refl;
        follows = λ messages goes.
            let s = redrive_over old.core.setting messages in
            let goes_on : ExtendsMessages (messages_by old.core asked) messages = subst (λ (t : RedriveSetting). ExtendsMessages t.queue.messages messages) setting goes in
            let whole : LegalRedrive s (reverse ((front ++ e ∷ []) ++ more) ++ old.core.past) = subst (λ (es : List Entry). LegalRedrive s (reverse es ++ old.core.past)) parts (ahead messages goes_on).legal in
            let legal : LegalRedrive s (e ∷ new.core.past) = subst (LegalRedrive s) last (legal_part s (front ++ e ∷ []) more old.core.past whole) in
            subst (λ (t : RedriveSetting). LegalRedrive t (e ∷ new.core.past)) (ap (λ (t : RedriveSetting). redrive_over t messages) (sym setting)) legal;
      }

  -- it is carried out whole
  pub carried_all : (given : RedriveAnswer) → Decides old.core asked given X → new.core.owed ≡ [] → new.trouble ≡ old.trouble → old.trouble ≡ None → (X ≡ [] → (new.pair ≡ old.pair) × (new.dest ≡ old.dest))
      → HasGrown redrive_meaning m n old.pair new.pair old.dest new.dest X [] [] → LeavesFronts redrive_meaning m n old.pair new.pair old.dest new.dest (X ++ []) → new.found ≡ old.found → new.found_dest ≡ old.found_dest → PairKeepsWhileUp m new.pair → (new.trouble ≡ None → new.pair.down ≡ false)
      → CarriedAll m n old new asked given
  carried_all given decides owed same none_before quiet grown leaves found found_dest kept up =
      let es = entries_by old.core asked in
      let ms = messages_by old.core asked in
      let is = decides.entries_are in
      let split : es ++ [] ≡ es = append-nil es in
      let added = added_front es [] [] [] [] [] is split refl refl refl grown leaves found found_dest in
      let settled : SettledRedrive new.core.setting new.core.past =
      subst (λ (t : RedriveSetting). SettledRedrive t new.core.past) (sym added.setting) (subst (SettledRedrive (redrive_over old.core.setting ms)) (sym added.past) (decided_after old.core asked ahead).settled) in
      record {
        added = record {
          added = added;
          settled = owed;
          trouble = same ∙ none_before;
          quiet = λ none. quiet (is ∙ ap (redrive_entries ms) none);
          kept = kept;
          up = up (same ∙ none_before);
        };
        answer_is = decides.answer_is;
        sound = record {
          legal = legal_front es [] is split refl;
          settled = λ up. settled;
          changed = λ change so. absurd (cc (sym so ∙ (same ∙ none_before)));
          hand = λ e some. absurd (none_in_hand new.trouble new.core.owed e owed some);
          tried = λ e some. absurd (none_in_delivery new.trouble new.core.owed e owed some);
          hand_is_one = λ disk. absurd (cc (sym (same ∙ none_before) ∙ disk));
          tried_is_one = λ dest. absurd (cc (sym (same ∙ none_before) ∙ dest));
          none_owed = λ up. owed;
          none_coming = ap comes_first owed;
        };
      }

  -- a device failed in it
  pub added_some : (given : RedriveAnswer) (trouble : Trouble) (hand tried : List RedriveEntry) → Decides old.core asked given (X ++ owed_of new.core) → new.trouble ≡ Some trouble
      → WasWriting trouble (redrive_entries (messages_by old.core asked) new.core.owed) → comes_first new.core.owed ≡ false
      → hand ≡ redrive_entries (messages_by old.core asked) (hand_of trouble new.core.owed) → tried ≡ redrive_entries (messages_by old.core asked) (tried_of trouble new.core.owed)
      → HasGrown redrive_meaning m n old.pair new.pair old.dest new.dest X hand tried → LeavesFronts redrive_meaning m n old.pair new.pair old.dest new.dest (X ++ hand) → new.found ≡ old.found → new.found_dest ≡ old.found_dest
      → AddedSome m n (messages_by old.core asked) old new (entries_by old.core asked) trouble × IsSound new
  added_some given trouble hand tried decides is writing first in_hand was_tried grown leaves found found_dest =
      let es = entries_by old.core asked in
      let ms = messages_by old.core asked in
      let front = map entry_in X in
      let rest = new.core.owed in
      let split : front ++ rest ≡ es = parted new.core ms es X decides.entries_are in
      let fronts = (parts_are new.core ms es X decides.entries_are).0 in (
        record {
          front = front;
          rest = rest;
          split = split;
          writing = writing;
          added = added_front front rest hand tried (hand_of trouble rest) (tried_of trouble rest) fronts split first in_hand was_tried grown leaves found found_dest;
          owed = refl;
          trouble_is = is;
        },
        record {
          legal = legal_front front rest fronts split first;
          settled = λ up. absurd (cc (sym is ∙ up));
          changed = λ change so. absurd (was_no_change (redrive_entries ms rest) trouble change (sym is ∙ so) writing);
          hand = λ e some. (let owed = first_in_hand new.trouble rest e some in first_follows front rest owed.0 e fronts split first owed.1);
          tried = λ e some. (let owed = first_in_delivery new.trouble rest e some in first_follows front rest owed.0 e fronts split first owed.1);
          hand_is_one = λ disk.
              let one = one_in_hand new.trouble trouble ms rest is writing disk in
              (one.0, one.1, one.2, ap (λ (t : RedriveSetting). payload_in (redrive_entry t.queue.messages one.0)) (setting_some old.core new.core X went asked front rest fronts split first) ∙ one.3);
          tried_is_one = one_tried new.trouble trouble ms rest is writing;
          none_owed = λ up. absurd (cc (sym is ∙ up));
          none_coming = first;
        },
      )

  owed_is : (given : RedriveAnswer) → Decides old.core asked given (X ++ owed_of new.core) → owed_of new.core ≡ redrive_entries (messages_by old.core asked) new.core.owed
  owed_is given decides = (parts_are new.core (messages_by old.core asked) (entries_by old.core asked) X decides.entries_are).1

  first_owed : (given : RedriveAnswer) → Decides old.core asked given (X ++ owed_of new.core) → take 1 (owed_of new.core) ≡ redrive_entries (messages_by old.core asked) (take 1 new.core.owed)
  first_owed given decides = ap (take 1) (owed_is given decides) ∙ take-entries (messages_by old.core asked) new.core.owed

  -- a disk failed in it
  pub carried_some : (given : RedriveAnswer) → Decides old.core asked given (X ++ owed_of new.core) → new.trouble ≡ Some Disk → 0 < length (written_of payload_in (take 1 (owed_of new.core)))
      → HasGrown redrive_meaning m n old.pair new.pair old.dest new.dest X (take 1 (owed_of new.core)) [] → LeavesFronts redrive_meaning m n old.pair new.pair old.dest new.dest (X ++ take 1 (owed_of new.core)) → new.found ≡ old.found → new.found_dest ≡ old.found_dest → Rose (m.faults old.pair.used) (m.faults new.pair.used)
      → CarriedSome m n old new asked
  carried_some given decides is writing grown leaves found found_dest cause =
      let ms = messages_by old.core asked in
      let was : WasWriting Disk (redrive_entries ms new.core.owed) = subst (λ (xs : List RedriveEntry). 0 < length (written_of payload_in (take 1 xs))) (owed_is given decides) writing in
      let so = added_some given Disk (take 1 (owed_of new.core)) [] decides is was (payload_first ms new.core.owed was) (first_owed given decides) refl grown leaves found found_dest in
      record { added = so.0; cause = cause; given = given; answer_is = decides.answer_is; sound = so.1 }

  -- the dead-letter file failed in it
  pub undelivered : (given : RedriveAnswer) → Decides old.core asked given (X ++ owed_of new.core) → new.trouble ≡ Some Dest → 0 < length (written_of line_in (take 1 (owed_of new.core)))
      → HasGrown redrive_meaning m n old.pair new.pair old.dest new.dest X [] (take 1 (owed_of new.core)) → LeavesFronts redrive_meaning m n old.pair new.pair old.dest new.dest (X ++ []) → new.found ≡ old.found → new.found_dest ≡ old.found_dest → Rose (n.faults old.dest) (n.faults new.dest)
      → Undelivered m n old new asked
  undelivered given decides is writing grown leaves found found_dest cause =
      let ms = messages_by old.core asked in
      let was : WasWriting Dest (redrive_entries ms new.core.owed) = subst (λ (xs : List RedriveEntry). 0 < length (written_of line_in (take 1 xs))) (owed_is given decides) writing in
      let so = added_some given Dest [] (take 1 (owed_of new.core)) decides is was (line_first ms new.core.owed was) refl (first_owed given decides) grown leaves found found_dest in
      record { added = so.0; cause = cause; sound = so.1 }

-- where no line is to be delivered the dead-letter file does not fail

lines_first : (es : List RedriveEntry) → written_of line_in es ≡ [] → written_of line_in (take 1 es) ≡ []
lines_first [] none = refl
lines_first (e ∷ es) none = (both_none (written_of line_in (e ∷ [])) (written_of line_in es) (sym (filter_map-append line_in (e ∷ []) es) ∙ none)).0

pub all_delivered : {D T : Type 0} (m : DiskMeaning D) (n : DestMeaning T) (old new : BookState D T) (asked : RedriveCall) → IsSilent asked → Undelivered m n old new asked → ⊥
all_delivered m n old new asked is ended =
    let ms = messages_by old.core asked in
    let some = ended.added in
    let none = silent_no_line ms old.core asked is in
    let apart : written_of line_in (redrive_entries ms some.front) ++ written_of line_in (redrive_entries ms some.rest) ≡ [] =
    sym (filter_map-append line_in (redrive_entries ms some.front) (redrive_entries ms some.rest)) ∙ (ap (written_of line_in) (sym (map-append (redrive_entry ms) some.front some.rest) ∙ ap (redrive_entries ms) some.split) ∙ none) in
    let first = lines_first (redrive_entries ms some.rest) (both_none (written_of line_in (redrive_entries ms some.front)) (written_of line_in (redrive_entries ms some.rest)) apart).1 in
    let writing : 0 < length (written_of line_in (take 1 (redrive_entries ms some.rest))) = some.writing in
    let long : length (written_of line_in (take 1 (redrive_entries ms some.rest))) ≡ 0 = ap (λ (texts : List (List ℕ)). length texts) first in
    omega (arith, writing, long)

-- there was no memory for it
pub carried_none : {D T : Type 0} (n : DestMeaning T) (old new : BookState D T) → IsSound old → IsSame n old new → CarriedNone n old new
carried_none {D} {T} n old new sound same =
    let roomy : BookState D T = record old { pair = record old.pair { room = new.pair.room }; dest = new.dest } in
    let kept : IsSound roomy = record { legal = sound.legal; settled = sound.settled; changed = sound.changed; hand = sound.hand; tried = sound.tried; hand_is_one = sound.hand_is_one; tried_is_one = sound.tried_is_one; none_owed = sound.none_owed; none_coming = sound.none_coming } in
    record { same = same; sound = subst IsSound (sym same.rest) kept }

-- it brought a change

sorted_before : {D T : Type 0} (old : BookState D T) (asked : RedriveCall) (change : Change) → IsSound old → old.trouble ≡ None → MayAsk old.core asked → Refuses old.core asked change → IsSorted old.core.setting old.core.past
sorted_before old (call.Came items moment) change sound up may refuses = record { going = may.going; recorded = (sound.settled up).recorded; sorted = (sound.settled up).sorted }
sorted_before old (call.Shut moment) change sound up may refuses = absurd refuses
sorted_before old (call.Next moment) change sound up may refuses = absurd refuses
sorted_before old (call.Done job reply moment) change sound up may refuses = absurd refuses

pub found_change : {D T : Type 0} (old new : BookState D T) (asked : RedriveCall) (change : Change) → IsSound old → old.trouble ≡ None → MayAsk old.core asked → Refuses old.core asked change → new ≡ record old { trouble = Some (Changed change) } → FoundChange old new asked change
found_change {D} {T} old new asked change sound up may refuses is =
    let down : BookState D T = record old { trouble = Some (Changed change) } in
    let kept : IsSound down = record {
      legal = sound.legal;
      settled = λ none. absurd (cc);
      changed = λ other so. sorted_before old asked change sound up may refuses;
      hand = λ e some. absurd (cc);
      tried = λ e some. absurd (cc);
      hand_is_one = λ disk. absurd (cc);
      tried_is_one = λ dest. absurd (cc);
      none_owed = λ none. absurd (cc);
      none_coming = sound.none_coming;
    } in
    record { refuses = refuses; rest = is; sound = subst IsSound (sym is) kept }

-- an entry is noted

later_for : (h : List Entry) (moment : ℕ) → last_moment h ≤ MAX_MOMENT → IsLater h (moment_for h moment)
later_for h moment within = record { not_back = omega (arith, within); within = omega arith }

-- what follows a front follows it still
follows_on : (s : RedriveSetting) (h : List Entry) (e x : Entry) → is_end e ≡ true → FollowsFront s h x → FollowsFront s (e ∷ h) x
follows_on s h e x ends f = record {
  before = f.before;
  later = e ∷ f.later;
  split = ap (λ (es : List Entry). e ∷ es) f.split;
  ends = ap₂ (λ (a b : Bool). a && b) ends f.ends;
  follows = f.follows;
}

module _ {D T : Type 0} (old new : BookState D T) (e : Entry) (X : List RedriveEntry) (went : Went old.core new.core X) (sound : IsSound old) (is : X ≡ redrive_entries (all_messages old.core) (e ∷ [])) (owed : owed_of new.core ≡ owed_of old.core) (rest : new ≡ record old { core = new.core }) where
  pub added_one : (silent : new.core.setting.queue.messages ≡ old.core.setting.queue.messages) → AddedOne old new e
  added_one silent = record {
    past = past_some old.core new.core X went (all_messages old.core) (e ∷ []) is;
    setting = opened_so new.core old.core went.origin ∙ ap (redrive_over old.core.setting) silent;
    owed = sym (owed_entries new.core) ∙ (ap (map entry_in) owed ∙ owed_entries old.core);
    rest = rest;
  }

  pub sound_one : AddedOne old new e → LegalRedrive old.core.setting (e ∷ old.core.past) → (old.trouble ≡ None → SettledRedrive old.core.setting (e ∷ old.core.past))
      → ((change : Change) → old.trouble ≡ Some (Changed change) → IsSorted old.core.setting (e ∷ old.core.past)) → is_end e ≡ true → IsSound new
  sound_one added legal settled changed ends =
      let same : new.trouble ≡ old.trouble = ap (λ (b : BookState D T). b.trouble) rest in
      record {
        legal = subst (λ (t : RedriveSetting). LegalRedrive t new.core.past) (sym added.setting) (subst (LegalRedrive old.core.setting) (sym added.past) legal);
        settled = λ up. subst (λ (t : RedriveSetting). SettledRedrive t new.core.past) (sym added.setting) (subst (SettledRedrive old.core.setting) (sym added.past) (settled (sym same ∙ up)));
        changed = λ change so. subst (λ (t : RedriveSetting). IsSorted t new.core.past) (sym added.setting) (subst (IsSorted old.core.setting) (sym added.past) (changed change (sym same ∙ so)));
        hand = λ x some. subst (λ (t : RedriveSetting). FollowsFront t new.core.past x) (sym added.setting)
            (subst (λ (h : List Entry). FollowsFront old.core.setting h x) (sym added.past) (follows_on old.core.setting old.core.past e x ends (sound.hand x (sym (ap₂ (λ (why : Option Trouble) (es : List Entry). in_hand why es) same added.owed) ∙ some))));
        tried = λ x some. subst (λ (t : RedriveSetting). FollowsFront t new.core.past x) (sym added.setting)
            (subst (λ (h : List Entry). FollowsFront old.core.setting h x) (sym added.past) (follows_on old.core.setting old.core.past e x ends (sound.tried x (sym (ap₂ (λ (why : Option Trouble) (es : List Entry). in_delivery why es) same added.owed) ∙ some))));
        hand_is_one = λ disk.
            let one = sound.hand_is_one (sym same ∙ disk) in
            (one.0, one.1, ap₂ (λ (why : Option Trouble) (es : List Entry). in_hand why es) same added.owed ∙ one.2, ap (λ (t : RedriveSetting). payload_in (redrive_entry t.queue.messages one.0)) added.setting ∙ one.3);
        tried_is_one = λ dest.
            let one = sound.tried_is_one (sym same ∙ dest) in
            (one.0, one.1, ap₂ (λ (why : Option Trouble) (es : List Entry). in_delivery why es) same added.owed ∙ one.2, one.3);
        none_owed = λ up. added.owed ∙ sound.none_owed (sym same ∙ up);
        none_coming = ap comes_first added.owed ∙ sound.none_coming;
      }

-- the end of a call, on a book that is down
pub noted_end : {D T : Type 0} (old new : BookState D T) (job : Job) (reply : Reply) (moment : ℕ) (X : List RedriveEntry) → IsSound old → (old.trouble ≡ None → ⊥) → IsRunningJob old.core.past job
    → Went old.core new.core X → X ≡ redrive_entries (all_messages old.core) (Ended job.lane reply (moment_for old.core.past moment) ∷ []) → owed_of new.core ≡ owed_of old.core → new ≡ record old { core = new.core } → Noted old new (Ended job.lane reply (moment_for old.core.past moment))
noted_end old new job reply moment X sound down runs went is owed rest =
    let m = moment_for old.core.past moment in
    let e : Entry = Ended job.lane reply m in
    let silent = messages_grow old.core new.core X went (all_messages old.core) (e ∷ []) is ∙ append-nil old.core.setting.queue.messages in
    let added = added_one old new e X went sound is owed rest silent in
    record {
      added = added;
      sound = sound_one old new e X went sound is owed rest added (sound.legal, (later_for old.core.past moment went.before.in_time, record { batcher = runs.lane; runs = runs.runs })) (λ up. absurd (down up))
          (λ change so. (let was = sound.changed change so in record { going = was.going; recorded = was.recorded; sorted = was.sorted })) refl;
    }

-- the end of the input, on a book that is not
pub noted_shut : {D T : Type 0} (old new : BookState D T) (moment : ℕ) (X : List RedriveEntry) → IsSound old → old.trouble ≡ None → is_shut old.core.past ≡ false → ((s : RedriveSetting) (h : List Entry) → Sound s h → ShutIsSound s h)
    → Went old.core new.core X → X ≡ redrive_entries (all_messages old.core) (Shut (moment_for old.core.past moment) ∷ []) → owed_of new.core ≡ owed_of old.core → new ≡ record old { core = new.core } → Noted old new (Shut (moment_for old.core.past moment))
noted_shut old new moment X sound up going law went is owed rest =
    let m = moment_for old.core.past moment in
    let e : Entry = Shut m in
    let silent = messages_grow old.core new.core X went (all_messages old.core) (e ∷ []) is ∙ append-nil old.core.setting.queue.messages in
    let added = added_one old new e X went sound is owed rest silent in
    let after = law old.core.setting old.core.past (record { legal = sound.legal; settled = sound.settled up }) m going (later_for old.core.past moment went.before.in_time) in
    record { added = added; sound = sound_one old new e X went sound is owed rest added after.legal (λ same. after.settled) (λ change so. absurd (cc (sym so ∙ up))) refl }
