-- How a call that was carried out ends.
use Rattle.std.proofs.Common.{◌≡◌, ℕ, ◌<◌, false, List, [], ◌++◌, length, map, take, refl, sym, ap, ap₂, ◌∙◌, subst, arith, append-nil, Some, None}
use Rattle.std.proofs.lemmas.List.{map-append, length-map}
use Rattle.esm_io.specs.Faults.{Rose}
use Rattle.esm_io.specs.Meanings.{DiskMeaning, DestMeaning}
use Rattle.esm_journal.specs.Pair.{PairKeepsWhileUp}
use Rattle.esm_model.specs.declared.book.Change.{Change}
use Rattle.esm_model.specs.declared.book.Trouble.TheVariants.{Disk, Changed}
use Rattle.esm_book.specs.declared.nowhere.Nowhere.{Nowhere}
use Rattle.esm_book.specs.Decided.{written_of}
use Rattle.esm_book.specs.Growth.{LeavesFronts}
use Rattle.esm_queue_core.specs.declared.decisions.QueueCall.{QueueCall}
use Rattle.esm_queue_core.specs.declared.decisions.QueueAnswer.{QueueAnswer}
use Rattle.esm_queue_core.specs.declared.decisions.QueueEntry.{QueueEntry}
use Rattle.esm_queue_core.specs.Told.{queue_entry, queue_entries, owed_of, MayAsk, Decides, Refuses}
use Rattle.esm_queue_core.proofs.Tellings.{none_owed, written_told, payload_in}
use Rattle.esm_queue_book.specs.Books.{BookState}
use Rattle.esm_queue_book.specs.Calls.{IsSame}
use Rattle.esm_queue_book.specs.Keeping.{IsSound}
use Rattle.esm_queue_book.specs.Carried.{coming_by, messages_after, entries_by, CarriedAll, CarriedSome, FoundChange, CarriedNone}
use Rattle.esm_queue_book.proofs.Entries.{entry_in, parted, parts_are, take-entries}
use Rattle.esm_queue_book.proofs.Staying.{one_payload}
use Rattle.esm_queue_book.proofs.Deciding.{decided_so, told_before, no_change}
use Rattle.esm_queue_book.proofs.Going.{queue_meaning, Went, added_so, leaves_first, setting_all, sound_all, sound_some}

module _ {D : Type 0} (m : DiskMeaning D) (n : DestMeaning Nowhere) (old new : BookState D) (asked : QueueCall) (given : QueueAnswer) (X : List QueueEntry) where
  -- it is carried out whole
  pub carried_all : IsSound old → MayAsk old.core asked → Decides old.core asked given X → Went old new X → owed_of new.core ≡ [] → new.trouble ≡ None → (X ≡ [] → new.pair ≡ old.pair)
      → LeavesFronts queue_meaning m n old.pair new.pair old.dest new.dest (X ++ []) → PairKeepsWhileUp m new.pair → new.pair.down ≡ false → CarriedAll m old new asked given
  carried_all sound may decides w owed trouble quiet leaves kept up =
      let d = decided_so old.core asked given X may decides in
      let messages = messages_after old.core asked in
      let es = entries_by old.core asked in
      let settled = none_owed (new.core.setting.messages ++ new.core.coming) new.core.owed owed in
      record {
        added = record {
          added = added_so old new X messages es w d.entries_are;
          setting = setting_all old new X (coming_by asked) messages es w d.entries_are d.so;
          settled = settled;
          trouble = trouble;
          quiet = λ none. quiet (d.entries_are ∙ ap (queue_entries messages) none);
          images = leaves_first m n old.pair new.pair old.dest new.dest (X ++ []) messages es (append-nil X ∙ d.entries_are) leaves;
          kept = kept;
          up = up;
        };
        answer_is = d.answer_is;
        no_change = λ change. no_change old.core asked change d.so.legal;
        sound = sound_all old new X (coming_by asked) messages es w d.entries_are d.so settled trouble sound;
      }

  -- a disk failed in it
  pub carried_some : IsSound old → old.trouble ≡ None → MayAsk old.core asked → Decides old.core asked given (X ++ owed_of new.core) → Went old new X → 0 < length (owed_of new.core) → 0 < length (written_of payload_in (take 1 (owed_of new.core))) → new.trouble ≡ Some Disk
      → LeavesFronts queue_meaning m n old.pair new.pair old.dest new.dest (X ++ take 1 (owed_of new.core)) → Rose (m.faults old.pair.used) (m.faults new.pair.used) → CarriedSome m old new asked
  carried_some sound up may decides w left appending trouble leaves cause =
      let d = decided_so old.core asked given (X ++ owed_of new.core) may decides in
      let messages = messages_after old.core asked in
      let es = entries_by old.core asked in
      let front = map entry_in X in
      let rest = new.core.owed in
      let split : front ++ rest ≡ es = parted new.core messages es X d.entries_are in
      let parts = parts_are new.core messages es X d.entries_are in
      let first : take 1 (owed_of new.core) ≡ queue_entries messages (take 1 rest) = ap (take 1) parts.1 ∙ take-entries messages rest in
      let writing = subst (λ (texts : List (List ℕ)). 0 < length texts) (ap (written_of payload_in) first ∙ written_told messages (take 1 rest)) appending in
      let settled = sound.none_owed up in
      record {
        added = record {
          front = front;
          rest = rest;
          split = split;
          left = (let long = length-map rest (queue_entry (new.core.setting.messages ++ new.core.coming)) in omega (arith, left, long));
          writing = one_payload messages rest writing;
          added = added_so old new X messages front w parts.0;
          owed = refl;
          trouble = trouble;
          images = leaves_first m n old.pair new.pair old.dest new.dest (X ++ take 1 (owed_of new.core)) messages (front ++ take 1 rest)
              (ap₂ (λ (xs ys : List QueueEntry). xs ++ ys) parts.0 first ∙ sym (map-append (queue_entry messages) front (take 1 rest))) leaves;
        };
        cause = cause;
        no_change = λ change. no_change old.core asked change d.so.legal;
        sound = sound_some old new X (coming_by asked) messages front es w parts.0 parts.1 split d.so
            (told_before old.core asked (sound.none_coming settled) settled d.so.legal) writing sound (λ none. absurd (cc (sym trouble ∙ none)));
      }

-- it brought a change
pub found_change : {D : Type 0} (old new : BookState D) (asked : QueueCall) (change : Change) → IsSound old → old.trouble ≡ None → Refuses old.core asked change → new ≡ record old { trouble = Some (Changed change) } → FoundChange old new asked change
found_change {D} old new asked change sound up refuses is =
    let down : BookState D = record old { trouble = Some (Changed change) } in
    let kept : IsSound down = record {
      messages = sound.messages;
      of_queue = sound.of_queue;
      legal = sound.legal;
      settled = λ none. sound.settled up;
      none_owed = λ none. sound.none_owed up;
      none_coming = sound.none_coming;
      stays = sound.stays;
      hand = refl;
      hand_follows = λ e some. absurd (cc);
      hand_is_one = λ disk. absurd (cc);
    } in
    record { refuses = refuses; rest = is; sound = subst IsSound (sym is) kept }

-- there was no memory for it
pub carried_none : {D : Type 0} (old new : BookState D) → IsSound old → IsSame old new → CarriedNone old new
carried_none {D} old new sound same =
    let roomy : BookState D = record old { pair = record old.pair { room = new.pair.room } } in
    let kept : IsSound roomy = record {
      messages = sound.messages;
      of_queue = sound.of_queue;
      legal = sound.legal;
      settled = sound.settled;
      none_owed = sound.none_owed;
      none_coming = sound.none_coming;
      stays = sound.stays;
      hand = sound.hand;
      hand_follows = sound.hand_follows;
      hand_is_one = sound.hand_is_one;
    } in
    record { same = same; sound = subst IsSound (sym same) kept }
