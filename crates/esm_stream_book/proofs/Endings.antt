-- How a call that was carried out ends.
use Rattle.std.proofs.Common.{◌≡◌, ℕ, ◌<◌, false, List, [], ◌∷◌, ◌++◌, length, map, take, refl, sym, ap, ap₂, ◌∙◌, subst, arith, append-nil, Some, None}
use Rattle.std.proofs.lemmas.List.{map-append}
use Rattle.std.proofs.lemmas.List.Elements.{filter_map-append}
use Rattle.esm_io.specs.Faults.{Rose}
use Rattle.esm_io.specs.Meanings.{DiskMeaning, DestMeaning}
use Rattle.esm_io.specs.Told.{Grows}
use Rattle.esm_journal.specs.Pair.{PairKeepsWhileUp}
use Rattle.esm_model.specs.declared.book.Change.{Change}
use Rattle.esm_model.specs.declared.book.Trouble.{Trouble}
use Rattle.esm_model.specs.declared.book.Trouble.TheVariants.{Disk, Dest, Changed}
use Rattle.esm_model.specs.declared.entry.Entry.{Entry}
use Rattle.esm_model.specs.Setting.{Setting}
use Rattle.esm_model.specs.Books.{entry_line}
use Rattle.esm_journal_record.specs.EntryPayload.{entry_payload}
use Rattle.esm_ingest.specs.Parts.{parts_of}
use Rattle.esm_book.specs.Decided.{written_of}
use Rattle.esm_book.specs.Growth.{LeavesFronts}
use Rattle.esm_book.specs.State.{in_hand, in_delivery}
use Rattle.esm_stream_core.specs.declared.decisions.StreamCall.{StreamCall}
use Rattle.esm_stream_core.specs.declared.decisions.StreamCall.TheVariants as call
use Rattle.esm_stream_core.specs.declared.decisions.StreamAnswer.{StreamAnswer}
use Rattle.esm_stream_core.specs.declared.decisions.StreamEntry.{StreamEntry}
use Rattle.esm_stream_core.specs.Calls.{moment_for}
use Rattle.esm_stream_core.specs.Told.{stream_entry, stream_entries, owed_of, Decides, Refuses}
use Rattle.esm_stream_core.specs.CoreView.{full_setting, MayFollowFront, HandFollows, lines_of}
use Rattle.esm_stream_book.specs.Books.{BookState, payloads_in, sent_of}
use Rattle.esm_stream_book.specs.Calls.{AddedSome, IsSame, WasWriting, hand_of}
use Rattle.esm_stream_book.specs.Keeping.{IsSound}
use Rattle.esm_stream_book.specs.Carried.{coming_by, setting_by, entries_by, CarriedAll, CarriedSome, Undelivered, FoundChange, CarriedNone}
use Rattle.esm_stream_book.proofs.Entries.{both_none, entry_in, owed_entries, parted, parts_are, take-entries}
use Rattle.esm_stream_book.proofs.Tellings.{none_owed, payload_in, line_in, payloads_told, lines_told}
use Rattle.esm_stream_book.proofs.Hands.{none_delivered, none_tried, hand_follows, one_in_hand, one_tried, tried_follows}
use Rattle.esm_stream_book.proofs.Bringing.{parts_silent}
use Rattle.esm_stream_book.proofs.Deciding.{decided_so}
use Rattle.esm_stream_book.proofs.Going.{stream_meaning, Went, added_so, leaves_first, setting_all, sound_all, sound_some}

-- the lines of entries are delivered
pub lines_sent : {T : Type 0} (n : DestMeaning T) (before after : T) (X : List StreamEntry) (s : Setting) (es : List Entry) → X ≡ stream_entries s es
    → Grows (n.lines before) (n.lines after) (map n.sends (written_of line_in X)) → Grows (n.lines before) (n.lines after) (sent_of n es)
lines_sent n before after X s es is grows =
    subst (λ (texts : List (List ℕ)). Grows (n.lines before) (n.lines after) (map n.sends texts)) (ap (written_of line_in) is ∙ lines_told s es) grows

module _ {D T : Type 0} (m : DiskMeaning D) (n : DestMeaning T) (old new : BookState D T) (asked : StreamCall) (given : StreamAnswer) (X : List StreamEntry) where
  -- it is carried out whole
  pub carried_all : IsSound old → old.core.coming ≡ [] → Decides old.core asked given X → Went old new X → owed_of new.core ≡ [] → new.trouble ≡ old.trouble → old.trouble ≡ None → (X ≡ [] → (new.pair ≡ old.pair) × (new.dest ≡ old.dest))
      → Grows (n.lines old.dest) (n.lines new.dest) (map n.sends (written_of line_in (X ++ []))) → LeavesFronts stream_meaning m n old.pair new.pair old.dest new.dest (X ++ []) → PairKeepsWhileUp m new.pair → (new.trouble ≡ None → new.pair.down ≡ false)
      → CarriedAll m n old new asked given
  carried_all sound rests decides w owed same none_before quiet sent leaves kept up =
      let d = decided_so old.core asked given X decides in
      let s = setting_by old.core asked in
      let es = entries_by old.core asked in
      let coming = coming_by old.core asked in
      let all : X ++ [] ≡ stream_entries s es = append-nil X ∙ d.entries_are in
      record {
        added = record {
          added = added_so old new X s es w d.entries_are;
          setting = setting_all old new X coming es w d.entries_are d.legal d.brings rests sound;
          settled = none_owed (full_setting new.core) new.core.owed owed;
          trouble = same ∙ none_before;
          quiet = λ none. quiet (d.entries_are ∙ ap (stream_entries s) none);
          delivered = lines_sent n old.dest new.dest (X ++ []) s es all sent;
          images = leaves_first m n old.pair new.pair old.dest new.dest (X ++ []) s es all leaves;
          kept = kept;
          up = up (same ∙ none_before);
        };
        answer_is = d.answer_is;
        no_change = d.no_change;
        sound = sound_all old new X coming es w d.entries_are d.legal d.settled d.brings rests sound (none_owed (full_setting new.core) new.core.owed owed) (same ∙ none_before);
      }

  -- a device failed in it
  pub added_some : (trouble : Trouble) (hand : List StreamEntry) → IsSound old → old.core.coming ≡ [] → Decides old.core asked given (X ++ owed_of new.core) → Went old new X → new.trouble ≡ Some trouble
      → WasWriting trouble (setting_by old.core asked) new.core.owed → hand ≡ stream_entries (setting_by old.core asked) (hand_of trouble new.core.owed)
      → Grows (n.lines old.dest) (n.lines new.dest) (map n.sends (written_of line_in (X ++ hand))) → LeavesFronts stream_meaning m n old.pair new.pair old.dest new.dest (X ++ hand)
      → ((e : Entry) → in_hand new.trouble new.core.owed ≡ e ∷ [] → MayFollowFront new.core.setting new.core.past e)
      → ((e : Entry) → in_delivery new.trouble new.core.owed ≡ e ∷ [] → MayFollowFront new.core.setting new.core.past e)
      → (new.trouble ≡ Some Disk → (e : Entry) × (payload : List ℕ) × (in_hand new.trouble new.core.owed ≡ e ∷ []) × (entry_payload new.core.setting e ≡ Some payload))
      → (new.trouble ≡ Some Dest → (e : Entry) × (line : List ℕ) × (in_delivery new.trouble new.core.owed ≡ e ∷ []) × (entry_line e ≡ Some line))
      → AddedSome m n (setting_by old.core asked) old new (entries_by old.core asked) trouble × IsSound new
  added_some trouble hand sound rests decides w is writing written_so sent leaves follows tried hand_one tried_one =
      let d = decided_so old.core asked given (X ++ owed_of new.core) decides in
      let s = setting_by old.core asked in
      let es = entries_by old.core asked in
      let front = map entry_in X in
      let rest = new.core.owed in
      let split : front ++ rest ≡ es = ap (λ (xs : List Entry). front ++ xs) (sym (owed_entries new.core)) ∙ parted s es X (owed_of new.core) d.entries_are in
      let first = (parts_are s es X (owed_of new.core) d.entries_are).0 in
      let left = front ++ hand_of trouble rest in
      let all : X ++ hand ≡ stream_entries s left = ap₂ (λ (xs ys : List StreamEntry). xs ++ ys) first written_so ∙ sym (map-append (stream_entry s) front (hand_of trouble rest)) in (
        record {
          front = front;
          rest = rest;
          split = split;
          writing = writing;
          added = added_so old new X s front w first;
          owed = refl;
          trouble_is = is;
          delivered = lines_sent n old.dest new.dest (X ++ hand) s left all sent;
          images = leaves_first m n old.pair new.pair old.dest new.dest (X ++ hand) s left all leaves;
        },
        sound_some old new X (coming_by old.core asked) front rest es w first split d.legal rests sound (λ up. absurd (cc (sym is ∙ up))) follows tried hand_one tried_one,
      )

  -- what is owed is so over the records that came with the call
  owed_is : Decides old.core asked given (X ++ owed_of new.core) → owed_of new.core ≡ stream_entries (setting_by old.core asked) new.core.owed
  owed_is decides =
      let s = setting_by old.core asked in
      (parts_are s (entries_by old.core asked) X (owed_of new.core) (decided_so old.core asked given (X ++ owed_of new.core) decides).entries_are).1 ∙ ap (stream_entries s) (owed_entries new.core)

  first_owed : Decides old.core asked given (X ++ owed_of new.core) → take 1 (owed_of new.core) ≡ stream_entries (setting_by old.core asked) (take 1 new.core.owed)
  first_owed decides = ap (take 1) (owed_is decides) ∙ take-entries (setting_by old.core asked) new.core.owed

  -- a disk failed in it
  pub carried_some : IsSound old → old.core.coming ≡ [] → Decides old.core asked given (X ++ owed_of new.core) → Went old new X → new.trouble ≡ Some Disk → 0 < length (written_of payload_in (take 1 (owed_of new.core)))
      → Grows (n.lines old.dest) (n.lines new.dest) (map n.sends (written_of line_in (X ++ take 1 (owed_of new.core)))) → LeavesFronts stream_meaning m n old.pair new.pair old.dest new.dest (X ++ take 1 (owed_of new.core)) → Rose (m.faults old.pair.used) (m.faults new.pair.used)
      → HandFollows new.core → (0 < length (payloads_in (full_setting new.core) (take 1 new.core.owed)) → new.core.coming ≡ []) → CarriedSome m n old new asked
  carried_some sound rests decides w is writing sent leaves cause follows alone =
      let s = setting_by old.core asked in
      let hand = first_owed decides in
      let was : WasWriting Disk s new.core.owed = subst (λ (texts : List (List ℕ)). 0 < length texts) (ap (written_of payload_in) hand ∙ payloads_told s (take 1 new.core.owed)) writing in
      let so = added_some Disk (take 1 (owed_of new.core)) sound rests decides w is was hand sent leaves (λ e some. hand_follows new.core new.trouble e follows alone writing is some)
      (λ e some. absurd (none_tried new.trouble new.core.owed e is some))
      (λ failed. one_in_hand new.core new.trouble alone writing failed) (λ failed. absurd (cc (sym is ∙ failed))) in
      record { added = so.0; cause = cause; no_change = (decided_so old.core asked given (X ++ owed_of new.core) decides).no_change; sound = so.1 }

  -- the destination failed in it
  pub undelivered : IsSound old → old.core.coming ≡ [] → Decides old.core asked given (X ++ owed_of new.core) → Went old new X → new.trouble ≡ Some Dest → 0 < length (written_of line_in (take 1 (owed_of new.core)))
      → Grows (n.lines old.dest) (n.lines new.dest) (map n.sends (written_of line_in (X ++ []))) → LeavesFronts stream_meaning m n old.pair new.pair old.dest new.dest (X ++ []) → Rose (n.faults old.dest) (n.faults new.dest)
      → HandFollows new.core → (0 < length (payloads_in (full_setting new.core) (take 1 new.core.owed)) → new.core.coming ≡ []) → Undelivered m n old new asked
  undelivered sound rests decides w is writing sent leaves cause follows alone =
      let s = setting_by old.core asked in
      let was : WasWriting Dest s new.core.owed = subst (λ (texts : List (List ℕ)). 0 < length texts) (ap (written_of line_in) (first_owed decides) ∙ lines_told s (take 1 new.core.owed)) writing in
      let so = added_some Dest [] sound rests decides w is was refl sent leaves (λ e some. absurd (none_delivered new.trouble new.core.owed e is some))
      (λ e some. tried_follows new.core new.trouble e follows alone was is some)
      (λ failed. absurd (cc (sym is ∙ failed))) (λ failed. one_tried new.core.owed new.trouble was failed) in
      record { added = so.0; cause = cause; no_change = (decided_so old.core asked given (X ++ owed_of new.core) decides).no_change; sound = so.1 }

-- where no line is to be delivered the destination does not fail

lines_first : (es : List Entry) → lines_of es ≡ [] → lines_of (take 1 es) ≡ []
lines_first [] none = refl
lines_first (e ∷ es) none = (both_none (lines_of (e ∷ [])) (lines_of es) (sym (filter_map-append entry_line (e ∷ []) es) ∙ none)).0

not_silent : {D T : Type 0} (m : DiskMeaning D) (n : DestMeaning T) (s : Setting) (old new : BookState D T) (es : List Entry) → lines_of es ≡ [] → AddedSome m n s old new es Dest → ⊥
not_silent m n s old new es none some =
    let apart : lines_of some.front ++ lines_of some.rest ≡ [] = sym (filter_map-append entry_line some.front some.rest) ∙ (ap lines_of some.split ∙ none) in
    let first : lines_of (take 1 some.rest) ≡ [] = lines_first some.rest (both_none (lines_of some.front) (lines_of some.rest) apart).1 in
    let writing : 0 < length (lines_of (take 1 some.rest)) = some.writing in
    let long : length (lines_of (take 1 some.rest)) ≡ 0 = ap (λ (texts : List (List ℕ)). length texts) first in
    omega (arith, writing, long)

-- records come with it
abbrev pub IsCame : StreamCall → Type 0
IsCame (call.Came items moment) = Unit {0}
IsCame _ = ⊥

pub all_delivered : {D T : Type 0} (m : DiskMeaning D) (n : DestMeaning T) (old new : BookState D T) (asked : StreamCall) → IsCame asked → Undelivered m n old new asked → ⊥
all_delivered m n old new (call.Came items moment) is ended =
    let v = old.core in
    not_silent m n (setting_by v (call.Came items moment)) old new (entries_by v (call.Came items moment)) (parts_silent (moment_for v.past moment) (parts_of v.setting v.past items.items)) ended.added
all_delivered m n old new (call.Shut moment) is ended = is
all_delivered m n old new (call.Next batcher moment) is ended = is
all_delivered m n old new (call.Done job reply moment) is ended = is

-- it brought a change
pub found_change : {D T : Type 0} (old new : BookState D T) (asked : StreamCall) (change : Change) → IsSound old → Refuses old.core asked change → new ≡ record old { trouble = Some (Changed change) } → FoundChange old new asked change
found_change {D} {T} old new asked change sound refuses is =
    let down : BookState D T = record old { trouble = Some (Changed change) } in
    let kept : IsSound down = record { records = sound.records; of_stream = sound.of_stream; legal = sound.legal; settled = λ none. absurd (cc); hand_follows = λ e some. absurd (cc); tried_follows = λ e some. absurd (cc); hand_is_one = λ failed. absurd (cc); tried_is_one = λ failed. absurd (cc) } in
    record { refuses = refuses; rest = is; sound = subst IsSound (sym is) kept }

-- there was no memory for it
pub carried_none : {D T : Type 0} (n : DestMeaning T) (old new : BookState D T) → IsSound old → IsSame n old new → CarriedNone n old new
carried_none {D} {T} n old new sound same =
    let roomy : BookState D T = record old { pair = record old.pair { room = new.pair.room }; dest = new.dest } in
    let kept : IsSound roomy = record { records = sound.records; of_stream = sound.of_stream; legal = sound.legal; settled = sound.settled; hand_follows = sound.hand_follows; tried_follows = sound.tried_follows; hand_is_one = sound.hand_is_one; tried_is_one = sound.tried_is_one } in
    record { same = same; sound = subst IsSound (sym same.rest) kept }
