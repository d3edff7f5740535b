-- What the layer over devices tells of a call, in the words of queues.
use Rattle.std.proofs.Common.{◌≡◌, ℕ, ◌<◌, List, [], ◌∷◌, ◌++◌, length, take, drop, reverse, refl, sym, ap, ◌∙◌, subst, arith, append_assoc, append-nil, None}
use Rattle.std.specs.Prelude.{slice_get}
use Rattle.std.specs.List.{All}
use Rattle.std.proofs.lemmas.List.{reverse-append}
use Rattle.std.proofs.lemmas.List.Elements.{All-append, filter_map-append}
use Rattle.esm_io.specs.Meanings.{DiskMeaning, DestMeaning}
use Rattle.esm_journal.specs.Pair.{PairState}
use Rattle.esm_model.specs.declared.config.Config.{Config}
use Rattle.esm_model.specs.declared.item.Message.{Message}
use Rattle.esm_model.specs.declared.entry.Entry.{Entry}
use Rattle.esm_queue_model.specs.QueueSetting.{QueueSetting, ExtendsMessages, over_messages}
use Rattle.esm_queue_model.specs.QueueStep.{LegalQueue, SettledQueue}
use Rattle.esm_queue_model.specs.QueueBooks.{messages_told, IsOfQueue}
use Rattle.esm_journal_record.specs.EntryPayload.{queue_payload}
use Rattle.esm_book.specs.declared.nowhere.Nowhere.{Nowhere}
use Rattle.esm_book.specs.Decided.{written_of}
use Rattle.esm_book.specs.Meanings.{CoreMeaning}
use Rattle.esm_book.specs.Growth.{LeavesFronts, OpensToFront}
use Rattle.esm_book.specs.State.{in_hand}
use Rattle.esm_queue_core.specs.declared.decisions.Opened.{Opened}
use Rattle.esm_queue_core.specs.declared.decisions.QueueEntry.{QueueEntry}
use Rattle.esm_queue_core.specs.CoreView.{CoreView}
use Rattle.esm_queue_core.specs.Told.{queue_entries, history_of, owed_of, no_line, opened, told_entries, told_of}
use Rattle.esm_queue_core.proofs.Tellings.{written_told, payload_in}
use Rattle.esm_queue_core.proofs.ToldMessages.{told-append, messages-append}
use Rattle.esm_queue_book.specs.Books.{BookState, payloads_in, OpensToFirst, LeavesFirst}
use Rattle.esm_queue_book.specs.Calls.{Added}
use Rattle.esm_queue_book.specs.Keeping.{IsSound}
use Rattle.esm_queue_book.proofs.Entries.{past_grows, told_grows, All-front, both_none}
use Rattle.esm_queue_book.proofs.Hands.{first_in_hand, none_in_hand, one_in_hand}
use Rattle.esm_queue_book.proofs.Staying.{all_came, past_over, hand_over, stays_so}
use Rattle.esm_queue_book.proofs.Deciding.{DecidedSo}

-- how a core means its history and what it owes
abbrev pub queue_meaning : CoreMeaning CoreView QueueEntry
queue_meaning = record { history = history_of; owed = owed_of; payload = payload_in; line = no_line }

-- these entries went to the history, and their payloads to the journal
pub record Went {D : Type 0} (old new : BookState D) (X : List QueueEntry) : Type 0 where
  pub history : history_of new.core ≡ reverse X ++ history_of old.core
  pub origin : opened new.core ≡ opened old.core
  pub payloads : new.pair.payloads ≡ old.pair.payloads ++ written_of payload_in X
  pub found : new.found ≡ old.found
  pub messages : new.core.setting.messages ≡ messages_told (told_of new.core)
  pub messages_before : old.core.setting.messages ≡ messages_told (told_of old.core)
  pub rests : new.core.owed ≡ [] → new.core.coming ≡ []

-- the setting is as it was opened

pub opened_so : (v w : CoreView) → opened v ≡ opened w → v.setting ≡ over_messages w.setting v.setting.messages
opened_so v w is =
    ap (λ (o : Opened). record { config = o.config; calls = o.calls; visibility = o.visibility_ms; messages = v.setting.messages; deletions = o.deletions }) is

-- what a crash leaves

pub opens_first : (n : DestMeaning Nowhere) (epoch : ℕ) (before : List (List ℕ)) (dest dest' : Nowhere) (X : List QueueEntry) (messages : List Message) (es : List Entry) (one other : List ℕ) → X ≡ queue_entries messages es
    → OpensToFront queue_meaning n epoch before dest dest' X one other → OpensToFirst epoch before (payloads_in messages es) one other
opens_first n epoch before dest dest' X messages es one other is o = record {
  front = written_of payload_in o.front;
  rest = written_of payload_in o.rest;
  split = sym (filter_map-append payload_in o.front o.rest) ∙ (ap (written_of payload_in) (o.split ∙ is) ∙ written_told messages es);
  opens = o.opens;
}

pub leaves_first : {D : Type 0} (m : DiskMeaning D) (n : DestMeaning Nowhere) (pair pair' : PairState D) (dest dest' : Nowhere) (X : List QueueEntry) (messages : List Message) (es : List Entry) → X ≡ queue_entries messages es
    → LeavesFronts queue_meaning m n pair pair' dest dest' X → LeavesFirst m pair pair' (payloads_in messages es)
leaves_first m n pair pair' dest dest' X messages es is leaves honest spare one other i j =
    opens_first n pair.epoch pair.payloads dest dest' X messages es one other is (leaves honest spare one other i j)

module _ {D : Type 0} (old new : BookState D) (X : List QueueEntry) (messages : List Message) (es : List Entry) where
  pub added_so : Went old new X → X ≡ queue_entries messages es → Added messages old new es
  added_so w is = record {
    past = past_grows old.core new.core messages es X w.history is;
    told = told_grows old.core new.core messages es X w.history is;
    opened = opened_so new.core old.core w.origin;
    payloads = w.payloads ∙ ap (λ (texts : List (List ℕ)). old.pair.payloads ++ texts) (ap (written_of payload_in) is ∙ written_told messages es);
    found = w.found;
  }

  -- the messages after it are those before, and then those that the entries tell
  pub messages_grow : Went old new X → X ≡ queue_entries messages es → new.core.setting.messages ≡ old.core.setting.messages ++ messages_told (told_entries messages es)
  messages_grow w is =
      w.messages
      ∙ (ap messages_told (told_grows old.core new.core messages es X w.history is)
      ∙ (messages-append (told_of old.core) (told_entries messages es)
      ∙ ap (λ (ms : List Message). ms ++ messages_told (told_entries messages es)) (sym w.messages_before)))

  -- each entry is told as one of a queue
  pub of_queue_so : Went old new X → X ≡ queue_entries messages es → IsSound old → All (IsOfQueue old.core.setting.config.kind) (told_entries messages es) → All (IsOfQueue new.core.setting.config.kind) (told_of new.core)
  of_queue_so w is sound all =
      let same : old.core.setting.config ≡ new.core.setting.config = sym (ap (λ (o : Opened). o.config) w.origin) in
      subst (λ (c : Config). All (IsOfQueue c.kind) (told_of new.core)) same
      (subst (All (IsOfQueue old.core.setting.config.kind)) (sym (told_grows old.core new.core messages es X w.history is))
      (All-append (IsOfQueue old.core.setting.config.kind) (told_of old.core) (told_entries messages es) sound.of_queue all))

-- a history to which entries were added is legal without the last of them
pub legal_before : (s : QueueSetting) (later h : List Entry) → LegalQueue s (later ++ h) → LegalQueue s h
legal_before s [] h legal = legal
legal_before s (e ∷ later) h legal = legal_before s later h legal.0

extends_all : (all messages : List Message) → messages ≡ all → ExtendsMessages all messages
extends_all all messages is i x at = ap (λ (ms : List Message). slice_get ms i) is ∙ at

module _ {D : Type 0} (old new : BookState D) (X : List QueueEntry) (coming messages : List Message) (es : List Entry) where
  -- all was added
  pub setting_all : Went old new X → X ≡ queue_entries messages es → DecidedSo old.core coming messages es → new.core.setting ≡ over_messages old.core.setting messages
  setting_all w is so =
      opened_so new.core old.core w.origin
      ∙ ap (over_messages old.core.setting) (messages_grow old new X messages es w is ∙ (ap (λ (ms : List Message). old.core.setting.messages ++ ms) so.brings ∙ sym so.all))

  pub sound_all : Went old new X → X ≡ queue_entries messages es → DecidedSo old.core coming messages es → new.core.owed ≡ [] → new.trouble ≡ None → IsSound old → IsSound new
  sound_all w is so owed none sound =
      let s = over_messages old.core.setting messages in
      let goes = extends_all (old.core.setting.messages ++ coming) messages so.all in
      let setting : s ≡ new.core.setting = sym (setting_all w is so) in
      let past : reverse es ++ old.core.past ≡ new.core.past = sym (past_grows old.core new.core messages es X w.history is) in
      let all = all_came new.core (w.rests owed) in
      record {
        messages = w.messages;
        of_queue = of_queue_so old new X messages es w is sound so.of_queue;
        legal = subst (λ (t : QueueSetting). LegalQueue t new.core.past) setting (subst (LegalQueue s) past (so.legal messages goes));
        settled = λ up. subst (λ (t : QueueSetting). SettledQueue t new.core.past) setting (subst (SettledQueue s) past (so.settled messages goes));
        none_owed = λ up. owed;
        none_coming = w.rests;
        stays = ap (λ (ms : List Message). payloads_in ms (reverse new.core.past)) all;
        hand = ap (λ (ms : List Message). payloads_in ms (in_hand new.trouble new.core.owed)) all;
        hand_follows = λ e some. absurd (none_in_hand new.trouble new.core.owed e owed some);
        hand_is_one = λ disk. absurd (cc (sym none ∙ disk));
      }

-- a part was added

-- the first entries bring what all of them bring
front_brings : (messages coming : List Message) (e : Entry) (front rest : List Entry) → messages_told (told_entries messages ((e ∷ front) ++ rest)) ≡ coming → messages_told (told_entries messages (front ++ rest)) ≡ [] → messages_told (told_entries messages (e ∷ front)) ≡ coming
front_brings messages coming e front rest brings none =
    let apart : (es more : List Entry) → messages_told (told_entries messages (es ++ more)) ≡ messages_told (told_entries messages es) ++ messages_told (told_entries messages more)
    = λ es more. ap messages_told (told-append messages es more) ∙ messages-append (told_entries messages es) (told_entries messages more) in
    let silent = (both_none (messages_told (told_entries messages front)) (messages_told (told_entries messages rest)) (sym (apart front rest) ∙ none)).1 in
    sym (append-nil (messages_told (told_entries messages (e ∷ front))))
    ∙ (ap (λ (ms : List Message). messages_told (told_entries messages (e ∷ front)) ++ ms) (sym silent)
    ∙ (sym (apart (e ∷ front) rest) ∙ brings))

module _ {D : Type 0} (old new : BookState D) (X : List QueueEntry) (coming messages : List Message) where
  -- where the next entry was being written, the first one was added: all that were coming have come
  came_so_far : (front rest es : List Entry) → Went old new X → X ≡ queue_entries messages front → front ++ rest ≡ es → DecidedSo old.core coming messages es → 0 < length (payloads_in messages (take 1 rest)) → new.core.setting.messages ≡ messages
  came_so_far [] rest es w is split so writing =
      let none : payloads_in messages (take 1 rest) ≡ [] = ap (λ (xs : List Entry). payloads_in messages (take 1 xs)) split ∙ so.first_unwritten in
      let short : length (payloads_in messages (take 1 rest)) ≡ 0 = ap (λ (texts : List (List ℕ)). length texts) none in
      absurd (omega (arith, writing, short))
  came_so_far (e ∷ front) rest es w is split so writing =
      let brings = subst (λ (xs : List Entry). messages_told (told_entries messages xs) ≡ coming) (sym split) so.brings in
      let none = subst (λ (xs : List Entry). messages_told (told_entries messages (drop 1 xs)) ≡ []) (sym split) so.only_first in
      messages_grow old new X messages (e ∷ front) w is
      ∙ (ap (λ (ms : List Message). old.core.setting.messages ++ ms) (front_brings messages coming e front rest brings none) ∙ sym so.all)

  legal_some : (front rest es : List Entry) → Went old new X → X ≡ queue_entries messages front → front ++ rest ≡ es → DecidedSo old.core coming messages es → new.core.setting.messages ≡ messages → LegalQueue new.core.setting new.core.past
  legal_some front rest es w is split so came =
      let s = over_messages old.core.setting messages in
      let goes = extends_all (old.core.setting.messages ++ coming) messages so.all in
      let all : LegalQueue s (reverse (front ++ rest) ++ old.core.past) = subst (λ (xs : List Entry). LegalQueue s (reverse xs ++ old.core.past)) (sym split) (so.legal messages goes) in
      let apart : reverse (front ++ rest) ++ old.core.past ≡ reverse rest ++ (reverse front ++ old.core.past)
      = ap (λ (xs : List Entry). xs ++ old.core.past) (reverse-append front rest) ∙ append_assoc (reverse rest) (reverse front) old.core.past in
      let front_legal = legal_before s (reverse rest) (reverse front ++ old.core.past) (subst (LegalQueue s) apart all) in
      let past : reverse front ++ old.core.past ≡ new.core.past = sym (past_grows old.core new.core messages front X w.history is) in
      let setting : s ≡ new.core.setting = sym (opened_so new.core old.core w.origin ∙ ap (over_messages old.core.setting) came) in
      subst (λ (t : QueueSetting). LegalQueue t new.core.past) setting (subst (LegalQueue s) past front_legal)

  -- and the next entry may follow it
  next_some : (front more es : List Entry) (e : Entry) → Went old new X → X ≡ queue_entries messages front → front ++ e ∷ more ≡ es → DecidedSo old.core coming messages es → new.core.setting.messages ≡ messages → LegalQueue new.core.setting (e ∷ new.core.past)
  next_some front more es e w is split so came =
      let s = over_messages old.core.setting messages in
      let h = reverse front ++ old.core.past in
      let goes = extends_all (old.core.setting.messages ++ coming) messages so.all in
      let all : LegalQueue s (reverse (front ++ e ∷ more) ++ old.core.past) = subst (λ (xs : List Entry). LegalQueue s (reverse xs ++ old.core.past)) (sym split) (so.legal messages goes) in
      let apart : reverse (front ++ e ∷ more) ++ old.core.past ≡ reverse more ++ (e ∷ h) =
      ap (λ (xs : List Entry). xs ++ old.core.past) (reverse-append front (e ∷ more))
      ∙ (append_assoc (reverse (e ∷ more)) (reverse front) old.core.past
      ∙ (ap (λ (xs : List Entry). xs ++ h) (reverse-append (e ∷ []) more) ∙ append_assoc (reverse more) (e ∷ []) h)) in
      let legal : LegalQueue s (e ∷ h) = legal_before s (reverse more) (e ∷ h) (subst (LegalQueue s) apart all) in
      let past : h ≡ new.core.past = sym (past_grows old.core new.core messages front X w.history is) in
      let setting : s ≡ new.core.setting = sym (opened_so new.core old.core w.origin ∙ ap (over_messages old.core.setting) came) in
      subst (λ (t : QueueSetting). LegalQueue t (e ∷ new.core.past)) setting (subst (λ (g : List Entry). LegalQueue s (e ∷ g)) past legal)

  pub sound_some : (front es : List Entry) → Went old new X → X ≡ queue_entries messages front → owed_of new.core ≡ queue_entries messages new.core.owed → front ++ new.core.owed ≡ es → DecidedSo old.core coming messages es
      → queue_entries messages old.core.past ≡ history_of old.core → 0 < length (payloads_in messages (take 1 new.core.owed)) → IsSound old → (new.trouble ≡ None → ⊥) → IsSound new
  sound_some front es w is owes split so before writing sound down =
      let kind = old.core.setting.config.kind in
      let rest = new.core.owed in
      let came = came_so_far front rest es w is split so writing in
      let back : messages ≡ new.core.setting.messages = sym came in
      let all : All (IsOfQueue kind) (told_entries messages front ++ told_entries messages rest)
      = subst (All (IsOfQueue kind)) (ap (told_entries messages) (sym split) ∙ told-append messages front rest) so.of_queue in
      record {
        messages = w.messages;
        of_queue = of_queue_so old new X messages front w is sound (All-front (IsOfQueue kind) (told_entries messages front) (told_entries messages rest) all);
        legal = legal_some front rest es w is split so came;
        settled = λ up. absurd (down up);
        none_owed = λ up. absurd (down up);
        none_coming = w.rests;
        stays = stays_so old.core new.core messages front X w.history is
            (past_over old.core messages before ∙ ap (λ (ms : List Message). payloads_in ms (reverse old.core.past)) back)
            (ap (λ (ms : List Message). payloads_in ms front) back);
        hand = hand_over new.trouble new.core messages owes ∙ ap (λ (ms : List Message). payloads_in ms (in_hand new.trouble rest)) back;
        hand_follows = λ e some.
            let first = first_in_hand new.trouble rest e some in
            record {
              before = new.core.past;
              later = [];
              split = refl;
              ends = refl;
              follows = next_some front first.0 es e w is (ap (λ (xs : List Entry). front ++ xs) (sym first.1) ∙ split) so came;
            };
        hand_is_one = one_in_hand (queue_payload new.core.setting.messages) rest new.trouble (subst (λ (ms : List Message). 0 < length (payloads_in ms (take 1 rest))) back writing);
      }
