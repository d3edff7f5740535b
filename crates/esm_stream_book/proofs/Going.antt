-- What the layer over devices tells of a call, in the words of streams.
use Rattle.std.proofs.Common.{◌≡◌, ℕ, List, [], ◌∷◌, ◌++◌, map, reverse, sym, ap, ◌∙◌, subst, append_assoc, Some, None}
use Rattle.std.specs.List.{All}
use Rattle.std.proofs.lemmas.List.{reverse-append}
use Rattle.esm_io.specs.Meanings.{DiskMeaning, DestMeaning}
use Rattle.esm_journal.specs.File.{header_of}
use Rattle.esm_journal.specs.Pair.{PairState, PairOpensTo}
use Rattle.esm_model.specs.declared.book.Trouble.TheVariants.{Disk, Dest}
use Rattle.esm_model.specs.declared.entry.Entry.{Entry}
use Rattle.esm_model.specs.declared.setup.Setup.{Setup}
use Rattle.esm_model.specs.declared.setup.Told.{Told}
use Rattle.esm_model.specs.Setup.{no_setup}
use Rattle.esm_model.specs.Setting.{Setting, Stream, Extends, over}
use Rattle.esm_model.specs.Step.{Legal}
use Rattle.esm_model.specs.Kept.{IsLegal}
use Rattle.esm_model.specs.Books.{entry_line, streams_told, entries_told, IsOfStream, stream_may_follow}
use Rattle.esm_model.proofs.BookLaws.{legal_kept, kept_legal}
use Rattle.esm_model.proofs.Histories.{legal_before}
use Rattle.esm_book.specs.Decided.{written_of}
use Rattle.esm_book.specs.Meanings.{CoreMeaning}
use Rattle.esm_book.specs.Growth.{LeavesFronts, OpensToFront, AreTold}
use Rattle.esm_book.specs.State.{in_hand, in_delivery}
use Rattle.esm_journal_record.specs.EntryPayload.{entry_payload}
use Rattle.esm_ledger.specs.Ledger.{LegalOver}
use Rattle.esm_outcome.specs.Ending.{SettledOver}
use Rattle.esm_record_bounds.specs.Bounds.{AreWithinBounds}
use Rattle.esm_stream_core.specs.CoreView.{CoreView, with_coming, setting_with, full_setting, MayFollowFront}
use Rattle.esm_stream_core.proofs.Settling.{coming_extends}
use Rattle.esm_stream_core.specs.declared.decisions.Opened.{Opened}
use Rattle.esm_stream_core.specs.declared.decisions.StreamEntry.{StreamEntry}
use Rattle.esm_stream_core.specs.Told.{stream_entries, history_of, owed_of, opened, told_entries, told_of}
use Rattle.esm_stream_book.specs.Books.{BookState, OpensToFirst, LeavesFirst}
use Rattle.esm_stream_book.specs.Calls.{Added}
use Rattle.esm_stream_book.specs.Keeping.{IsSound}
use Rattle.esm_stream_book.proofs.Entries.{entry_in, past_grows, told_grows, reversed_back, parted, parts_are}
use Rattle.esm_stream_book.proofs.Tellings.{told-append, told_stays, payload_in, line_in, payloads_told, lines_told}
use Rattle.esm_stream_book.proofs.Hands.{none_in_hand, none_in_delivery}
use Rattle.esm_stream_book.proofs.Records.{entries_same, told_front, AllCame, told_streams, all_came, all_of_stream}
use Rattle.esm_stream_book.proofs.Bringing.{BringAll, all_brought}

-- how a core means its history and what it owes
abbrev pub stream_meaning : CoreMeaning CoreView StreamEntry
stream_meaning = record { history = history_of; owed = owed_of; payload = payload_in; line = line_in }

-- these entries went to the history, and their payloads to the journal
pub record Went {D T : Type 0} (old new : BookState D T) (X : List StreamEntry) : Type 0 where
  pub history : history_of new.core ≡ reverse X ++ history_of old.core
  pub origin : opened new.core ≡ opened old.core
  pub payloads : new.pair.payloads ≡ old.pair.payloads ++ written_of payload_in X
  pub found : new.found ≡ old.found
  pub found_dest : new.found_dest ≡ old.found_dest
  pub records : new.core.setting.streams ≡ streams_told (told_of new.core)
  pub bounds : AreWithinBounds (full_setting new.core)

-- the setting is as it was opened

pub opened_so : (v w : CoreView) → opened v ≡ opened w → v.setting ≡ over w.setting v.setting.streams
opened_so v w is =
    ap (λ (o : Opened). record { config = o.config; calls = o.calls; streams = v.setting.streams; fates = o.fates; tries = o.tries; states = o.states; window_tries = o.window_tries }) is

-- what a crash leaves

pub opens_first : {T : Type 0} (n : DestMeaning T) (epoch : ℕ) (before : List (List ℕ)) (dest dest' : T) (X : List StreamEntry) (s : Setting) (es : List Entry) (one other : List ℕ) → X ≡ stream_entries s es
    → OpensToFront stream_meaning n epoch before dest dest' X one other → OpensToFirst n s epoch before dest dest' es one other
opens_first n epoch before dest dest' X s es one other is o =
    let whole = o.split ∙ is in
    let front = (parts_are s es o.front o.rest whole).0 in
    let first = map entry_in o.front in
    record {
      front = first;
      rest = map entry_in o.rest;
      split = parted s es o.front o.rest whole;
      opens = subst (λ (texts : List (List ℕ)). PairOpensTo (header_of 2) epoch (before ++ texts) one other) (ap (written_of payload_in) front ∙ payloads_told s first) o.opens;
      delivered = subst (λ (texts : List (List ℕ)). AreTold (n.lines dest) (n.lines dest') (map n.sends texts)) (ap (written_of line_in) front ∙ lines_told s first) o.delivered;
    }

pub leaves_first : {D T : Type 0} (m : DiskMeaning D) (n : DestMeaning T) (pair pair' : PairState D) (dest dest' : T) (X : List StreamEntry) (s : Setting) (es : List Entry) → X ≡ stream_entries s es
    → LeavesFronts stream_meaning m n pair pair' dest dest' X → LeavesFirst m n s pair pair' dest dest' es
leaves_first m n pair pair' dest dest' X s es is leaves honest spare one other i j =
    opens_first n pair.epoch pair.payloads dest dest' X s es one other is (leaves honest spare one other i j)

pub added_so : {D T : Type 0} (old new : BookState D T) (X : List StreamEntry) (s : Setting) (es : List Entry) → Went old new X → X ≡ stream_entries s es → Added s old new es
added_so old new X s es w is = record {
  past = past_grows old.core new.core s es X w.history is;
  told = told_grows old.core new.core s es X w.history is;
  opened = opened_so new.core old.core w.origin;
  payloads = w.payloads ∙ ap (λ (texts : List (List ℕ)). old.pair.payloads ++ texts) (ap (written_of payload_in) is ∙ payloads_told s es);
  found = w.found;
  found_dest = w.found_dest;
}

-- the history that a core tells is legal

-- what such a core was opened with
abbrev setup_for : CoreView → Setup
setup_for v = record no_setup {
  config = v.setting.config;
  calls = v.setting.calls;
  fates = v.setting.fates;
  tries = v.setting.tries;
  states = v.setting.states;
  window_tries = v.setting.window_tries;
}

-- where it is over lists that go on from the core's own
pub legal_onward : (v : CoreView) (streams : List Stream) → v.setting.streams ≡ streams_told (told_of v) → All IsOfStream (told_of v) → Extends (streams_told (told_of v)) streams → Legal (over v.setting streams) v.past → LegalOver v.setting v.past
legal_onward v streams records all goes legal after onward =
    let history = told_of v in
    let entries : entries_told history ≡ v.past = entries_same (full_setting v) v.past in
    let kept : IsLegal (stream_may_follow (setup_for v)) history = legal_kept (setup_for v) history streams all goes (subst (Legal (over v.setting streams)) (sym entries) legal) in
    subst (Legal (over v.setting after)) entries (kept_legal (setup_for v) history after kept (subst (λ (ts : List Stream). Extends ts after) records onward))

-- a history of which the last entries are taken away
pub legal_front : (s : Setting) (front rest es h : List Entry) → front ++ rest ≡ es → LegalOver s (reverse es ++ h) → Legal s (reverse front ++ h)
legal_front s front rest es h split legal =
    let apart : reverse es ++ h ≡ reverse rest ++ (reverse front ++ h) =
    ap (λ (xs : List Entry). reverse xs ++ h) (sym split) ∙ (ap (λ (xs : List Entry). xs ++ h) (reverse-append front rest) ∙ append_assoc (reverse rest) (reverse front) h) in
    legal_before s (reverse rest) (reverse front ++ h) (subst (Legal s) apart (legal s.streams (λ n i r at. at)))

module _ {D T : Type 0} (old new : BookState D T) (X : List StreamEntry) (coming : List Stream) (front : List Entry) where
  abbrev over_all : Setting
  over_all = setting_with old.core.setting coming

  told_before : old.core.coming ≡ [] → IsSound old → told_of old.core ≡ told_entries over_all (reverse old.core.past)
  told_before rests sound =
      let v = old.core in
      ap (λ (parts : List Stream). told_entries (setting_with v.setting parts) (reverse v.past)) rests
      ∙ sym (told_stays v.setting (with_coming v.setting.streams coming) v.past (coming_extends v.setting.streams coming) (sound.legal v.setting.streams (λ n i r at. at)))

  -- all is told over the records that came with the call
  told_after : Went old new X → X ≡ stream_entries over_all front → old.core.coming ≡ [] → IsSound old → told_of new.core ≡ told_entries over_all (reverse new.core.past)
  told_after w is rests sound =
      let past = past_grows old.core new.core over_all front X w.history is in
      let order : reverse (reverse front ++ old.core.past) ≡ reverse old.core.past ++ front =
      reverse-append (reverse front) old.core.past ∙ ap (λ (xs : List Entry). reverse old.core.past ++ xs) (reversed_back front) in
      told_grows old.core new.core over_all front X w.history is
      ∙ (ap (λ (ts : List Told). ts ++ told_entries over_all front) (told_before rests sound)
      ∙ (sym (told-append over_all (reverse old.core.past) front)
      ∙ ap (told_entries over_all) (sym order ∙ ap reverse (sym past))))

  of_stream_after : Went old new X → X ≡ stream_entries over_all front → old.core.coming ≡ [] → IsSound old → Legal over_all new.core.past → All IsOfStream (told_of new.core)
  of_stream_after w is rests sound legal =
      let told = told_after w is rests sound in
      subst (All IsOfStream) (sym told) (all_of_stream (full_setting new.core) over_all new.core.past w.bounds legal told)

  legal_after : Went old new X → X ≡ stream_entries over_all front → old.core.coming ≡ [] → IsSound old → Legal over_all new.core.past → LegalOver new.core.setting new.core.past
  legal_after w is rests sound legal =
      let told = told_after w is rests sound in
      let same : over_all ≡ over new.core.setting over_all.streams = sym (ap (λ (s : Setting). over s over_all.streams) (opened_so new.core old.core w.origin)) in
      legal_onward new.core over_all.streams w.records (of_stream_after w is rests sound legal)
      (subst (λ (ts : List Told). Extends (streams_told ts) over_all.streams) (sym told) (told_front over_all new.core.past legal))
      (subst (λ (s : Setting). Legal s new.core.past) same legal)

  -- a part was added
  pub sound_some : (rest es : List Entry) → Went old new X → X ≡ stream_entries over_all front → front ++ rest ≡ es → LegalOver over_all (reverse es ++ old.core.past) → old.core.coming ≡ [] → IsSound old → (new.trouble ≡ None → ⊥)
      → ((e : Entry) → in_hand new.trouble new.core.owed ≡ e ∷ [] → MayFollowFront new.core.setting new.core.past e) → ((e : Entry) → in_delivery new.trouble new.core.owed ≡ e ∷ [] → MayFollowFront new.core.setting new.core.past e)
      → (new.trouble ≡ Some Disk → (e : Entry) × (payload : List ℕ) × (in_hand new.trouble new.core.owed ≡ e ∷ []) × (entry_payload new.core.setting e ≡ Some payload))
      → (new.trouble ≡ Some Dest → (e : Entry) × (line : List ℕ) × (in_delivery new.trouble new.core.owed ≡ e ∷ []) × (entry_line e ≡ Some line)) → IsSound new
  sound_some rest es w is split over rests sound down hand tried hand_one tried_one =
      let past = past_grows old.core new.core over_all front X w.history is in
      let legal = subst (Legal over_all) (sym past) (legal_front over_all front rest es old.core.past split over) in
      record {
        records = w.records;
        of_stream = of_stream_after w is rests sound legal;
        legal = legal_after w is rests sound legal;
        settled = λ up. absurd (down up);
        hand_follows = hand;
        tried_follows = tried;
        hand_is_one = hand_one;
        tried_is_one = tried_one;
      }

  -- all was added
  pub setting_all : Went old new X → X ≡ stream_entries over_all front → LegalOver over_all (reverse front ++ old.core.past) → BringAll old.core.past coming front → old.core.coming ≡ [] → IsSound old → new.core.setting ≡ over_all
  setting_all w is over_them brings rests sound =
      let v = old.core in
      let past = past_grows v new.core over_all front X w.history is in
      let legal = subst (Legal over_all) (sym past) (over_them over_all.streams (λ n i r at. at)) in
      let before = all_came v.setting v.past (told_of v) (entries_same (full_setting v) v.past) sound.records sound.of_stream in
      let after : AllCame over_all new.core.past = subst (AllCame over_all) (sym past) (all_brought v.setting v.past coming front brings before) in
      opened_so new.core v w.origin
      ∙ ap (over v.setting) (w.records ∙ (ap streams_told (told_after w is rests sound) ∙ told_streams over_all new.core.past legal after))

  pub sound_all : Went old new X → X ≡ stream_entries over_all front → LegalOver over_all (reverse front ++ old.core.past) → SettledOver over_all (reverse front ++ old.core.past) → BringAll old.core.past coming front → old.core.coming ≡ [] → IsSound old → new.core.owed ≡ [] → new.trouble ≡ None → IsSound new
  sound_all w is over_them settled brings rests sound owed up =
      let past = past_grows old.core new.core over_all front X w.history is in
      let setting : over_all ≡ new.core.setting = sym (setting_all w is over_them brings rests sound) in
      let legal = subst (Legal over_all) (sym past) (over_them over_all.streams (λ n i r at. at)) in
      record {
        records = w.records;
        of_stream = of_stream_after w is rests sound legal;
        legal = subst (λ (s : Setting). LegalOver s new.core.past) setting (subst (LegalOver over_all) (sym past) over_them);
        settled = λ none. subst (λ (s : Setting). SettledOver s new.core.past) setting (subst (SettledOver over_all) (sym past) settled);
        hand_follows = λ e some. absurd (none_in_hand new.trouble new.core.owed e owed some);
        tried_follows = λ e some. absurd (none_in_delivery new.trouble new.core.owed e owed some);
        hand_is_one = λ failed. absurd (cc (sym up ∙ failed));
        tried_is_one = λ failed. absurd (cc (sym up ∙ failed));
      }
