-- What is true of every book, in the words of streams.
use Rattle.std.proofs.Common.{◌≡◌, ℕ, List, [], ◌++◌, map, reverse, take, refl, sym, ap, ap₂, ◌∙◌, subst, Option, Some, None}
use Rattle.std.specs.List.{All}
use Rattle.std.proofs.lemmas.List.{map-append}
use Rattle.std.proofs.lemmas.List.Elements.{All-nil}
use Rattle.esm_io.specs.Meanings.{DiskMeaning, DestMeaning}
use Rattle.esm_model.specs.declared.book.Trouble.{Trouble}
use Rattle.esm_model.specs.declared.book.Trouble.TheVariants.{Disk, Dest, Changed}
use Rattle.esm_model.specs.declared.config.Config.{Config}
use Rattle.esm_model.specs.declared.entry.Entry.{Entry}
use Rattle.esm_model.specs.declared.setup.FoundFate.{FoundFate}
use Rattle.esm_model.specs.declared.setup.FoundTries.{FoundTries}
use Rattle.esm_model.specs.declared.setup.FoundState.{FoundState}
use Rattle.esm_model.specs.declared.setup.FoundWindowTries.{FoundWindowTries}
use Rattle.esm_model.specs.declared.setup.Setup.{Setup}
use Rattle.esm_model.specs.declared.setup.Told.{Told}
use Rattle.esm_model.specs.Setting.{Setting, Stream, Extends, over}
use Rattle.esm_model.specs.Step.{Legal}
use Rattle.esm_model.specs.Kept.{IsLegal}
use Rattle.esm_model.specs.Books.{streams_told, setting_told, entries_told, IsOfStream, stream_may_follow}
use Rattle.esm_book.specs.Decided.{written_of}
use Rattle.esm_book.specs.Growth.{ReadsFront, Takes}
use Rattle.esm_book.specs.State.{in_hand, in_delivery, IsKept}
use Rattle.esm_stream_core.specs.CoreView.{CoreView, new_view, full_setting}
use Rattle.esm_stream_core.proofs.Settling.{none_settled}
use Rattle.esm_stream_core.specs.declared.decisions.StreamEntry.{StreamEntry}
use Rattle.esm_stream_core.specs.Told.{stream_entry, stream_entries, history_of, owed_of, told_of}
use Rattle.esm_stream_book.specs.Books.{BookState, payloads_in, sent_of}
use Rattle.esm_stream_book.specs.Keeping.{IsSound, IsSetupOf, HasJournal, HasLines, entries_left, lines_left}
use Rattle.esm_stream_book.proofs.Entries.{map-reverse, take-entries}
use Rattle.esm_stream_book.proofs.Hands.{none_in_hand, none_in_delivery}
use Rattle.esm_stream_book.proofs.Tellings.{payload_in, payloads_told, line_in, lines_told}
use Rattle.esm_stream_book.proofs.Records.{entries_same}
use Rattle.esm_stream_book.proofs.Going.{stream_meaning}
use Rattle.esm_stream_book.proofs.Endings.{lines_sent}

-- a book in which no record came
pub sound_new : {D T : Type 0} (b : BookState D T) (s : Setting) → s.streams ≡ [] → b.core ≡ new_view s → b.trouble ≡ None → IsSound b
sound_new {D} {T} b s none is up =
    let fresh : BookState D T = record b { core = new_view s } in
    let sound : IsSound fresh = record { records = none; of_stream = All-nil IsOfStream; legal = λ streams goes. tt; settled = λ none. none_settled s; hand_follows = λ e some. absurd (none_in_hand b.trouble [] e refl some); tried_follows = λ e some. absurd (none_in_delivery b.trouble [] e refl some); hand_is_one = λ failed. absurd (cc (sym up ∙ failed)); tried_is_one = λ failed. absurd (cc (sym up ∙ failed)) } in
    subst (λ (v : CoreView). IsSound (record b { core = v })) (sym is) sound

-- the devices

oldest_first : (v : CoreView) → reverse (history_of v) ≡ stream_entries (full_setting v) (reverse v.past)
oldest_first v = sym (map-reverse (stream_entry (full_setting v)) v.past)

hand_so : (t : Option Trouble) (s : Setting) (owed : List Entry) → in_hand t (stream_entries s owed) ≡ stream_entries s (in_hand t owed)
hand_so None s owed = refl
hand_so (Some Disk) s owed = take-entries s owed
hand_so (Some Dest) s owed = refl
hand_so (Some (Changed change)) s owed = refl

pub left_so : {D T : Type 0} (b : BookState D T) → reverse (history_of b.core) ++ in_hand b.trouble (owed_of b.core) ≡ stream_entries (full_setting b.core) (entries_left b)
left_so b =
    ap₂ (λ (xs ys : List StreamEntry). xs ++ ys) (oldest_first b.core) (hand_so b.trouble (full_setting b.core) b.core.owed)
    ∙ sym (map-append (stream_entry (full_setting b.core)) (reverse b.core.past) (in_hand b.trouble b.core.owed))

delivery_so : (t : Option Trouble) (s : Setting) (owed : List Entry) → in_delivery t (stream_entries s owed) ≡ stream_entries s (in_delivery t owed)
delivery_so None s owed = refl
delivery_so (Some Disk) s owed = refl
delivery_so (Some Dest) s owed = take-entries s owed
delivery_so (Some (Changed change)) s owed = refl

-- the lines of entries, as they are sent
sent_so : {T : Type 0} (n : DestMeaning T) (s : Setting) (X : List StreamEntry) (es : List Entry) → X ≡ stream_entries s es → map n.sends (written_of line_in X) ≡ sent_of n es
sent_so n s X es is = ap (map n.sends) (ap (written_of line_in) is ∙ lines_told s es)

lines_left_so : {D T : Type 0} (b : BookState D T) → (reverse (history_of b.core) ++ in_hand b.trouble (owed_of b.core)) ++ in_delivery b.trouble (owed_of b.core) ≡ stream_entries (full_setting b.core) (lines_left b)
lines_left_so b =
    ap₂ (λ (xs ys : List StreamEntry). xs ++ ys) (left_so b) (delivery_so b.trouble (full_setting b.core) b.core.owed)
    ∙ sym (map-append (stream_entry (full_setting b.core)) (entries_left b) (in_delivery b.trouble b.core.owed))

pub has_journal : {D T : Type 0} (m : DiskMeaning D) (n : DestMeaning T) (b : BookState D T) → IsKept stream_meaning m n b → HasJournal m b
has_journal m n b k =
    let a = k.grown.appended in
    record {
      payloads = a.payloads ∙ ap (λ (texts : List (List ℕ)). b.found.payloads ++ texts) (ap (written_of payload_in) (oldest_first b.core) ∙ payloads_told (full_setting b.core) (reverse b.core.past));
      down = k.pair_down;
      found_up = k.found_up;
      epoch = a.epoch;
      swapped = a.swapped;
      spare = a.spare;
      honesty = a.honesty;
    }

pub has_lines : {D T : Type 0} (m : DiskMeaning D) (n : DestMeaning T) (b : BookState D T) → IsKept stream_meaning m n b → HasLines n b
has_lines m n b k =
    let d = k.grown.delivered in
    let s = full_setting b.core in
    let left = reverse (history_of b.core) ++ in_hand b.trouble (owed_of b.core) in
    let tried = in_delivery b.trouble (owed_of b.core) in
    record {
      lines = lines_sent n b.found_dest b.dest (reverse (history_of b.core) ++ in_hand b.trouble (owed_of b.core)) (full_setting b.core) (entries_left b) (left_so b) d.told;
      failed = k.dest_failed;
      found_usable = k.found_usable;
      honesty = d.honesty;
      images = λ honest held told. subst (λ (lines : List (List ℕ)). Takes n b.found_dest b.dest held lines) (sent_so n s (left ++ tried) (lines_left b) (lines_left_so b)) (d.images honest held told);
      durable = λ honest held told only bytes since.
          subst (λ (lines : List (List ℕ)). ReadsFront n.reads_as (held ++ lines) (sent_of n (in_delivery b.trouble b.core.owed)) bytes) (sent_so n s left (entries_left b) (left_so b))
          (subst (λ (lines : List (List ℕ)). ReadsFront n.reads_as (held ++ map n.sends (written_of line_in left)) lines bytes)
          (sent_so n s tried (in_delivery b.trouble b.core.owed) (delivery_so b.trouble s b.core.owed))
          (d.durable honest held told only bytes since));
    }

-- as threads hand it on

setting_for : {D T : Type 0} (setup : Setup) (b : BookState D T) → IsSetupOf setup b → over (setting_told setup (told_of b.core)) b.core.setting.streams ≡ b.core.setting
setting_for setup b is =
    ap₂ (λ (config : Config) (calls : ℕ). record { config = config; calls = calls; streams = b.core.setting.streams; fates = setup.fates; tries = setup.tries; states = setup.states; window_tries = setup.window_tries }) is.config is.calls
    ∙ (ap₂ (λ (fates : List FoundFate) (tries : List FoundTries). record b.core.setting { fates = fates; tries = tries; states = setup.states; window_tries = setup.window_tries }) is.fates is.tries
    ∙ ap₂ (λ (states : List FoundState) (window_tries : List FoundWindowTries). record b.core.setting { states = states; window_tries = window_tries }) is.states is.window_tries)

abbrev pub IsKeptLaw : Type 0
IsKeptLaw = (setup : Setup) (history : List Told) (streams : List Stream) → All IsOfStream history → Extends (streams_told history) streams
    → Legal (over (setting_told setup history) streams) (entries_told history) → IsLegal (stream_may_follow setup) history

pub legal_told : {D T : Type 0} (b : BookState D T) → IsKeptLaw → IsSound b → (setup : Setup) → IsSetupOf setup b → IsLegal (stream_may_follow setup) (told_of b.core)
legal_told b law sound setup is =
    let history = told_of b.core in
    let ts = b.core.setting.streams in
    let own = sound.legal ts (λ n i r at. at) in
    law setup history ts sound.of_stream (subst (λ (us : List Stream). Extends us ts) sound.records (λ n i r at. at))
    (subst (λ (s : Setting). Legal s (entries_told history)) (sym (setting_for setup b is)) (subst (Legal b.core.setting) (sym (entries_same (full_setting b.core) b.core.past)) own))

-- the payload that was being written is the same without the records that are coming
pub hand_alone : (why : Option Trouble) (v : CoreView) → payloads_in (full_setting v) (take 1 v.owed) ≡ payloads_in v.setting (take 1 v.owed) → payloads_in (full_setting v) (in_hand why v.owed) ≡ payloads_in v.setting (in_hand why v.owed)
hand_alone None v first = refl
hand_alone (Some Disk) v first = first
hand_alone (Some Dest) v first = refl
hand_alone (Some (Changed change)) v first = refl
