-- What is told and written of entries: the same over more records.
use Rattle.std.proofs.Common.{◌≡◌, ℕ, zero, suc, ◌+◌, ◌≤◌, List, [], ◌∷◌, ◌++◌, length, map, take, drop, reverse, refl, sym, ap, ap₂, ◌∙◌, arith, Option, Some, None}
use Rattle.std.specs.Prelude.{filter_map, slice_get}
use Rattle.std.specs.List.{cons_option}
use Rattle.std.proofs.lemmas.List.{map-append, reverse-append}
use Rattle.esm_model.specs.Records.{Record}
use Rattle.esm_model.specs.declared.setup.Told.{Told}
use Rattle.esm_model.specs.declared.entry.Entry.{Entry}
use Rattle.esm_model.specs.declared.entry.Entry.TheVariants.{Came, Began, Ended, Gave, Tried, Closed, Replayed, Shut}
use Rattle.esm_model.specs.Setting.{Setting, Stream, Extends, over, records_of}
use Rattle.esm_model.specs.Step.{Legal}
use Rattle.esm_model.specs.Books.{entry_line}
use Rattle.esm_journal_record.specs.EntryPayload.{entry_payload}
use Rattle.esm_book.specs.Decided.{written_of}
use Rattle.esm_stream_core.specs.CoreView.{lines_of}
use Rattle.esm_stream_core.specs.declared.decisions.StreamEntry.{StreamEntry}
use Rattle.esm_stream_core.specs.Told.{covered, stream_entry, stream_entries, told_entries}

-- what is told

pub told-append : (s : Setting) (es more : List Entry) → told_entries s (es ++ more) ≡ told_entries s es ++ told_entries s more
told-append s es more =
    ap (map (λ (x : StreamEntry). x.told)) (map-append (stream_entry s) es more)
    ∙ map-append (λ (x : StreamEntry). x.told) (stream_entries s es) (stream_entries s more)

-- of a history, with one more entry
pub told_more : (s : Setting) (e : Entry) (h : List Entry) → told_entries s (reverse (e ∷ h)) ≡ told_entries s (reverse h) ++ told_entries s (e ∷ [])
told_more s e h = ap (told_entries s) (reverse-append (e ∷ []) h) ∙ told-append s (reverse h) (e ∷ [])

pub entries_back : (s : Setting) (es : List Entry) → map (λ (t : Told). t.entry) (told_entries s es) ≡ es
entries_back s [] = refl
entries_back s (e ∷ es) = ap (λ (xs : List Entry). e ∷ xs) (entries_back s es)

-- over more records

front_stays : (xs ys : List Record) → ((i : ℕ) (r : Record) → slice_get xs i ≡ Some r → slice_get ys i ≡ Some r) → (first count : ℕ) → first + count ≤ length xs → take count (drop first ys) ≡ take count (drop first xs)
front_stays xs ys extends first zero low = refl
front_stays [] ys extends first (suc count) low = absurd (omega (arith, low))
front_stays (x ∷ xs) [] extends first (suc count) low =
    let at : ◌≡◌ {A = Option Record} None (Some x) = extends 0 x refl in absurd (cc)
front_stays (x ∷ xs) (y ∷ ys) extends zero (suc count) low =
    let at : ◌≡◌ {A = Option Record} (Some y) (Some x) = extends 0 x refl in
    let same : y ≡ x = cc in
    ap₂ (λ (r : Record) (rs : List Record). r ∷ rs) same (front_stays xs ys (λ i r got. extends (suc i) r got) zero count (omega (arith, low)))
front_stays (x ∷ xs) (y ∷ ys) extends (suc first) (suc count) low = front_stays xs ys (λ i r got. extends (suc i) r got) first (suc count) (omega (arith, low))

covered_stays : (s : Setting) (after : List Stream) (h : List Entry) (e : Entry) → Extends s.streams after → Legal s (e ∷ h) → covered (over s after) e ≡ covered s e
covered_stays s after h (Came n first count m) extends legal = front_stays (records_of s n) (records_of (over s after) n) (extends n) first count legal.1.1.within
covered_stays s after h (Began lane places closing m) extends legal = refl
covered_stays s after h (Ended lane reply m) extends legal = refl
covered_stays s after h (Gave by n places fate line state m) extends legal = refl
covered_stays s after h (Tried lane places closing tries m) extends legal = refl
covered_stays s after h (Closed lane w m) extends legal = refl
covered_stays s after h (Replayed n places m) extends legal = refl
covered_stays s after h (Shut m) extends legal = refl

pub told_stays : (s : Setting) (after : List Stream) (h : List Entry) → Extends s.streams after → Legal s h → told_entries (over s after) (reverse h) ≡ told_entries s (reverse h)
told_stays s after [] extends legal = refl
told_stays s after (e ∷ h) extends legal =
    told_more (over s after) e h
    ∙ (ap₂ (λ (ts : List Told) (rs : List Record). ts ++ record { entry = e; records = rs; messages = [] } ∷ []) (told_stays s after h extends legal.0) (covered_stays s after h e extends legal)
    ∙ sym (told_more s e h))

-- where nothing is told nothing is owed
pub none_owed : (s : Setting) (es : List Entry) → stream_entries s es ≡ [] → es ≡ []
none_owed s [] is = refl
none_owed s (e ∷ es) is = absurd (cc)

-- what is written

abbrev pub payload_in : StreamEntry → Option (List ℕ)
payload_in e = e.payload

abbrev pub line_in : StreamEntry → Option (List ℕ)
line_in e = e.line

pub payloads_told : (s : Setting) (es : List Entry) → written_of payload_in (stream_entries s es) ≡ filter_map (entry_payload s) es
payloads_told s [] = refl
payloads_told s (e ∷ es) = ap (λ (bytes : List (List ℕ)). cons_option (entry_payload s e) bytes) (payloads_told s es)

pub lines_told : (s : Setting) (es : List Entry) → written_of line_in (stream_entries s es) ≡ lines_of es
lines_told s [] = refl
lines_told s (e ∷ es) = ap (λ (bytes : List (List ℕ)). cons_option (entry_line e) bytes) (lines_told s es)
